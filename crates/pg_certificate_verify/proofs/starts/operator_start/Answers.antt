use Rattle.pg_certificate_verify.proofs.Standing.{operator_stands}
use Rattle.pg_certificate_verify.proofs.starts.operator_start.Goals as goal

pub returns : goal.returns
returns c = λ listed. rw (c.in_ok-starts.ensures, c.in_ok-operator.ensures) (operator_stands c.args.grammar.now c.args.both.now c.requires listed)
