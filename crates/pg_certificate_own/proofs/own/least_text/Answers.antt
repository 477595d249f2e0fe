use Rattle.pg_certificate_own.proofs.Written.{ranks_there}
use Rattle.pg_certificate_own.proofs.own.least_text.Goals as goal

pub unreachable-requires : goal.unreachable-requires
unreachable-requires c =
    ranks_there c.args.grammar.now c.args.sets.now c.args.costs.now c.in_ok-certificate.field-0 c.requires.sets c.requires.cost c.in_ok-certificate.ensures c.in-None.is
