use Rattle.pg_certificate_own.proofs.Written.{costs_there}
use Rattle.pg_certificate_own.proofs.own.own_certificate.Goals as goal

pub unreachable-requires : goal.unreachable-requires
unreachable-requires c =
    costs_there c.args.checked.now c.grammar-grammar.result.now c.sets-sets.result.now c.in_ok-costs.field-0 c.grammar-grammar.ensures.checked c.grammar-grammar.ensures.grammar c.sets-sets.ensures.sets
    c.in_ok-costs.ensures c.in-None.is
