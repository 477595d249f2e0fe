use Rattle.std.proofs.Common.{rules, string_bytes}
use Rattle.pg_pred.proofs.Lookup.{found_is_under, none_is_under}
use Rattle.pg_pred.proofs.registry.Registry.predicate.Goals as goal

pub returns-clause-class : goal.returns-clause-class
returns-clause-class g c =
    found_is_under c.args.self.now.predicates.items (λ p. string_bytes p.name) (λ p. p.class) c.args.name.now c.with_name.result (search rules)

pub returns-clause-none : goal.returns-clause-none
returns-clause-none g c =
    none_is_under c.args.self.now.predicates.items (λ p. string_bytes p.name) (λ p. p.class) c.args.name.now c.with_name.result (search rules)
