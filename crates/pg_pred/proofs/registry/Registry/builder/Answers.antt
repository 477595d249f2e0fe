use Rattle.std.proofs.Common.{rules, string_bytes}
use Rattle.pg_pred.proofs.Lookup.{found_is_under, none_is_under}
use Rattle.pg_pred.proofs.registry.Registry.builder.Goals as goal

pub returns-clause-shape : goal.returns-clause-shape
returns-clause-shape g c =
    found_is_under c.args.self.now.builders.items (λ p. string_bytes p.name) (λ p. p.shape) c.args.name.now c.with_name.result (search rules)

pub returns-clause-none : goal.returns-clause-none
returns-clause-none g c =
    none_is_under c.args.self.now.builders.items (λ p. string_bytes p.name) (λ p. p.shape) c.args.name.now c.with_name.result (search rules)
