use Rattle.std.proofs.Common.{◌∙◌, ◌||◌, string_bytes, refl, sym, ap₂, true≢false}
use Rattle.pg_pred_program.proofs.Offered.{predicates_differ, builders_differ}
use Rattle.pg_pred_program.proofs.registry.with_both.Goals as goal

-- no name stands twice
pub unreachable-requires : goal.unreachable-requires
unreachable-requires g c =
    let twice = c.in-Err.ensures.twice.0 refl in
    let predicates = predicates_differ c.args.predicates.items (λ p. string_bytes p.name) (λ p. p.class) c.requires.predicates in
    let builders = builders_differ c.args.builders.items (λ b. string_bytes b.name) (λ b. b.shape) c.requires.builders in
    true≢false (sym twice ∙ ap₂ (λ a b. a || b) predicates builders)
