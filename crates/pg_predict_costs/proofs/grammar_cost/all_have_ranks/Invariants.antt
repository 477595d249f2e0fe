use Rattle.std.proofs.Common.{◌≡◌, ◌<◌, ℕ, None}
use Rattle.pg_sets_nullable.specs.Ranks.{rank_at}
use Rattle.pg_predict_costs.proofs.grammar_cost.all_have_ranks.Given as goal

abbrev pub invariant-loop-rule : goal.invariant-loop-rule
invariant-loop-rule l = (r : ℕ) → r < l.rule → rank_at l.sets.ranks r ≡ None → ⊥
