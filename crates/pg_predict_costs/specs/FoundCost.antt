-- What `step_cost` finds.
use Rattle.std.specs.Prelude.{◌≡◌, ◌<◌, ◌*◌, ℕ, Bool, List, Option, Some, None, length}
use Rattle.pg_sets_nullable.specs.Ranks.{rank_at}
use Rattle.pg_grammar_value.specs.Grammar.{Grammar}
use Rattle.pg_predict_costs.specs.Rounds.{AreCutSizes}
use Rattle.pg_predict_costs.specs.Steps.{number_at, cut_off, row_steps}
use Rattle.pg_predict_costs.specs.StepCost.{grammar_levels, greatest_size, IsStepCost}

-- the grammar has a step cost, and `cost` is that, or the greatest number if it is greater
pub record IsCutStepCost (g : Grammar) (nullable : List Bool) (cost : ℕ) : Type 0 where
  pub there : (k : ℕ) × IsStepCost g nullable k
  pub is : (k : ℕ) → IsStepCost g nullable k → cost ≡ cut_off k

-- a number that was found is the step cost, cut in this way; if none was found, there is no step cost
abbrev pub IsFoundCost : Grammar → List Bool → Option ℕ → Type 0
IsFoundCost g nullable None = (k : ℕ) → IsStepCost g nullable k → ⊥
IsFoundCost g nullable (Some cost) = IsCutStepCost g nullable cost

-- each rule has a rank
abbrev pub HaveRanks : Grammar → List (Option ℕ) → Type 0
HaveRanks g ranks = (r : ℕ) → r < length g.rules → rank_at ranks r ≡ None → ⊥

-- the number is what the step cost would be if these were the costs of the nodes, or the greatest number if that is greater
pub record IsCostByCosts (g : Grammar) (costs : List ℕ) (cost : ℕ) : Type 0 where
  pub sizes : List ℕ
  pub are_sizes : AreCutSizes g costs sizes
  pub is : cost ≡ cut_off (cut_off (grammar_levels g) * greatest_size (number_at sizes) (cut_off (row_steps g)) g.rules)
