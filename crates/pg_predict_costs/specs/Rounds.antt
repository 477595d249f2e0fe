-- Costs that grow in rounds, and costs and sizes that stop at the greatest number.
use Rattle.std.specs.Prelude.{◌≡◌, ◌+◌, ◌-◌, ◌≤◌, ◌^◌, ℕ, Bool, List, Some, slice_get, length, sum_by}
use Rattle.pg_grammar_form.specs.Forms.{Node, parts_of}
use Rattle.pg_grammar_value.specs.Grammar.{Grammar}
use Rattle.pg_predict_costs.specs.Steps.{number_at, cut_off, steps_of_all}
use Rattle.pg_predict_costs.specs.Costs.{node_cost, AreCosts}
use Rattle.pg_predict_costs.specs.StepCost.{own_steps}

-- no number is above the true cost or above the greatest number
abbrev pub AreLow : Grammar → List Bool → List ℕ → Type 0
AreLow g nullable numbers = (costs : List ℕ) → AreCosts g nullable costs → (p : ℕ) → number_at numbers p ≤ cut_off (number_at costs p)

-- the number at the node is no smaller than the other numbers demand
abbrev pub IsSettled : Grammar → List Bool → List ℕ → ℕ → Type 0
IsSettled g nullable numbers p = (n : Node) → slice_get g.nodes p ≡ Some n →
    cut_off (node_cost g nullable (number_at numbers) n) ≤ number_at numbers p

-- the numbers are the true costs, or the greatest number where a cost is greater
abbrev pub AreCutCosts : Grammar → List Bool → List ℕ → Type 0
AreCutCosts g nullable numbers = (costs : List ℕ) → AreCosts g nullable costs → (p : ℕ) → number_at numbers p ≡ cut_off (number_at costs p)

-- how much these numbers can still grow
abbrev pub room : List ℕ → ℕ
room numbers = sum_by (λ c. (2 ^ 64 - 1) - c) numbers

-- the number at the node is its size by these costs and the numbers of its parts, or the greatest number if that is greater
abbrev pub IsSized : Grammar → List ℕ → List ℕ → ℕ → Type 0
IsSized g costs sizes p = (n : Node) → slice_get g.nodes p ≡ Some n →
    number_at sizes p ≡ cut_off (own_steps g (number_at costs) n + steps_of_all (number_at sizes) (parts_of n))

-- each number is its node's size, cut in this way
pub record AreCutSizes (g : Grammar) (costs sizes : List ℕ) : Type 0 where
  pub long : length sizes ≡ length g.nodes
  pub each : (p : ℕ) → IsSized g costs sizes p
