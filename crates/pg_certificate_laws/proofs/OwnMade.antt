-- What claims say of nodes is there: which are nullable, what ranks they ask for, what they cost, and the step cost by that.
use Rattle.std.proofs.Common.{◌≡◌, ◌<◌, ◌+◌, ◌*◌, ℕ, false, List, [], ◌∷◌, refl, ap, ap₂}
use Rattle.pg_certificate.specs.declared.certificate.RuleClaim.{RuleClaim}
use Rattle.pg_predict_costs.specs.FoundCost.{IsCostByCosts}
use Rattle.pg_predict_costs.specs.Rounds.{AreCutSizes}
use Rattle.pg_predict_costs.specs.StepCost.{own_steps, grammar_levels, greatest_size}
use Rattle.pg_predict_costs.specs.Steps.{number_at, cut_off, steps_of_all, row_steps}
use Rattle.pg_grammar_form.specs.Forms.{Node, parts_of}
use Rattle.pg_grammar_value.specs.Follows.{PartsFollow}
use Rattle.pg_grammar_value.specs.Grammar.{Grammar, IsGrammar}
use Rattle.pg_certificate_verify.proofs.Locality.{nullable_local, rank_local, cost_local}
use Rattle.pg_certificate_verify.proofs.OnePass.{IsLocal}
use Rattle.pg_certificate_verify.specs.Cost.{cost_by}
use Rattle.pg_certificate_verify.specs.Judged.{Said, IsSaid}
use Rattle.pg_certificate_verify.specs.Nullable.{nullable_by}
use Rattle.pg_certificate_verify.specs.Rank.{rank_by}
use Rattle.pg_certificate_laws.proofs.Making.{all_kept}

steps_same : (f h : ℕ → ℕ) (k count : ℕ) (ps : List ℕ) → ((q : ℕ) → k < q → f q ≡ h q) → PartsFollow k count ps → steps_of_all f ps ≡ steps_of_all h ps
steps_same f h k count [] same after = refl
steps_same f h k count (p ∷ ps) same after = ap₂ (λ a b. a + b) (same p after.0.0) (steps_same f h k count ps same after.1)

-- the size of a node by the sizes of its parts
abbrev pub size_by : Grammar → List ℕ → (ℕ → ℕ) → Node → ℕ
size_by g costs size n = cut_off (own_steps g (number_at costs) n + steps_of_all size (parts_of n))

pub size_local : (g : Grammar) (costs : List ℕ) → IsLocal (size_by g costs)
size_local g costs f h k count n same after = ap (λ x. cut_off (own_steps g (number_at costs) n + x)) (steps_same f h k count (parts_of n) same after)

pub sizes_there : (g : Grammar) → IsGrammar g → (costs : List ℕ) → (sizes : List ℕ) × AreCutSizes g costs sizes
sizes_there g grammar costs =
    let made = all_kept 0 (size_by g costs) g grammar (size_local g costs) in
    (made.0, record { long = made.1; each = made.2 })

pub cost_by_costs_there : (g : Grammar) → IsGrammar g → (costs : List ℕ) → (cost : ℕ) × IsCostByCosts g costs cost
cost_by_costs_there g grammar costs =
    let made = sizes_there g grammar costs in (
      cut_off (cut_off (grammar_levels g) * greatest_size (number_at made.0) (cut_off (row_steps g)) g.rules),
      record { sizes = made.0; are_sizes = made.1; is = refl },
    )

pub said_there : (g : Grammar) → IsGrammar g → (claims : List RuleClaim) → (said : Said) × IsSaid g claims said
said_there g grammar claims =
    let marks = all_kept false (nullable_by claims) g grammar (nullable_local claims) in
    let ranks = all_kept 0 (rank_by claims marks.0) g grammar (rank_local claims marks.0) in
    let costs = all_kept 0 (λ cost n. cut_off (cost_by g claims marks.0 cost n)) g grammar (cost_local g claims marks.0) in (
      record { nullable = marks.0; ranks = ranks.0; costs = costs.0 },
      record {
        nullable = record { long = marks.1; each = marks.2 };
        ranks = record { long = ranks.1; each = ranks.2 };
        costs = record { long = costs.1; each = costs.2 };
      },
    )
