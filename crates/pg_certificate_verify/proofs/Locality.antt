-- What the claims say of a node is found by its parts alone.
use Rattle.std.proofs.Common.{◌≡◌, ◌<◌, ◌&&◌, ◌||◌, ◌+◌, ℕ, max, Bool, if◌then◌else◌, List, [], ◌∷◌, refl, ap, ap₂}
use Rattle.std.specs.List.{list_all, list_any}
use Rattle.pg_certificate.specs.declared.certificate.RuleClaim.{RuleClaim}
use Rattle.pg_predict_costs.specs.Costs.{tries_ended_string}
use Rattle.pg_predict_costs.specs.Steps.{steps_of_all, row_steps, cut_off}
use Rattle.pg_grammar_form.specs.declared.form.Form.TheVariants as form
use Rattle.pg_sets_nullable.specs.Parts.{up_to_unmarked}
use Rattle.pg_grammar_value.specs.Follows.{PartsFollow}
use Rattle.pg_grammar_value.specs.Grammar.{Grammar}
use Rattle.pg_certificate_verify.specs.Cost.{cost_by}
use Rattle.pg_certificate_verify.specs.Nullable.{nullable_by}
use Rattle.pg_certificate_verify.specs.Rank.{greatest_of, rank_by}
use Rattle.pg_certificate_verify.proofs.OnePass.{IsLocal}
use Rattle.pg_certificate_verify.proofs.ReachedParts.{reached_after}

-- two ways to number nodes agree behind this one
abbrev Agree : {V : Type 0} → (ℕ → V) → (ℕ → V) → ℕ → Type 0
Agree f h k = (q : ℕ) → k < q → f q ≡ h q

-- ---- nullable

all_local : (f h : ℕ → Bool) (k count : ℕ) (ps : List ℕ) → Agree f h k → PartsFollow k count ps → list_all f ps ≡ list_all h ps
all_local f h k count [] same after = refl
all_local f h k count (p ∷ ps) same after = ap₂ (λ a b. a && b) (same p after.0.0) (all_local f h k count ps same after.1)

any_local : (f h : ℕ → Bool) (k count : ℕ) (ps : List ℕ) → Agree f h k → PartsFollow k count ps → list_any f ps ≡ list_any h ps
any_local f h k count [] same after = refl
any_local f h k count (p ∷ ps) same after = ap₂ (λ a b. a || b) (same p after.0.0) (any_local f h k count ps same after.1)

pub nullable_local : (claims : List RuleClaim) → IsLocal (nullable_by claims)
nullable_local claims f h k count (form.Leaf leaf) same after = refl
nullable_local claims f h k count (form.Seq parts) same after = all_local f h k count parts same after
nullable_local claims f h k count (form.Choice parts) same after = any_local f h k count parts same after
nullable_local claims f h k count (form.Many part) same after = refl
nullable_local claims f h k count (form.Chain side used operand separator) same after = same operand after.0.0
nullable_local claims f h k count (form.Rule rule) same after = refl
nullable_local claims f h k count (form.Expression builders term) same after = same term after.0.0
nullable_local claims f h k count (form.Around around part) same after = same part after.0.0

-- ---- ranks

greatest_local : (f h : ℕ → ℕ) (k count : ℕ) (ps : List ℕ) → Agree f h k → PartsFollow k count ps → greatest_of f ps ≡ greatest_of h ps
greatest_local f h k count [] same after = refl
greatest_local f h k count (p ∷ ps) same after = ap₂ (λ a b. max a b) (same p after.0.0) (greatest_local f h k count ps same after.1)

pub rank_local : (claims : List RuleClaim) (nullable : List Bool) → IsLocal (rank_by claims nullable)
rank_local claims nullable f h k count (form.Leaf leaf) same after = refl
rank_local claims nullable f h k count (form.Seq parts) same after = greatest_local f h k count (up_to_unmarked nullable parts) same (reached_after nullable k count parts after)
rank_local claims nullable f h k count (form.Choice parts) same after = greatest_local f h k count parts same after
rank_local claims nullable f h k count (form.Many part) same after = same part after.0.0
rank_local claims nullable f h k count (form.Chain side used operand separator) same after =
    greatest_local f h k count (up_to_unmarked nullable (operand ∷ separator ∷ [])) same (reached_after nullable k count (operand ∷ separator ∷ []) after)
rank_local claims nullable f h k count (form.Rule rule) same after = refl
rank_local claims nullable f h k count (form.Expression builders term) same after = same term after.0.0
rank_local claims nullable f h k count (form.Around around part) same after = same part after.0.0

-- ---- costs

steps_local : (f h : ℕ → ℕ) (k count : ℕ) (ps : List ℕ) → Agree f h k → PartsFollow k count ps → steps_of_all f ps ≡ steps_of_all h ps
steps_local f h k count [] same after = refl
steps_local f h k count (p ∷ ps) same after = ap₂ (λ a b. a + b) (same p after.0.0) (steps_local f h k count ps same after.1)

kept_cost : (b : Bool) (x y : ℕ) → x ≡ y → (if b then 8 else 2 + x) ≡ (if b then 8 else 2 + y)
kept_cost b x y e = ap (λ z. if b then 8 else 2 + z) e

pub cost_local : (g : Grammar) (claims : List RuleClaim) (nullable : List Bool) → IsLocal (λ cost n. cut_off (cost_by g claims nullable cost n))
cost_local g claims nullable f h k count (form.Leaf leaf) same after = refl
cost_local g claims nullable f h k count (form.Seq parts) same after =
    ap (λ x. cut_off (2 + x)) (steps_local f h k count (up_to_unmarked nullable parts) same (reached_after nullable k count parts after))
cost_local g claims nullable f h k count (form.Choice parts) same after = ap (λ x. cut_off (2 + x)) (steps_local f h k count parts same after)
cost_local g claims nullable f h k count (form.Many part) same after = ap (λ x. cut_off (2 + x)) (same part after.0.0)
cost_local g claims nullable f h k count (form.Chain side used operand separator) same after =
    ap (λ x. cut_off (2 + x)) (steps_local f h k count (up_to_unmarked nullable (operand ∷ separator ∷ operand ∷ [])) same
    (reached_after nullable k count (operand ∷ separator ∷ operand ∷ []) (after.0, (after.1.0, (after.0, tt)))))
cost_local g claims nullable f h k count (form.Rule rule) same after = refl
cost_local g claims nullable f h k count (form.Expression builders term) same after = ap (λ x. cut_off (2 + (row_steps g + x))) (same term after.0.0)
cost_local g claims nullable f h k count (form.Around around part) same after = ap cut_off (kept_cost (tries_ended_string g.nodes around part) (f part) (h part) (same part after.0.0))
