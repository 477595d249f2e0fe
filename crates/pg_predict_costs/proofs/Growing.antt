-- What costs that grow in rounds are when no round changes one.
use Rattle.std.proofs.Common.{◌≡◌, ℕ, zero, suc, ◌+◌, ◌<◌, ◌≤◌, Bool, true, false, List, [], ◌∷◌, Option, Some, None, slice_get, slice_set, length, refl, sym, subst, ◌∙◌, inl, inr, arith}
use Rattle.std.specs.Prelude.{if◌then◌else◌, ◌-◌, ◌^◌}
use Rattle.std.specs.Option.{option_map_or}
use Rattle.std.proofs.lemmas.Bool.{cases_eq}
use Rattle.std.proofs.lemmas.List.{get_or-set_same, get_or-set_other, get_or_past}
use Rattle.std.proofs.lemmas.Option.{none-some, slice_get_cases}
use Rattle.std.proofs.lemmas.List.Sums.{sum_by-set}
use Rattle.pg_grammar_form.specs.Forms.{Node}
use Rattle.pg_grammar_form.specs.declared.form.Form.TheVariants as form
use Rattle.pg_sets_nullable.specs.Parts.{up_to_unmarked}
use Rattle.pg_grammar_value.specs.Grammar.{Grammar}
use Rattle.pg_grammar_value.specs.declared.grammar.Rule.{Rule}
use Rattle.pg_predict_costs.specs.Steps.{number_at, cut_off, steps_of_all, body_steps}
use Rattle.pg_predict_costs.specs.Costs.{tries_ended_string, node_cost}
use Rattle.pg_predict_costs.specs.Rounds.{AreLow, IsSettled, AreCutCosts, room}

-- ---- where the numbers of parts are no smaller, those of nodes are no smaller

-- each number below the bound is no smaller after it
abbrev AreMore : ℕ → (ℕ → ℕ) → (ℕ → ℕ) → Type 0
AreMore bound f h = (q : ℕ) → f q < bound → cut_off (f q) ≤ cut_off (h q)

all_more : (bound : ℕ) (f h : ℕ → ℕ) (ps : List ℕ) → AreMore bound f h → steps_of_all f ps < bound → cut_off (steps_of_all f ps) ≤ cut_off (steps_of_all h ps)
all_more bound f h [] each less = omega arith
all_more bound f h (p ∷ ps) each less =
    let here = each p (omega arith) in
    let rest = all_more bound f h ps each (omega arith) in
    omega arith

body_more : (bound : ℕ) (f h : ℕ → ℕ) (rules : List Rule) (r : ℕ) → AreMore bound f h → body_steps rules f r < bound → cut_off (body_steps rules f r) ≤ cut_off (body_steps rules h r)
body_more bound f h rules r each less = go (slice_get rules r) less
  where
    go : (found : Option Rule) → option_map_or (λ rule. f rule.body) found 0 < bound
        → cut_off (option_map_or (λ rule. f rule.body) found 0) ≤ cut_off (option_map_or (λ rule. h rule.body) found 0)
    go None less = omega arith
    go (Some rule) less = each rule.body less

around_more : (b : Bool) (f h : ℕ → ℕ) (part : ℕ) → AreMore (if b then 8 else 2 + f part) f h → cut_off (if b then 8 else 2 + f part) ≤ cut_off (if b then 8 else 2 + h part)
around_more true f h part each = omega arith
around_more false f h part each = let here = each part (omega arith) in omega arith

pub cost_more : (g : Grammar) (nullable : List Bool) (f h : ℕ → ℕ) (n : Node) → AreMore (node_cost g nullable f n) f h
    → cut_off (node_cost g nullable f n) ≤ cut_off (node_cost g nullable h n)
cost_more g nullable f h (form.Leaf leaf) each = omega arith
cost_more g nullable f h (form.Seq parts) each =
    let rest = all_more (2 + steps_of_all f (up_to_unmarked nullable parts)) f h (up_to_unmarked nullable parts) each (omega arith) in omega arith
cost_more g nullable f h (form.Choice parts) each = let rest = all_more (2 + steps_of_all f parts) f h parts each (omega arith) in omega arith
cost_more g nullable f h (form.Many part) each = let here = each part (omega arith) in omega arith
cost_more g nullable f h (form.Chain side used operand separator) each =
    let parts = up_to_unmarked nullable (operand ∷ separator ∷ operand ∷ []) in
    let rest = all_more (2 + steps_of_all f parts) f h parts each (omega arith) in
    omega arith
cost_more g nullable f h (form.Rule rule) each = let rest = body_more (2 + body_steps g.rules f rule) f h g.rules rule each (omega arith) in omega arith
cost_more g nullable f h (form.Expression builders term) each = let here = each term (omega arith) in omega arith
cost_more g nullable f h (form.Around around part) each = around_more (tries_ended_string g.nodes around part) f h part each

-- ---- a number that grows

pub still_low : (g : Grammar) (nullable : List Bool) (numbers : List ℕ) (i : ℕ) (n : Node) → i < length numbers → slice_get g.nodes i ≡ Some n
    → AreLow g nullable numbers → AreLow g nullable (slice_set numbers i (cut_off (node_cost g nullable (number_at numbers) n)))
still_low g nullable numbers i n inside at low costs are p =
    elim (cases_eq p i) [
      | inl same ↦ subst (λ q. number_at (slice_set numbers i new) q ≤ cut_off (number_at costs q)) (sym same) here
      | inr other ↦ let kept = get_or-set_other numbers i p new 0 other in let before = low costs are p in omega arith
    ]
  where
    new : ℕ
    new = cut_off (node_cost g nullable (number_at numbers) n)

    here : number_at (slice_set numbers i new) i ≤ cut_off (number_at costs i)
    here =
        let put = get_or-set_same numbers i new 0 inside in
        let more = cost_more g nullable (number_at numbers) (number_at costs) n (λ q less. let before = low costs are q in omega arith) in
        let is = are.each i n at in
        omega arith

pub less_room : (numbers : List ℕ) (i new : ℕ) → i < length numbers → number_at numbers i < cut_off new
    → room (slice_set numbers i (cut_off new)) < room numbers
less_room numbers i new inside grows =
    let sum = sum_by-set (λ c. (2 ^ 64 - 1) - c) numbers i (cut_off new) 0 inside in
    omega arith

-- ---- when none grows

pub settled_costs : (g : Grammar) (nullable : List Bool) (numbers : List ℕ) → AreLow g nullable numbers → ((p : ℕ) → IsSettled g nullable numbers p)
    → AreCutCosts g nullable numbers
settled_costs g nullable numbers low settled costs are p =
    let below = low costs are p in
    let above = high (suc (number_at costs p)) p (omega arith) in
    omega arith
  where
    -- by what the other numbers ask for, the cost of this one being above theirs
    go : (k p : ℕ) → ((q : ℕ) → number_at costs q < k → cut_off (number_at costs q) ≤ number_at numbers q) → number_at costs p < suc k
        → (found : Option Node) → slice_get g.nodes p ≡ found → cut_off (number_at costs p) ≤ number_at numbers p
    go k p each less None at =
        elim ((slice_get_cases g.nodes p).1) [
          | inl found ↦ absurd (none-some found.0 (sym at ∙ found.2))
          | inr past ↦ let outside = past.0 in let long = are.long in let nothing = get_or_past costs p 0 (omega arith) in omega arith
        ]
    go k p each less (Some n) at =
        let is = are.each p n at in
        let asked = settled p n at in
        let more = cost_more g nullable (number_at costs) (number_at numbers) n (λ q small. let here = each q (omega arith) in omega arith) in
        omega arith

    high : (k p : ℕ) → number_at costs p < k → cut_off (number_at costs p) ≤ number_at numbers p
    high zero p less = absurd (omega arith)
    high (suc k) p less = go k p (λ q small. high k q small) less (slice_get g.nodes p) refl
