-- Costs that hold by the claims are no less than the costs that are so.
use Rattle.std.proofs.Common.{◌≡◌, ◌≤◌, ◌<◌, ◌+◌, ℕ, zero, suc, Bool, true, false, true≢false, List, [], ◌∷◌, Option, Some, None, slice_get, refl, ap, sym, ◌∙◌, inl, inr, arith}
use Rattle.std.specs.Prelude.{if◌then◌else◌, ◌↔◌}
use Rattle.std.specs.Option.{option_map_or}
use Rattle.std.proofs.lemmas.List.{get_or_past}
use Rattle.std.proofs.lemmas.Option.{none-some, slice_get_cases}
use Rattle.pg_certificate.specs.declared.certificate.RuleClaim.{RuleClaim}
use Rattle.pg_predict_costs.specs.Costs.{tries_ended_string, node_cost, AreCosts}
use Rattle.pg_predict_costs.specs.Steps.{number_at, cut_off, steps_of_all, body_steps}
use Rattle.pg_grammar_form.specs.Forms.{Node}
use Rattle.pg_grammar_form.specs.declared.form.Form.TheVariants as form
use Rattle.pg_graph.specs.Marks.{is_marked}
use Rattle.pg_sets_nullable.specs.Nullable.{Nullable}
use Rattle.pg_sets_nullable.specs.Parts.{up_to_unmarked}
use Rattle.pg_grammar_value.specs.Grammar.{Grammar}
use Rattle.pg_grammar_value.specs.declared.grammar.Rule.{Rule}
use Rattle.pg_certificate_verify.specs.Claimed.{claimed_cost}
use Rattle.pg_certificate_verify.specs.Cost.{cost_by, AreCostsBy}
use Rattle.pg_certificate_verify.specs.Holding.{NullableHolds, CostHolds}
use Rattle.pg_certificate_verify.specs.Nullable.{AreNullableBy}
use Rattle.pg_certificate_verify.proofs.Enough.{nullable_enough}

-- each number below the bound is no greater than the other, up to the greatest number
abbrev AreLess : ℕ → (ℕ → ℕ) → (ℕ → ℕ) → Type 0
AreLess bound f h = (q : ℕ) → f q < bound → cut_off (f q) ≤ h q

-- marks that are on at least as many nodes
abbrev AreFewer : List Bool → List Bool → Type 0
AreFewer least marks = (q : ℕ) → is_marked least q ≡ true → is_marked marks q ≡ true

all_less : (bound : ℕ) (f h : ℕ → ℕ) (ps : List ℕ) → AreLess bound f h → steps_of_all f ps < bound → cut_off (steps_of_all f ps) ≤ steps_of_all h ps
all_less bound f h [] each less = omega arith
all_less bound f h (p ∷ ps) each less =
    let here = each p (omega arith) in
    let rest = all_less bound f h ps each (omega arith) in
    omega arith

one_less : (b c : Bool) (f h : ℕ → ℕ) (ps : List ℕ) (qs : List ℕ) (a e : ℕ) → (b ≡ true → c ≡ true) → cut_off a ≤ e → (b ≡ true → cut_off (steps_of_all f ps) ≤ steps_of_all h qs)
    → cut_off (a + steps_of_all f (if b then ps else [])) ≤ e + steps_of_all h (if c then qs else [])
one_less true true f h ps qs a e sub here rest = let more = rest refl in omega arith
one_less true false f h ps qs a e sub here rest = absurd (true≢false (sym (sub refl)))
one_less false true f h ps qs a e sub here rest = omega arith
one_less false false f h ps qs a e sub here rest = omega arith

reached_less : (bound : ℕ) (least marks : List Bool) (f h : ℕ → ℕ) (ps : List ℕ) → AreFewer least marks → AreLess bound f h → steps_of_all f (up_to_unmarked least ps) < bound
    → cut_off (steps_of_all f (up_to_unmarked least ps)) ≤ steps_of_all h (up_to_unmarked marks ps)
reached_less bound least marks f h [] sub each less = omega arith
reached_less bound least marks f h (p ∷ ps) sub each less =
    one_less (is_marked least p) (is_marked marks p) f h (up_to_unmarked least ps) (up_to_unmarked marks ps) (f p) (h p) (sub p) (each p (omega arith))
    (λ on.
    let further : steps_of_all f (up_to_unmarked least (p ∷ ps)) ≡ f p + steps_of_all f (up_to_unmarked least ps) =
    ap (λ b. f p + steps_of_all f (if b then up_to_unmarked least ps else [])) on in
    reached_less bound least marks f h ps sub each (omega (arith, further, less)))

body_less : (bound : ℕ) (f : ℕ → ℕ) (found : Option Rule) (claimed : ℕ) → ((rule : Rule) → found ≡ Some rule → f rule.body < bound → cut_off (f rule.body) ≤ claimed)
    → option_map_or (λ rule. f rule.body) found 0 < bound → cut_off (option_map_or (λ rule. f rule.body) found 0) ≤ claimed
body_less bound f None claimed holds less = omega arith
body_less bound f (Some rule) claimed holds less = holds rule refl less

around_less : (b : Bool) (f h : ℕ → ℕ) (part : ℕ) → AreLess (if b then 8 else 2 + f part) f h → cut_off (if b then 8 else 2 + f part) ≤ cut_off (if b then 8 else 2 + h part)
around_less true f h part each = omega arith
around_less false f h part each = let here = each part (omega arith) in omega arith

cost_less : (g : Grammar) (claims : List RuleClaim) (least marks : List Bool) (f h : ℕ → ℕ) (n : Node) → AreFewer least marks
    → ((r : ℕ) (rule : Rule) → slice_get g.rules r ≡ Some rule → h rule.body ≤ claimed_cost claims r)
    → AreLess (node_cost g least f n) f h → cut_off (node_cost g least f n) ≤ cut_off (cost_by g claims marks h n)
cost_less g claims least marks f h (form.Leaf leaf) sub holds each = omega arith
cost_less g claims least marks f h (form.Seq parts) sub holds each =
    let rest = reached_less (2 + steps_of_all f (up_to_unmarked least parts)) least marks f h parts sub each (omega arith) in omega arith
cost_less g claims least marks f h (form.Choice parts) sub holds each = let rest = all_less (2 + steps_of_all f parts) f h parts each (omega arith) in omega arith
cost_less g claims least marks f h (form.Many part) sub holds each = let here = each part (omega arith) in omega arith
cost_less g claims least marks f h (form.Chain side used operand separator) sub holds each =
    let parts = operand ∷ separator ∷ operand ∷ [] in
    let rest = reached_less (2 + steps_of_all f (up_to_unmarked least parts)) least marks f h parts sub each (omega arith) in
    omega arith
cost_less g claims least marks f h (form.Rule r) sub holds each =
    let rest = body_less (2 + body_steps g.rules f r) f (slice_get g.rules r) (claimed_cost claims r)
    (λ rule there less. let here = each rule.body less in let high = holds r rule there in omega (arith, here, high)) (omega arith) in
    omega arith
cost_less g claims least marks f h (form.Expression builders term) sub holds each = let here = each term (omega arith) in omega arith
cost_less g claims least marks f h (form.Around around part) sub holds each = around_less (tries_ended_string g.nodes around part) f h part each

-- no node costs more than it costs by the claims
pub costs_enough : (g : Grammar) (claims : List RuleClaim) (marks : List Bool) (numbers : List ℕ) → AreNullableBy g claims marks → NullableHolds g claims marks
    → AreCostsBy g claims marks numbers → CostHolds g claims numbers
    → (least : List Bool) → ((p : ℕ) → (is_marked least p ≡ true) ↔ Nullable g p) → (costs : List ℕ) → AreCosts g least costs
    → (p : ℕ) → cut_off (number_at costs p) ≤ number_at numbers p
costs_enough g claims marks numbers are holds by high least on costs so p = upto (suc (number_at costs p)) p (omega arith)
  where
    fewer : AreFewer least marks
    fewer q e = nullable_enough g claims marks are holds q ((on q).0 e)

    go : (k p : ℕ) → ((q : ℕ) → number_at costs q < k → cut_off (number_at costs q) ≤ number_at numbers q) → number_at costs p < suc k
        → (found : Option Node) → slice_get g.nodes p ≡ found → cut_off (number_at costs p) ≤ number_at numbers p
    go k p each less None at =
        elim ((slice_get_cases g.nodes p).1) [
          | inl found ↦ absurd (none-some found.0 (sym at ∙ found.2))
          | inr past ↦
              let outside = past.0 in
              let long = so.long in
              let nothing = get_or_past costs p 0 (omega arith) in
              omega arith
        ]
    go k p each less (Some n) at =
        let is = so.each p n at in
        let here = by.each p n at in
        let below = cost_less g claims least marks (number_at costs) (number_at numbers) n fewer high (λ q under. each q (omega (arith, is, less, under))) in
        omega (arith, is, here, below)

    upto : (k p : ℕ) → number_at costs p < k → cut_off (number_at costs p) ≤ number_at numbers p
    upto zero p less = absurd (omega arith)
    upto (suc k) p less = go k p (λ q small. upto k q small) less (slice_get g.nodes p) refl
