-- The step cost by costs that are no less is no less.
use Rattle.std.proofs.Common.{◌≡◌, inl, inr, ◌≤◌, ◌<◌, ◌*◌, ℕ, zero, suc, max, List, [], ◌∷◌, Option, Some, None, slice_get, refl, sym, ◌∙◌, arith}
use Rattle.std.specs.Prelude.{◌-◌, ◌^◌}
use Rattle.std.specs.Option.{option_map_or}
use Rattle.std.proofs.lemmas.List.{get_or_past}
use Rattle.std.proofs.lemmas.Nat.{mul-le}
use Rattle.std.proofs.lemmas.Option.{none-some, slice_get_cases}
use Rattle.pg_predict_costs.specs.FoundCost.{IsCostByCosts}
use Rattle.pg_predict_costs.specs.Rounds.{AreCutSizes}
use Rattle.pg_predict_costs.specs.StepCost.{own_steps, AreSizes, greatest_size, grammar_levels}
use Rattle.pg_predict_costs.specs.Steps.{number_at, cut_off, steps_of_all, body_steps, row_steps}
use Rattle.pg_predict_costs.proofs.Sizing.{own_positive, least_greatest, within}
use Rattle.pg_grammar_form.specs.Forms.{Node, parts_of}
use Rattle.pg_grammar_form.specs.declared.form.Form.TheVariants as form
use Rattle.pg_grammar_value.specs.Grammar.{Grammar}
use Rattle.pg_grammar_value.specs.declared.grammar.Rule.{Rule}

-- ---- what a node takes beside its parts

body_dearer : (f h : ℕ → ℕ) (rules : List Rule) (r : ℕ) → ((q : ℕ) → cut_off (f q) ≤ h q) → cut_off (body_steps rules f r) ≤ body_steps rules h r
body_dearer f h rules r less = go (slice_get rules r)
  where
    go : (found : Option Rule) → cut_off (option_map_or (λ rule. f rule.body) found 0) ≤ option_map_or (λ rule. h rule.body) found 0
    go None = omega arith
    go (Some rule) = less rule.body

own_dearer : (g : Grammar) (f h : ℕ → ℕ) (n : Node) → ((q : ℕ) → cut_off (f q) ≤ h q) → cut_off (own_steps g f n) ≤ own_steps g h n
own_dearer g f h (form.Leaf leaf) less = omega arith
own_dearer g f h (form.Seq parts) less = omega arith
own_dearer g f h (form.Choice parts) less = omega arith
own_dearer g f h (form.Many part) less = omega arith
own_dearer g f h (form.Chain side used operand separator) less = omega arith
own_dearer g f h (form.Rule rule) less = let here = body_dearer f h g.rules rule less in omega arith
own_dearer g f h (form.Expression builders term) less = let here = less term in omega arith
own_dearer g f h (form.Around around part) less = omega arith

all_dearer : (bound : ℕ) (f h : ℕ → ℕ) (ps : List ℕ) → ((q : ℕ) → f q < bound → cut_off (f q) ≤ h q) → steps_of_all f ps < bound
    → cut_off (steps_of_all f ps) ≤ steps_of_all h ps
all_dearer bound f h [] less below = omega arith
all_dearer bound f h (p ∷ ps) less below =
    let here = less p (omega arith) in
    let rest = all_dearer bound f h ps less (omega arith) in
    omega arith

-- ---- sizes

sizes_dearer : (g : Grammar) (costs numbers sizes whole : List ℕ) → AreCutSizes g numbers sizes → ((q : ℕ) → cut_off (number_at costs q) ≤ number_at numbers q)
    → AreSizes g costs whole → (p : ℕ) → cut_off (number_at whole p) ≤ number_at sizes p
sizes_dearer g costs numbers sizes whole cut less are p = upto (suc (number_at whole p)) p (omega arith)
  where
    go : (k p : ℕ) → ((q : ℕ) → number_at whole q < k → cut_off (number_at whole q) ≤ number_at sizes q) → number_at whole p < suc k
        → (found : Option Node) → slice_get g.nodes p ≡ found → cut_off (number_at whole p) ≤ number_at sizes p
    go k p each below None at =
        elim ((slice_get_cases g.nodes p).1) [
          | inl found ↦ absurd (none-some found.0 (sym at ∙ found.2))
          | inr past ↦
              let outside = past.0 in
              let long = are.long in
              let nothing = get_or_past whole p 0 (omega arith) in
              omega arith
        ]
    go k p each below (Some n) at =
        let is = are.each p n at in
        let own = own_positive g (number_at costs) n in
        let here = cut.each p n at in
        let owns = own_dearer g (number_at costs) (number_at numbers) n less in
        let parts = all_dearer k (number_at whole) (number_at sizes) (parts_of n) each (omega arith) in
        omega arith

    upto : (k p : ℕ) → number_at whole p < k → cut_off (number_at whole p) ≤ number_at sizes p
    upto zero p below = absurd (omega arith)
    upto (suc k) p below = go k p (λ q small. upto k q small) below (slice_get g.nodes p) refl

greatest_dearer : (f h : ℕ → ℕ) (least more : ℕ) (rules : List Rule) → ((q : ℕ) → cut_off (f q) ≤ h q) → cut_off least ≤ more
    → cut_off (greatest_size f least rules) ≤ greatest_size h more rules
greatest_dearer f h least more [] less begins = begins
greatest_dearer f h least more (rule ∷ rules) less begins =
    let here = less rule.body in
    greatest_dearer f h (max least (f rule.body)) (max more (h rule.body)) rules less (omega arith)

-- ---- the product

-- a product of positive numbers is at most that of the greatest number and a positive one
product_dearer : (a b y : ℕ) → 1 ≤ a → 1 ≤ b → cut_off b ≤ y → cut_off (a * b) ≤ cut_off (cut_off a * y)
product_dearer a b y some any less =
    elim (within a) [
      | inr large ↦ let whole = mul-le (2 ^ 64 - 1) 1 (cut_off a) y (omega arith) (omega arith) in omega arith
      | inl small ↦
          let same : cut_off a ≡ a = omega arith in
          elim (within b) [
            | inr large ↦ let whole = mul-le 1 (2 ^ 64 - 1) (cut_off a) y (omega arith) (omega arith) in omega arith
            | inl little ↦ let whole = mul-le a b (cut_off a) y (omega arith) (omega arith) in omega arith
          ]
    ]

pub dearer : (g : Grammar) (costs numbers : List ℕ) (cost k : ℕ) → ((p : ℕ) → cut_off (number_at costs p) ≤ number_at numbers p)
    → IsCostByCosts g numbers cost → (sizes : List ℕ) → AreSizes g costs sizes → k ≡ grammar_levels g * greatest_size (number_at sizes) (row_steps g) g.rules
    → cut_off k ≤ cost
dearer g costs numbers cost k less by sizes are is =
    let larger = sizes_dearer g costs numbers by.sizes sizes by.are_sizes less are in
    let greatest = greatest_dearer (number_at sizes) (number_at by.sizes) (row_steps g) (cut_off (row_steps g)) g.rules larger (omega arith) in
    let least = least_greatest (number_at sizes) (row_steps g) g.rules in
    let product = product_dearer (grammar_levels g) (greatest_size (number_at sizes) (row_steps g) g.rules) (greatest_size (number_at by.sizes) (cut_off (row_steps g)) g.rules) (omega arith) (omega arith) greatest in
    let found = by.is in
    omega arith
