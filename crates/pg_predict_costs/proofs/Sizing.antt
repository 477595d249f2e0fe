-- Sizes found from the last node to the first, and what stopping at the greatest number leaves of them.
use Rattle.std.proofs.Common.{◌≡◌, ℕ, zero, suc, ◌+◌, ◌*◌, ◌<◌, ◌≤◌, max, ◌⊎◌, Bool, List, [], ◌∷◌, Option, Some, None, slice_get, slice_set, length, refl, sym, ap, subst, ◌∙◌, inl, inr, arith}
use Rattle.std.specs.Prelude.{◌-◌, ◌^◌}
use Rattle.std.specs.Option.{option_map_or}
use Rattle.std.proofs.lemmas.Bool.{cases_eq}
use Rattle.std.proofs.lemmas.List.{get_or-set_same, get_or-set_other, get_or_past}
use Rattle.std.proofs.lemmas.Nat.{mul-le}
use Rattle.std.proofs.lemmas.Option.{none-some, slice_get_cases, same_Some}
use Rattle.pg_grammar_form.specs.Forms.{Node, parts_of, InPreorder}
use Rattle.pg_grammar_form.specs.declared.form.Form.TheVariants as form
use Rattle.pg_grammar_form.specs.declared.form.Leaf.{Leaf}
use Rattle.pg_grammar_form.specs.declared.form.Leaf.TheVariants as leaf
use Rattle.pg_grammar_value.specs.Follows.{PartsFollow}
use Rattle.pg_grammar_value.specs.Grammar.{Grammar}
use Rattle.pg_grammar_value.specs.declared.grammar.Rule.{Rule}
use Rattle.pg_grammar_value.proofs.Numbers.{parts_are_after}
use Rattle.pg_predict_costs.specs.Steps.{number_at, cut_off, steps_of_all, body_steps, leaf_steps, row_steps}
use Rattle.pg_predict_costs.specs.StepCost.{own_steps, AreSizes, greatest_size, grammar_levels, IsStepCost}
use Rattle.pg_predict_costs.specs.Rounds.{AreCutCosts, IsSized, AreCutSizes}

-- ---- a node more

-- a number that is put before all of these nodes changes nothing of them
untouched : (numbers : List ℕ) (i new k count : ℕ) (ps : List ℕ) → i ≤ k → PartsFollow k count ps
    → steps_of_all (number_at (slice_set numbers i new)) ps ≡ steps_of_all (number_at numbers) ps
untouched numbers i new k count [] below after = refl
untouched numbers i new k count (p ∷ ps) below after =
    let behind = after.0.0 in
    let kept = get_or-set_other numbers i p new 0 (λ e. omega arith) in
    let rest = untouched numbers i new k count ps below after.1 in
    omega arith

-- the size of a node, by the numbers of its parts
abbrev size_of : Grammar → List ℕ → List ℕ → Node → ℕ
size_of g costs sizes n = cut_off (own_steps g (number_at costs) n + steps_of_all (number_at sizes) (parts_of n))

pub still_sized : (g : Grammar) (costs sizes : List ℕ) (i : ℕ) (n : Node) → InPreorder 0 g.nodes → i < length sizes → slice_get g.nodes i ≡ Some n
    → ((p : ℕ) → i < p → IsSized g costs sizes p) → (p : ℕ) → i ≤ p → IsSized g costs (slice_set sizes i (size_of g costs sizes n)) p
still_sized g costs sizes i n preorder inside at sized p least m known =
    let new = size_of g costs sizes n in
    let changed = slice_set sizes i new in
    elim (cases_eq p i) [
      | inl same ↦
          let one : n ≡ m = same_Some n m (sym at ∙ (ap (slice_get g.nodes) (sym same) ∙ known)) in
          let kept = untouched sizes i new i (length g.nodes) (parts_of n) (omega arith) (parts_are_after g.nodes i n preorder at) in
          let put = get_or-set_same sizes i new 0 inside in
          let is : number_at changed i ≡ size_of g costs changed n = omega arith in
          subst (λ q. number_at changed q ≡ size_of g costs changed m) (sym same)
          (subst (λ x. number_at changed i ≡ size_of g costs changed x) one is)
      | inr other ↦
          let kept = untouched sizes i new p (length g.nodes) (parts_of m) least (parts_are_after g.nodes p m preorder known) in
          let stays = get_or-set_other sizes i p new 0 other in
          let was = sized p (omega arith) m known in
          omega arith
    ]

-- ---- sizes that stop at the greatest number

-- a leaf takes two steps at least
pub leaf_positive : (l : Leaf ℕ) → 2 ≤ leaf_steps l
leaf_positive (leaf.Satisfy class) = omega arith
leaf_positive (leaf.String text) = omega arith
leaf_positive (leaf.Word word) = omega arith
leaf_positive (leaf.NotFollowedBy class) = omega arith
leaf_positive leaf.EndOfText = omega arith
leaf_positive (leaf.Declare class) = omega arith

-- so does each form
pub own_positive : (g : Grammar) (f : ℕ → ℕ) (n : Node) → 2 ≤ own_steps g f n
own_positive g f (form.Leaf leaf) = leaf_positive leaf
own_positive g f (form.Seq parts) = omega arith
own_positive g f (form.Choice parts) = omega arith
own_positive g f (form.Many part) = omega arith
own_positive g f (form.Chain side used operand separator) = omega arith
own_positive g f (form.Rule rule) = omega arith
own_positive g f (form.Expression builders term) = omega arith
own_positive g f (form.Around around part) = omega arith

body_same : (f h : ℕ → ℕ) (rules : List Rule) (r : ℕ) → ((q : ℕ) → h q ≡ cut_off (f q)) → cut_off (body_steps rules h r) ≡ cut_off (body_steps rules f r)
body_same f h rules r same = go (slice_get rules r)
  where
    go : (found : Option Rule) → cut_off (option_map_or (λ rule. h rule.body) found 0) ≡ cut_off (option_map_or (λ rule. f rule.body) found 0)
    go None = refl
    go (Some rule) = let here = same rule.body in omega arith

own_same : (g : Grammar) (f h : ℕ → ℕ) (n : Node) → ((q : ℕ) → h q ≡ cut_off (f q)) → cut_off (own_steps g h n) ≡ cut_off (own_steps g f n)
own_same g f h (form.Leaf leaf) same = refl
own_same g f h (form.Seq parts) same = refl
own_same g f h (form.Choice parts) same = refl
own_same g f h (form.Many part) same = refl
own_same g f h (form.Chain side used operand separator) same = refl
own_same g f h (form.Rule rule) same = let here = body_same f h g.rules rule same in omega arith
own_same g f h (form.Expression builders term) same = let here = same term in omega arith
own_same g f h (form.Around around part) same = refl

all_same : (bound : ℕ) (f h : ℕ → ℕ) (ps : List ℕ) → ((q : ℕ) → f q < bound → h q ≡ cut_off (f q)) → steps_of_all f ps < bound
    → cut_off (steps_of_all h ps) ≡ cut_off (steps_of_all f ps)
all_same bound f h [] same less = refl
all_same bound f h (p ∷ ps) same less =
    let here = same p (omega arith) in
    let rest = all_same bound f h ps same (omega arith) in
    omega arith

pub cut_sizes : (g : Grammar) (costs numbers sizes whole : List ℕ) → AreCutSizes g numbers sizes → ((q : ℕ) → number_at numbers q ≡ cut_off (number_at costs q))
    → AreSizes g costs whole → (p : ℕ) → number_at sizes p ≡ cut_off (number_at whole p)
cut_sizes g costs numbers sizes whole cut same are p = upto (suc (number_at whole p)) p (omega arith)
  where
    go : (k p : ℕ) → ((q : ℕ) → number_at whole q < k → number_at sizes q ≡ cut_off (number_at whole q)) → number_at whole p < suc k
        → (found : Option Node) → slice_get g.nodes p ≡ found → number_at sizes p ≡ cut_off (number_at whole p)
    go k p each less None at =
        elim ((slice_get_cases g.nodes p).1) [
          | inl found ↦ absurd (none-some found.0 (sym at ∙ found.2))
          | inr past ↦
              let outside = past.0 in
              let long = are.long in
              let as_long = cut.long in
              let nothing = get_or_past whole p 0 (omega arith) in
              let none = get_or_past sizes p 0 (omega arith) in
              omega arith
        ]
    go k p each less (Some n) at =
        let is = are.each p n at in
        let own = own_positive g (number_at costs) n in
        let here = cut.each p n at in
        let owns = own_same g (number_at costs) (number_at numbers) n same in
        let parts = all_same k (number_at whole) (number_at sizes) (parts_of n) each (omega arith) in
        omega arith

    upto : (k p : ℕ) → number_at whole p < k → number_at sizes p ≡ cut_off (number_at whole p)
    upto zero p less = absurd (omega arith)
    upto (suc k) p less = go k p (λ q small. upto k q small) less (slice_get g.nodes p) refl

-- ---- the greatest size, and the product

cut_greatest : (f h : ℕ → ℕ) (least : ℕ) (rules : List Rule) → ((q : ℕ) → h q ≡ cut_off (f q))
    → greatest_size h (cut_off least) rules ≡ cut_off (greatest_size f least rules)
cut_greatest f h least [] same = refl
cut_greatest f h least (rule ∷ rules) same =
    let here = same rule.body in
    let both : max (cut_off least) (h rule.body) ≡ cut_off (max least (f rule.body)) = omega arith in
    ap (λ m. greatest_size h m rules) both ∙ cut_greatest f h (max least (f rule.body)) rules same

-- the greatest is no less than where it begins
pub least_greatest : (f : ℕ → ℕ) (least : ℕ) (rules : List Rule) → least ≤ greatest_size f least rules
least_greatest f least [] = omega arith
least_greatest f least (rule ∷ rules) = let rest = least_greatest f (max least (f rule.body)) rules in omega arith

-- a number fits into 64 bits, or is no less than the greatest that does
pub within : (x : ℕ) → (x ≤ 2 ^ 64 - 1) ⊎ (2 ^ 64 - 1 ≤ x)
within x = elim (cases_eq (cut_off x) x) [ inl e ↦ inl (omega arith) | inr ne ↦ inr (omega arith) ]

-- a product of a number that is there and one that isn't below the greatest isn't below it either
large_right : (x y : ℕ) → 1 ≤ x → 2 ^ 64 - 1 ≤ y → 2 ^ 64 - 1 ≤ x * y
large_right x y some large = let more = mul-le 1 (2 ^ 64 - 1) x y some large in omega arith

large_left : (x y : ℕ) → 2 ^ 64 - 1 ≤ x → 1 ≤ y → 2 ^ 64 - 1 ≤ x * y
large_left x y large some = let more = mul-le (2 ^ 64 - 1) 1 x y large some in omega arith

cut_product : (a b : ℕ) → 1 ≤ a → 1 ≤ b → cut_off (cut_off a * cut_off b) ≡ cut_off (a * b)
cut_product a b some any =
    elim (within a) [
      | inr large ↦
          let cut = large_left (cut_off a) (cut_off b) (omega arith) (omega arith) in
          let whole = large_left a b large any in
          omega arith
      | inl small ↦
          elim (within b) [
            | inr large ↦
                let cut = large_right (cut_off a) (cut_off b) (omega arith) (omega arith) in
                let whole = large_right a b some large in
                omega arith
            | inl little ↦
                let first : cut_off a ≡ a = omega arith in
                let second : cut_off b ≡ b = omega arith in
                ap (λ x. cut_off (x * cut_off b)) first ∙ ap (λ y. cut_off (a * y)) second
          ]
    ]

pub cut_step_cost : (g : Grammar) (nullable : List Bool) (numbers sizes : List ℕ) → AreCutCosts g nullable numbers → AreCutSizes g numbers sizes
    → (k : ℕ) → IsStepCost g nullable k → cut_off (cut_off (grammar_levels g) * greatest_size (number_at sizes) (cut_off (row_steps g)) g.rules) ≡ cut_off k
cut_step_cost g nullable numbers sizes costs sized k is =
    let same = costs is.costs is.are_costs in
    let right = cut_sizes g is.costs numbers sizes is.sizes sized same is.are_sizes in
    let greatest = cut_greatest (number_at is.sizes) (number_at sizes) (row_steps g) g.rules right in
    let least = least_greatest (number_at is.sizes) (row_steps g) g.rules in
    ap (λ v. cut_off (cut_off (grammar_levels g) * v)) greatest
    ∙ (cut_product (grammar_levels g) (greatest_size (number_at is.sizes) (row_steps g) g.rules) (omega arith) (omega arith) ∙ ap cut_off (sym is.is))
