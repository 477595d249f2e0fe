-- The depth of a node: the levels of all nodes that aren't above it, and one for each rule whose body is below it. What is passed
-- from it on before anything is consumed is among these, since levels fall on the way.
use Rattle.std.proofs.Common.{◌≡◌, ◌<◌, ◌≤◌, ◌+◌, ℕ, zero, suc, List, [], ◌∷◌, Bool, true, false, refl, ap, length, Some, slice_get, arith}
use Rattle.std.specs.Prelude.{nat_le, nat_lt}
use Rattle.std.proofs.lemmas.Bool.Decides.{nat_tests}
use Rattle.pg_grammar_form.specs.Forms.{Node}
use Rattle.pg_grammar_value.specs.Grammar.{Grammar}
use Rattle.pg_grammar_value.specs.declared.grammar.Rule as declared
use Rattle.pg_predict_costs.specs.StepCost.{node_levels, levels_of_all, grammar_levels}

abbrev counted : Bool → ℕ → ℕ
counted true w = w
counted false w = 0

counted_most : (b : Bool) (w : ℕ) → counted b w ≤ w
counted_most true w = omega arith
counted_most false w = omega arith

more_up_to : (a t u w : ℕ) → t ≤ u → counted (nat_le a t) w ≤ counted (nat_le a u) w
more_up_to a t u w l = go (nat_le a t) (nat_le a u) refl refl
  where
    go : (b d : Bool) → nat_le a t ≡ b → nat_le a u ≡ d → counted b w ≤ counted d w
    go true true e f = omega arith
    go true false e f = absurd (grind (arith, nat_tests))
    go false d e f = omega arith

more_below : (a t u w : ℕ) → t ≤ u → counted (nat_lt a t) w ≤ counted (nat_lt a u) w
more_below a t u w l = go (nat_lt a t) (nat_lt a u) refl refl
  where
    go : (b d : Bool) → nat_lt a t ≡ b → nat_lt a u ≡ d → counted b w ≤ counted d w
    go true true e f = omega arith
    go true false e f = absurd (grind (arith, nat_tests))
    go false d e f = omega arith

new_up_to : (a t u w : ℕ) → t < a → a ≤ u → counted (nat_le a t) w + w ≤ counted (nat_le a u) w
new_up_to a t u w l m = go (nat_le a t) (nat_le a u) refl refl
  where
    go : (b d : Bool) → nat_le a t ≡ b → nat_le a u ≡ d → counted b w + w ≤ counted d w
    go true d e f = absurd (grind (arith, nat_tests))
    go false true e f = omega arith
    go false false e f = absurd (grind (arith, nat_tests))

new_below : (a t u w : ℕ) → t ≤ a → a < u → counted (nat_lt a t) w + w ≤ counted (nat_lt a u) w
new_below a t u w l m = go (nat_lt a t) (nat_lt a u) refl refl
  where
    go : (b d : Bool) → nat_lt a t ≡ b → nat_lt a u ≡ d → counted b w + w ≤ counted d w
    go true d e f = absurd (grind (arith, nat_tests))
    go false true e f = omega arith
    go false false e f = absurd (grind (arith, nat_tests))

module _ (level : ℕ → ℕ) where
  -- the nesting that those of these nodes add which are up to a level; the first node has the number k
  levels_up_to : ℕ → ℕ → List Node → ℕ
  levels_up_to t k [] = 0
  levels_up_to t k (n ∷ ns) = counted (nat_le (level k) t) (node_levels n) + levels_up_to t (suc k) ns

  -- and of these rules those whose bodies are below the level
  rules_below : ℕ → List declared.Rule → ℕ
  rules_below t [] = 0
  rules_below t (r ∷ rs) = counted (nat_lt (level r.body) t) 1 + rules_below t rs

  levels_more : (t u k : ℕ) (ns : List Node) → t ≤ u → levels_up_to t k ns ≤ levels_up_to u k ns
  unfolding levels_up_to
  levels_more t u k [] l = omega arith
  levels_more t u k (n ∷ ns) l = let first = more_up_to (level k) t u (node_levels n) l in let rest = levels_more t u (suc k) ns l in omega arith

  levels_most : (t k : ℕ) (ns : List Node) → levels_up_to t k ns ≤ levels_of_all ns
  unfolding levels_up_to
  levels_most t k [] = omega arith
  levels_most t k (n ∷ ns) = let first = counted_most (nat_le (level k) t) (node_levels n) in let rest = levels_most t (suc k) ns in omega arith

  levels_new : (t u k i p : ℕ) (n : Node) (ns : List Node) → slice_get ns i ≡ Some n → k + i ≡ p → t < level p → level p ≤ u → levels_up_to t k ns + node_levels n ≤ levels_up_to u k ns
  unfolding levels_up_to
  levels_new t u k i p n [] e same l m = absurd cc
  levels_new t u k zero p n (x ∷ ns) e same l m =
      let is : x ≡ n = cc in
      let levels = ap node_levels is in
      let here : k ≡ p = omega arith in
      let at = ap level here in
      let first = new_up_to (level k) t u (node_levels x) (omega arith) (omega arith) in
      let rest = levels_more t u (suc k) ns (omega arith) in
      omega arith
  levels_new t u k (suc i) p n (x ∷ ns) e same l m =
      let first = more_up_to (level k) t u (node_levels x) (omega arith) in
      let rest = levels_new t u (suc k) i p n ns e (omega arith) l m in
      omega arith

  rules_more : (t u : ℕ) (rs : List declared.Rule) → t ≤ u → rules_below t rs ≤ rules_below u rs
  unfolding rules_below
  rules_more t u [] l = omega arith
  rules_more t u (r ∷ rs) l = let first = more_below (level r.body) t u 1 l in let rest = rules_more t u rs l in omega arith

  rules_most : (t : ℕ) (rs : List declared.Rule) → rules_below t rs ≤ length rs
  unfolding rules_below
  rules_most t [] = omega arith
  rules_most t (r ∷ rs) = let first = counted_most (nat_lt (level r.body) t) 1 in let rest = rules_most t rs in omega arith

  rules_new : (t u r : ℕ) (named : declared.Rule) (rs : List declared.Rule) → slice_get rs r ≡ Some named → t ≤ level named.body → level named.body < u → rules_below t rs + 1 ≤ rules_below u rs
  unfolding rules_below
  rules_new t u r named [] e l m = absurd cc
  rules_new t u zero named (x ∷ rs) e l m =
      let is : x ≡ named = cc in
      let at = ap (λ (rule : declared.Rule). level rule.body) is in
      let first = new_below (level x.body) t u 1 (omega arith) (omega arith) in
      let rest = rules_more t u rs (omega arith) in
      omega arith
  rules_new t u (suc r) named (x ∷ rs) e l m =
      let first = more_below (level x.body) t u 1 (omega arith) in let rest = rules_new t u r named rs e l m in omega arith

  module _ (g : Grammar) where
    pub depth : ℕ → ℕ
    depth p = levels_up_to (level p) 0 g.nodes + rules_below (level p) g.rules

    pub depth_falls : (p q : ℕ) (n : Node) → slice_get g.nodes p ≡ Some n → level q < level p → depth q + node_levels n ≤ depth p
    unfolding depth
    depth_falls p q n e l =
        let here = levels_new (level q) (level p) 0 p p n g.nodes e (omega arith) l (omega arith) in
        let rules = rules_more (level q) (level p) g.rules (omega arith) in
        omega arith

    pub depth_into : (p r : ℕ) (named : declared.Rule) → slice_get g.rules r ≡ Some named → level named.body < level p → depth named.body + 1 ≤ depth p
    unfolding depth
    depth_into p r named e l =
        let nodes = levels_more (level named.body) (level p) 0 g.nodes (omega arith) in
        let rules = rules_new (level named.body) (level p) r named g.rules e (omega arith) l in
        omega arith

    pub depth_most : (p : ℕ) → depth p + 1 ≤ grammar_levels g
    unfolding depth
    depth_most p = let nodes = levels_most (level p) 0 g.nodes in let rules = rules_most (level p) g.rules in omega arith
