-- A node of a predictive grammar costs no more than its size, as no part is reached twice before anything is consumed.
use Rattle.std.proofs.Common.{◌≡◌, ◌<◌, ◌≤◌, ◌+◌, ℕ, zero, suc, List, [], ◌∷◌, Bool, true, false, refl, sym, ◌∙◌, length, Some, slice_get, arith, le_refl}
use Rattle.std.specs.Prelude.{if◌then◌else◌}
use Rattle.std.specs.List.{AllByRecursion}
use Rattle.pg_grammar_form.specs.Forms.{Node, parts_of}
use Rattle.pg_grammar_form.specs.declared.form.Form.TheVariants as form
use Rattle.pg_grammar_form.specs.declared.form.Around.{Around}
use Rattle.pg_grammar_form.specs.declared.form.Around.TheVariants as kind
use Rattle.pg_grammar_value.specs.Grammar.{Grammar}
use Rattle.pg_graph.specs.Marks.{is_marked}
use Rattle.pg_sets_nullable.specs.Parts.{up_to_unmarked}
use Rattle.pg_predict_costs.specs.Steps.{steps_of_all}
use Rattle.pg_predict_costs.specs.Costs.{node_cost}
use Rattle.pg_predict_costs.specs.StepCost.{own_steps}
use Rattle.pg_derive.specs.ClosedSets.{NodeSets, AllNullable, PartsFall}
use Rattle.pg_derive.specs.Predictive.{TryIsPredictive, of_part, of_string, of_key, AlternativesArePredictive, AroundIsPredictive, IsPredictiveAt}
use Rattle.pg_derive.proofs.Quiet.{IsWhole, found}
use Rattle.pg_derive_bound.proofs.Ended.{around_low}
use Rattle.pg_derive_bound.proofs.Parts.{reached_cost}

falls_in_try : {g : Grammar} {sets : NodeSets} {p q : ℕ} → TryIsPredictive g sets p q → sets.level q < sets.level p
falls_in_try (of_part f) = f.falls
falls_in_try (of_string e spelled falls f) = falls
falls_in_try (of_key e first second spelled falls f) = falls

-- what stands around a part falls to it
pub falls_around : (g : Grammar) (sets : NodeSets) (p q : ℕ) (k : Around) → AroundIsPredictive g sets p k q → sets.level q < sets.level p
falls_around g sets p q kind.Try f = falls_in_try f
falls_around g sets p q k f = f.falls

module _ (g : Grammar) (whole : IsWhole g) (sets : NodeSets) (good : (p : ℕ) (n : Node) → slice_get g.nodes p ≡ Some n → IsPredictiveAt g sets p n)
    (nullable : List Bool) (marks : (p : ℕ) → is_marked nullable p ≡ sets.nullable p) (cost size : ℕ → ℕ)
    (costs : (p : ℕ) (n : Node) → slice_get g.nodes p ≡ Some n → cost p ≡ node_cost g nullable cost n)
    (sizes : (p : ℕ) (n : Node) → slice_get g.nodes p ≡ Some n → size p ≡ own_steps g cost n + steps_of_all size (parts_of n)) where
  abbrev AreNodes : List ℕ → Type 0
  AreNodes qs = AllByRecursion (λ q. q < length g.nodes) qs

  -- the nodes at lower levels cost no more than their sizes
  abbrev Lower : ℕ → Type 0
  Lower n = (q : ℕ) → sets.level q < n → q < length g.nodes → cost q ≤ size q

  low_reached : (n : ℕ) → Lower n → (qs : List ℕ) → PartsFall sets n qs → AreNodes qs → reached_cost nullable cost qs ≤ steps_of_all size qs
  low_reached n lower [] falls inside = omega arith
  low_reached n lower (q ∷ qs) falls inside = go (is_marked nullable q) refl (lower q falls.0 inside.0) (λ e. low_reached n lower qs (falls.1 e) inside.1)
    where
      go : (b : Bool) → is_marked nullable q ≡ b → cost q ≤ size q → (sets.nullable q ≡ true → reached_cost nullable cost qs ≤ steps_of_all size qs) →
          cost q + steps_of_all cost (if b then up_to_unmarked nullable qs else []) ≤ size q + steps_of_all size qs
      go true e first rest = let more = rest (sym (marks q) ∙ e) in omega arith
      go false e first rest = omega arith

  low_alternatives : (n p : ℕ) → Lower n → sets.level p < suc n → (qs : List ℕ) → AlternativesArePredictive sets p qs → AreNodes qs → steps_of_all cost qs ≤ steps_of_all size qs
  low_alternatives n p lower l [] f inside = omega arith
  low_alternatives n p lower l (q ∷ qs) f inside =
      let falls = f.0.falls in
      let first = lower q (omega arith) inside.0 in
      let rest = low_alternatives n p lower l qs f.2 inside.1 in
      omega arith

  low_chain : (q r : ℕ) → (AllNullable sets (r ∷ q ∷ []) → ⊥) → cost q ≤ size q → (sets.nullable q ≡ true → cost r ≤ size r) → reached_cost nullable cost (q ∷ r ∷ q ∷ []) ≤ steps_of_all size (q ∷ r ∷ [])
  low_chain q r full operand separator = go (is_marked nullable q) (is_marked nullable r) refl refl
    where
      go : (b d : Bool) → is_marked nullable q ≡ b → is_marked nullable r ≡ d →
          cost q + steps_of_all cost (if b then r ∷ (if d then q ∷ (if b then [] else []) else []) else []) ≤ size q + (size r + 0)
      go true true e f = absurd (full (sym (marks r) ∙ f, (sym (marks q) ∙ e, tt)))
      go true false e f = let more = separator (sym (marks q) ∙ e) in omega arith
      go false d e f = omega arith

  low_node : (n p : ℕ) → Lower n → sets.level p < suc n → (f : Node) → slice_get g.nodes p ≡ Some f → IsPredictiveAt g sets p f → cost p ≤ size p
  low_node n p lower l (form.Leaf leaf) e f = let cost = costs p _ e in let size = sizes p _ e in omega arith
  low_node n p lower l (form.Seq parts) e f =
      let cost = costs p _ e in
      let size = sizes p _ e in
      let rest = low_reached (sets.level p) (λ q m inside. lower q (omega arith) inside) parts f.falls (whole.parts p _ e) in
      omega arith
  low_node n p lower l (form.Choice parts) e f =
      let cost = costs p _ e in let size = sizes p _ e in let rest = low_alternatives n p lower l parts f (whole.parts p _ e) in omega arith
  low_node n p lower l (form.Many q) e f =
      let cost = costs p _ e in
      let size = sizes p _ e in
      let falls = f.falls in
      let rest = lower q (omega arith) (whole.parts p _ e).0 in
      omega arith
  low_node n p lower l (form.Chain side used q r) e f =
      let cost = costs p _ e in
      let size = sizes p _ e in
      let there = whole.parts p _ e in
      let rest = low_chain q r f.full (lower q (let falls = f.falls.0 in omega arith) there.0) (λ empty. lower r (let falls = (f.falls.1 empty).0 in omega arith) there.1.0) in
      omega arith
  low_node n p lower l (form.Rule r) e f = let cost = costs p _ e in let size = sizes p _ e in omega arith
  low_node n p lower l (form.Expression builders q) e f = let cost = costs p _ e in let size = sizes p _ e in omega arith
  low_node n p lower l (form.Around k q) e f =
      let falls = falls_around g sets p q k f in around_low g nullable cost size costs sizes p q k e (lower q (omega arith) (whole.parts p _ e).0)

  low_below : (n : ℕ) → Lower n
  low_below zero p l inside = absurd (omega arith)
  low_below (suc n) p l inside = let f = found g.nodes p inside in low_node n p (low_below n) l f.0 f.1 (good p f.0 f.1)

  pub low : (p : ℕ) → p < length g.nodes → cost p ≤ size p
  low p inside = low_below (suc (sets.level p)) p (le_refl _) inside
