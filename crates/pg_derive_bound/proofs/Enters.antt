-- A node that is entered pays two steps more than what stands at it.
use Rattle.std.proofs.Common.{inl, inr, ◌≡◌, ◌≤◌, ◌+◌, ℕ, suc, List, [], ◌∷◌, Bool, true, ap, ◌∙◌, Some, slice_get, arith}
use Rattle.std.specs.List.{Contains, AllByRecursion}
use Rattle.std.specs.Option.{option_map_or}
use Rattle.pg_tree.specs.Trees.{Tree}
use Rattle.pg_grammar_form.specs.declared.form.Form.TheVariants as form
use Rattle.pg_grammar_form.specs.declared.form.Leaf.TheVariants as leaf
use Rattle.pg_grammar_form.specs.declared.side.Side.{Side}
use Rattle.pg_grammar_form.specs.declared.used.OperatorBuilders.{OperatorBuilders}
use Rattle.pg_grammar_value.specs.declared.grammar.Rule as declared
use Rattle.pg_grammar_value.specs.declared.trail.TrailItem.{TrailItem}
use Rattle.pg_predict_costs.specs.Steps.{body_steps}
use Rattle.pg_language.specs.Answers.{Given}
use Rattle.pg_language.specs.Derives.{Spot}
use Rattle.pg_language.specs.Errors.{Error}
use Rattle.pg_language.specs.Outcomes.{ok, failed}
use Rattle.pg_derive.specs.ClosedSets.{NodeSets, BeginsParts}
use Rattle.pg_derive.specs.Predictive.{ExpressionIsPredictive, PartIsPredictive, AlternativesArePredictive, ManyIsPredictive, IsPredictiveAt}
use Rattle.pg_derive.specs.PredictiveLaws.{Predicts}
use Rattle.pg_derive_bound.proofs.Charges.{Charges}
use Rattle.pg_derive_bound.proofs.Nodes as nodes
use Rattle.pg_derive_bound.proofs.Nodes.{bare_of}
use Rattle.pg_derive_bound.proofs.Paid.{End, raised}
use Rattle.pg_derive_bound.proofs.Parts.{PaidParts, PaidAlternatives}
use Rattle.pg_derive_bound.proofs.RowSteps.{PaidOperand}
use Rattle.pg_derive.proofs.StartLists.{contains_none, contains_cases}
use Rattle.pg_grammar_form.specs.declared.used.ChainBuilder.{ChainBuilder}
use Rattle.pg_derive_bound.proofs.Repeats.{PaidRounds, PaidChain}

pub not_failed : {d : Bool} {b : Spot} {v : List Tree} {t : List TrailItem} {e f : Error} → ok d b v t e ≡ failed true f → ⊥
not_failed e = absurd cc

module _ (G : Given) (sets : NodeSets) (h : Predicts G sets) (c : Charges G.grammar sets) where
  abbrev PaidNode : ℕ → ℕ → End → ℕ → Type 0
  PaidNode p i z m = nodes.PaidNode G sets h c p i z m

  -- ---- the node itself

  pub enters_seq : (p q : ℕ) (qs : List ℕ) (i : ℕ) (z : End) (m : ℕ) → slice_get G.grammar.nodes p ≡ Some (form.Seq (q ∷ qs)) → IsPredictiveAt G.grammar sets p (form.Seq (q ∷ qs)) →
      PaidParts G sets h c p (c.climb p) (q ∷ qs) i z m → PaidNode p i z (suc m)
  enters_seq p q qs i z m e f x =
      let cost = c.costs p _ e in
      let size = c.sizes p _ e in
      raised (nodes.fare G sets h c) 2 (omega arith) (omega arith) (omega arith) f.empty (bare_of G sets h (sets.first p) (BeginsParts sets (q ∷ qs)) i f.first) (λ j none. none) x

  alternatives_bare : (p : ℕ) (qs : List ℕ) (i : ℕ) → AlternativesArePredictive sets p qs → nodes.Bare G sets h p i → AllByRecursion (λ q. nodes.Bare G sets h q i) qs
  alternatives_bare p [] i f none = tt
  alternatives_bare p (q ∷ qs) i f none = (bare_of G sets h (sets.first p) (Contains (sets.first q)) i f.0.first none, alternatives_bare p qs i f.2 none)

  any_nullable : (p : ℕ) (qs : List ℕ) → AlternativesArePredictive sets p qs → (q : ℕ) → Contains qs q → sets.nullable q ≡ true → sets.nullable p ≡ true
  any_nullable p [] f q is e = absurd (contains_none q is)
  any_nullable p (r ∷ qs) f q is e =
      elim (contains_cases r q qs is) [
        | inl same ↦ f.0.empty (ap sets.nullable same ∙ e)
        | inr later ↦ any_nullable p qs f.2 q later e
      ]

  pub enters_choice : (p : ℕ) (qs : List ℕ) (i : ℕ) (z : End) (m : ℕ) → slice_get G.grammar.nodes p ≡ Some (form.Choice qs) → AlternativesArePredictive sets p qs → PaidAlternatives G sets h c p qs i z m → PaidNode p i z (suc m)
  enters_choice p qs i z m e f x =
      let cost = c.costs p _ e in
      let size = c.sizes p _ e in
      raised (nodes.fare G sets h c) 2 (omega arith) (omega arith) (omega arith) (λ some. any_nullable p qs f some.0 some.1 some.2) (alternatives_bare p qs i f) (λ j none. none) x

  pub enters_many : (p q : ℕ) (i : ℕ) (z : End) (m : ℕ) → slice_get G.grammar.nodes p ≡ Some (form.Many q) → ManyIsPredictive sets p q → PaidRounds G sets h c p q i z m → PaidNode p i z (suc m)
  enters_many p q i z m e f x =
      let cost = c.costs p _ e in
      let size = c.sizes p _ e in
      let climb = c.falls p q _ e f.falls in
      raised (nodes.fare G sets h c) 2 (omega arith) (omega arith) (omega arith) (λ u. f.empty) (bare_of G sets h (sets.first p) (Contains (sets.first q)) i f.first) (λ j none. none) x

  pub enters_chain : (p q r : ℕ) (side : Side) (used : ChainBuilder) (i : ℕ) (z : End) (m : ℕ) → slice_get G.grammar.nodes p ≡ Some (form.Chain side used q r) → PaidChain G sets h c p q r i z m → PaidNode p i z (suc m)
  enters_chain p q r side used i z m e x =
      let cost = c.costs p _ e in
      let size = c.sizes p _ e in
      raised (nodes.fare G sets h c) 2 (omega arith) (omega arith) (omega arith) (λ x. x) (λ none. none) (λ j none. none) x

  pub enters_rule : (p r : ℕ) (named : declared.Rule) (i : ℕ) (z : End) (m : ℕ) → slice_get G.grammar.nodes p ≡ Some (form.Rule r) → slice_get G.grammar.rules r ≡ Some named → PartIsPredictive sets p named.body →
      PaidNode named.body i z m → PaidNode p i z (suc m)
  enters_rule p r named i z m e at f x =
      let body : body_steps G.grammar.rules c.cost r ≡ c.cost named.body = ap (λ found. option_map_or (λ (rule : declared.Rule). c.cost rule.body) found 0) at in
      let cost : c.cost p ≡ 2 + body_steps G.grammar.rules c.cost r = c.costs p _ e in
      let size : c.size p ≡ 2 + body_steps G.grammar.rules c.cost r + 0 = c.sizes p _ e in
      let climb = c.into p r named at f.falls in
      let small = c.bodies r named at in
      raised (nodes.fare G sets h c) 2 (omega arith) (omega arith) (omega arith) f.empty (bare_of G sets h (sets.first p) (Contains (sets.first named.body)) i f.first)
      (λ j. bare_of G sets h (sets.follow named.body) (Contains (sets.follow p)) j f.follow) x

  pub enters_expression : (p q : ℕ) (builders : OperatorBuilders) (i : ℕ) (z : End) (m : ℕ) → slice_get G.grammar.nodes p ≡ Some (form.Expression builders q) → ExpressionIsPredictive G.grammar sets p q →
      PaidOperand G sets h c p q i z m → PaidNode p i z (suc m)
  enters_expression p q builders i z m e f x =
      let cost = c.costs p _ e in
      let size = c.sizes p _ e in
      let climb = c.falls p q _ e f.falls in
      raised (nodes.fare G sets h c) 2 (omega arith) (omega arith) (omega arith) (λ x. absurd x) (λ none. none) (λ j. bare_of G sets h (sets.follow q) (Contains (sets.follow p)) j f.follow) x
