-- What is known of rules and nodes is so: at its place the body of the rule takes nothing from text and trail, and what
-- stands at the node takes nothing and gives an empty leaf.
use Rattle.std.proofs.Common.{◌≡◌, ◌⊎◌, ℕ, zero, suc, List, [], ◌∷◌, inl, inr, refl, sym, ap, subst}
use Rattle.std.specs.Prelude.{Option, Some, None, slice_get, set, replicate}
use Rattle.pg_tree.specs.Trees.{Tree}
use Rattle.pg_grammar_value.specs.Grammar.{Grammar}
use Rattle.pg_grammar_value.specs.declared.grammar.Rule as declared
use Rattle.pg_table.specs.Tables.{Table}
use Rattle.pg_language.specs.Derives.{Spot, leaf_of, Derives}
use Rattle.pg_trail_replay.specs.Tasks.{Known}
use Rattle.pg_trail_replay.proofs.Alike.{Alike}

abbrev spot_at : ℕ → Table → Spot
spot_at place table = record { place = place; table = table }

-- the rule's body consumes nothing there, whatever the table, and its trees can be left out at this looseness
abbrev pub TakesNothing : Grammar → List ℕ → ℕ → Known → Type 0
TakesNothing g text r known = (named : declared.Rule) → slice_get g.rules r ≡ Some named → (table : Table) →
    (w : List Tree) × (Derives g text named.body (spot_at known.place table) (spot_at known.place table) w [] × Alike known.loose [] w)

abbrev pub AreKnown : Grammar → List ℕ → List (Option Known) → Type 0
AreKnown g text known = (r : ℕ) (here : Known) → slice_get known r ≡ Some (Some here) → TakesNothing g text r here

-- the node takes nothing there, whatever the table, and gives an empty leaf
abbrev pub IsBlank : Grammar → List ℕ → ℕ → ℕ → Type 0
IsBlank g text p i = (table : Table) → Derives g text p (spot_at i table) (spot_at i table) (leaf_of [] ∷ []) []

abbrev pub AreBlank : Grammar → List ℕ → List (Option ℕ) → Type 0
AreBlank g text blank = (p i : ℕ) → slice_get blank p ≡ Some (Some i) → IsBlank g text p i

-- all that is known is so
abbrev pub IsSo : Grammar → List ℕ → List (Option Known) → List (Option ℕ) → Type 0
IsSo g text known blank = AreKnown g text known × AreBlank g text blank

-- ---- nothing

nowhere : {X : Type 0} (count r : ℕ) (x : X) → slice_get (replicate count None) r ≡ Some (Some x) → ⊥
nowhere zero r x e = cc
nowhere (suc count) zero x e = cc
nowhere (suc count) (suc r) x e = nowhere count r x e

pub none_known : (g : Grammar) (text : List ℕ) (rules nodes : ℕ) → IsSo g text (replicate rules None) (replicate nodes None)
none_known g text rules nodes = ((λ r known e. absurd (nowhere rules r known e)), (λ p i e. absurd (nowhere nodes p i e)))

-- ---- one more

one_kept : {X : Type 0} (xs : List (Option X)) (r q : ℕ) (x y : X) → slice_get (set xs r (Some x)) q ≡ Some (Some y) → ((q ≡ r) × (y ≡ x)) ⊎ (slice_get xs q ≡ Some (Some y))
one_kept [] r q x y e = inr e
one_kept (z ∷ xs) zero zero x y e = inl (refl, let same : y ≡ x = cc in same)
one_kept (z ∷ xs) zero (suc q) x y e = inr e
one_kept (z ∷ xs) (suc r) zero x y e = inr e
one_kept (z ∷ xs) (suc r) (suc q) x y e = elim (one_kept xs r q x y e) [ inl h ↦ inl (ap suc h.0, h.1) | inr h ↦ inr h ]

pub one_more_known : (g : Grammar) (text : List ℕ) (known : List (Option Known)) (r : ℕ) (here : Known) → AreKnown g text known → TakesNothing g text r here → AreKnown g text (set known r (Some here))
one_more_known g text known r here h new = λ q other e. elim (one_kept known r q here other e) [
  | inl same ↦ subst (λ (k : Known). TakesNothing g text q k) (sym same.1) (subst (λ q. TakesNothing g text q here) (sym same.0) new)
  | inr old ↦ h q other old
]

pub one_more_blank : (g : Grammar) (text : List ℕ) (blank : List (Option ℕ)) (p i : ℕ) → AreBlank g text blank → IsBlank g text p i → AreBlank g text (set blank p (Some i))
one_more_blank g text blank p i h new = λ q j e. elim (one_kept blank p q i j e) [
  | inl same ↦ subst (λ j. IsBlank g text q j) (sym same.1) (subst (λ q. IsBlank g text q i) (sym same.0) new)
  | inr old ↦ h q j old
]
