-- What is noted of a grammar at a node is what is noted of the node.
use Rattle.std.proofs.Common.{◌≡◌, ℕ, zero, suc, ◌<◌, ◌≤◌, Bool, true, false, List, [], ◌∷◌, ◌++◌, length, append-nil, refl, sym, ap, ◌∙◌, inl, inr, arith}
use Rattle.std.specs.Prelude.{cond, nat_eq}
use Rattle.std.specs.List.{filter}
use Rattle.std.proofs.lemmas.List.Elements.{filter-append}
use Rattle.pg_grammar_value.specs.Grammar.{Grammar, IsGrammar}
use Rattle.pg_predict_conditions.specs.Conditions.{NodeFacts}
use Rattle.pg_predict_conditions.specs.Judged.{Facts, all_below, noted_at, noted_grammar}
use Rattle.pg_predict_conditions.specs.Shown.{AreFacts}
use Rattle.pg_predict_conditions.specs.Violations.{Violation}
use Rattle.pg_predict.proofs.Lists.{In}
use Rattle.pg_predict.proofs.Sound.{at_wrong}

-- whether a violation is at this node
abbrev at : ℕ → Violation ℕ → Bool
at p = λ v. nat_eq v.node p

same_node : (q p : ℕ) → q ≡ p → nat_eq q p ≡ true
same_node q p e = grind (arith, e)

other_node : (q p : ℕ) → (q ≡ p → ⊥) → nat_eq q p ≡ false
other_node q p apart = grind (arith, apart)

all_at : (p : ℕ) (bs : List (Violation ℕ)) → ((b : Violation ℕ) → In bs b → b.node ≡ p) → filter (at p) bs ≡ bs
all_at p [] are = refl
all_at p (x ∷ xs) are =
    ap (λ (b : Bool). cond b (x ∷ filter (at p) xs) (filter (at p) xs)) (same_node x.node p (are x (inl refl)))
    ∙ ap (λ (bs : List (Violation ℕ)). x ∷ bs) (all_at p xs (λ b is. are b (inr is)))

none_at : (p : ℕ) (bs : List (Violation ℕ)) → ((b : Violation ℕ) → In bs b → b.node ≡ p → ⊥) → filter (at p) bs ≡ []
none_at p [] apart = refl
none_at p (x ∷ xs) apart =
    ap (λ (b : Bool). cond b (x ∷ filter (at p) xs) (filter (at p) xs)) (other_node x.node p (apart x (inl refl)))
    ∙ none_at p xs (λ b is. apart b (inr is))

-- what is noted for numbers, each at its own node
module _ (f : ℕ → List (Violation ℕ)) (own : (k : ℕ) (b : Violation ℕ) → In (f k) b → b.node ≡ k) where
  none_below : (p n : ℕ) → n ≤ p → filter (at p) (all_below f n) ≡ []
  none_below p zero few = refl
  none_below p (suc n) few =
      filter-append (at p) (all_below f n) (f n) ∙ ap (λ (bs : List (Violation ℕ)). bs ++ filter (at p) (f n)) (none_below p n (omega arith))
      ∙ none_at p (f n) (λ b is e. let node = own n b is in absurd (omega arith))

  one_below : (p n : ℕ) → p < n → filter (at p) (all_below f n) ≡ f p
  one_below p zero below = absurd (omega arith)
  one_below p (suc n) below = filter-append (at p) (all_below f n) (f n) ∙ go (nat_eq p n) refl (λ before. one_below p n before)
    where
      go : (b : Bool) → nat_eq p n ≡ b → (p < n → filter (at p) (all_below f n) ≡ f p) → filter (at p) (all_below f n) ++ filter (at p) (f n) ≡ f p
      go true e earlier =
          let same : p ≡ n = grind (arith, e) in
          ap (λ (bs : List (Violation ℕ)). bs ++ filter (at p) (f n)) (none_below p n (omega arith))
          ∙ all_at p (f n) (λ b is. own n b is ∙ sym same) ∙ ap f (sym same)
      go false e earlier =
          let before : p < n = grind (arith, e, below) in
          ap (λ (bs : List (Violation ℕ)). bs ++ filter (at p) (f n)) (earlier before)
          ∙ ap (λ (bs : List (Violation ℕ)). f p ++ bs) (none_at p (f n) (λ b is e. let node = own n b is in absurd (omega arith)))
          ∙ append-nil (f p)

pub noted_there : (g : Grammar) (asked : NodeFacts) (facts : Facts) → AreFacts g asked facts → IsGrammar g → (p : ℕ) → p < length g.nodes
    → filter (λ (v : Violation ℕ). nat_eq v.node p) (noted_grammar g facts) ≡ noted_at g facts p
noted_there g asked facts are grammar p below =
    one_below (noted_at g facts) (λ k b is. (at_wrong g asked facts are grammar k b is).1.tagged.node) p (length g.nodes) below
