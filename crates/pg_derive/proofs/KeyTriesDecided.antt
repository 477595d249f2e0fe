-- Whether a try gives a key, which is looked at as a whole, is decided.
use Rattle.std.proofs.Common.{◌≡◌, inl, inr, ℕ, List, [], ◌∷◌, Option, Some, None, slice_get, refl, sym, ap, ◌∙◌, subst}
use Rattle.std.proofs.lemmas.Option.{same_Some, none-some}
use Rattle.pg_grammar_value.specs.Grammar.{Grammar}
use Rattle.pg_grammar_form.specs.declared.class.ClassPart.{ClassPart}
use Rattle.pg_grammar_form.specs.Forms.{Node}
use Rattle.pg_grammar_form.specs.declared.form.Form.TheVariants as form
use Rattle.pg_grammar_form.specs.declared.form.Leaf.TheVariants as leaf
use Rattle.pg_grammar_form.specs.declared.form.Around.TheVariants as around
use Rattle.pg_sets_own.specs.OwnStarts.{IsKeyTry}
use Rattle.pg_sets_own.specs.OwnStarts as own
use Rattle.pg_derive.proofs.Least.{Decided}

-- what stands at a node, so far as it tells whether a try around it may give a key
data Look : Node → Type 0 where
  string : (s : List ℕ) → Look (form.Leaf (leaf.String s))
  pair : (x y : ℕ) → Look (form.Seq (x ∷ y ∷ []))
  other : {n : Node} → ((s : List ℕ) → n ≡ form.Leaf (leaf.String s) → ⊥) → ((x y : ℕ) → n ≡ form.Seq (x ∷ y ∷ []) → ⊥) → Look n

look : (n : Node) → Look n
look (form.Leaf (leaf.String text)) = string text
look (form.Leaf l) = other (λ s e. cc) (λ x y e. cc)
look (form.Seq []) = other (λ s e. cc) (λ x y e. cc)
look (form.Seq (x ∷ [])) = other (λ s e. cc) (λ x y e. cc)
look (form.Seq (x ∷ y ∷ [])) = pair x y
look (form.Seq (x ∷ y ∷ z ∷ parts)) = other (λ s e. cc) (λ x y e. cc)
look n = other (λ s e. cc) (λ x y e. cc)

bar_decided : (n : Node) → Decided ((class : List ClassPart) × (n ≡ form.Leaf (leaf.NotFollowedBy class)))
bar_decided (form.Leaf (leaf.NotFollowedBy class)) = inl (class, refl)
bar_decided n = inr (λ h. let e = h.1 in cc)

string_decided : (n : Node) → Decided ((s : List ℕ) × (n ≡ form.Leaf (leaf.String s)))
string_decided n = go (look n)
  where
    go : {n : Node} → Look n → Decided ((s : List ℕ) × (n ≡ form.Leaf (leaf.String s)))
    go (string s) = inl (s, refl)
    go (pair x y) = inr (λ h. let e = h.1 in cc)
    go (other no_string no_pair) = inr (λ h. no_string h.0 h.1)

no_string_is_pair : {s : List ℕ} {x y : ℕ} → ◌≡◌ {A = Node} (form.Leaf (leaf.String s)) (form.Seq (x ∷ y ∷ [])) → ⊥
no_string_is_pair e = cc

module _ (g : Grammar) where
  one_node : (p : ℕ) {n m : Node} → slice_get g.nodes p ≡ Some n → slice_get g.nodes p ≡ Some m → n ≡ m
  one_node p {n} {m} e f = same_Some n m (sym e ∙ f)

  -- what stands at a place, if something does
  at_decided : (P : Node → Type 0) → ((n : Node) → Decided (P n)) → (p : ℕ) → Decided ((n : Node) × ((slice_get g.nodes p ≡ Some n) × P n))
  at_decided P decide p = go (slice_get g.nodes p) refl
    where
      go : (found : Option Node) → slice_get g.nodes p ≡ found → Decided ((n : Node) × ((slice_get g.nodes p ≡ Some n) × P n))
      go None e = inr (λ h. none-some h.0 (sym e ∙ h.1.0))
      go (Some n) e = elim (decide n) [ inl h ↦ inl (n, (e, h)) | inr not ↦ inr (λ h. not (subst P (one_node p h.1.0 e) h.1.1)) ]

  -- a try around a sequence of two
  pair_decided : (p x y : ℕ) → slice_get g.nodes p ≡ Some (form.Seq (x ∷ y ∷ [])) → Decided (IsKeyTry g (form.Around around.Try p))
  pair_decided p x y e =
      go (at_decided (λ n. (s : List ℕ) × (n ≡ form.Leaf (leaf.String s))) string_decided x) (at_decided (λ n. (class : List ClassPart) × (n ≡ form.Leaf (leaf.NotFollowedBy class))) bar_decided y)
    where
      none : ((s : List ℕ) (class : List ClassPart) → slice_get g.nodes x ≡ Some (form.Leaf (leaf.String s)) → slice_get g.nodes y ≡ Some (form.Leaf (leaf.NotFollowedBy class)) → ⊥)
          → IsKeyTry g (form.Around around.Try p) → ⊥
      none not (own.string f) = no_string_is_pair (one_node p f e)
      none not (own.keyed {characters = s} {excluded = class} k) =
          let parts = one_node p k.both e in
          let first : k.first ≡ x = cc in
          let second : k.second ≡ y = cc in
          not s class (subst (λ i. slice_get g.nodes i ≡ Some (form.Leaf (leaf.String s))) first k.string) (subst (λ i. slice_get g.nodes i ≡ Some (form.Leaf (leaf.NotFollowedBy class))) second k.ends)

      go : Decided ((n : Node) × ((slice_get g.nodes x ≡ Some n) × ((s : List ℕ) × (n ≡ form.Leaf (leaf.String s))))) →
          Decided ((n : Node) × ((slice_get g.nodes y ≡ Some n) × ((class : List ClassPart) × (n ≡ form.Leaf (leaf.NotFollowedBy class))))) → Decided (IsKeyTry g (form.Around around.Try p))
      go (inl h) (inl k) =
          inl (own.keyed (record { first = x; second = y; both = e; string = h.1.0 ∙ ap Some h.1.1.1; ends = k.1.0 ∙ ap Some k.1.1.1 }))
      go (inl h) (inr not) = inr (none (λ s class f k. not (form.Leaf (leaf.NotFollowedBy class), (k, (class, refl)))))
      go (inr not) k = inr (none (λ s class f k. not (form.Leaf (leaf.String s), (f, (s, refl)))))

  pub key_try_decided : (p : ℕ) (n : Node) → slice_get g.nodes p ≡ Some n → Decided (IsKeyTry g (form.Around around.Try p))
  key_try_decided p n e = go (look n) e
    where
      go : {n : Node} → Look n → slice_get g.nodes p ≡ Some n → Decided (IsKeyTry g (form.Around around.Try p))
      go (string s) e = inl (own.string e)
      go (pair x y) e = pair_decided p x y e
      go {n} (other no_string no_pair) e = inr none
        where
          none : IsKeyTry g (form.Around around.Try p) → ⊥
          none (own.string f) = no_string _ (one_node p e f)
          none (own.keyed k) = no_pair _ _ (one_node p e k.both)
