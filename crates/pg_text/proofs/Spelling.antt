-- Keys that spell texts: what one more changes.
use Rattle.std.proofs.Common.{◌≡◌, inl, inr, ℕ, Bool, true, false, cond, ◌||◌, List, [], ◌∷◌, ◌++◌, refl, sym, ap, subst, ◌∙◌}
use Rattle.std.specs.Global.{Vec}
use Rattle.std.specs.List.{list_any}
use Rattle.std.specs.Str.{bytes_eq}
use Rattle.std.specs.Cmp.Lexicographic.{nat_list_eq_equiv}
use Rattle.std.proofs.lemmas.Bool.{cases_Bool}
use Rattle.std.proofs.lemmas.List.Folds.{list_any-append}
use Rattle.std.proofs.lemmas.Slice.Eq.{bytes_eq-Decides}
use Rattle.indexmap.specs.IndexSet.{insert_key}
use Rattle.pg_text.specs.Texts.{is_among, Spell, SpellsOneMore}

abbrev pub has : List ℕ → Vec ℕ → Bool
has text k = bytes_eq text k.items

abbrev pub same : Vec ℕ → Vec ℕ → Bool
same k l = bytes_eq k.items l.items

or_false : (b : Bool) → (b || false) ≡ b
or_false true = refl
or_false false = refl

or_last : (b c : Bool) → (c ≡ true → b ≡ true) → b ≡ (b || c)
or_last true c h = refl
or_last false true h = h refl
or_last false false h = refl

any_last : {A : Type 0} (p : A → Bool) (xs : List A) (x : A) → list_any p (xs ++ x ∷ []) ≡ (list_any p xs || p x)
any_last p xs x = list_any-append p xs (x ∷ []) ∙ ap (λ b. list_any p xs || b) (or_false (p x))

-- a text that is spelled already
again : (keys : List (Vec ℕ)) (k : Vec ℕ) (texts : List (List ℕ)) (other : List ℕ) → Spell keys texts → list_any (same k) keys ≡ true
    → bytes_eq k.items other ≡ true → is_among texts other ≡ true
again keys k texts other h y e = subst (λ t. is_among texts t ≡ true) ((bytes_eq-Decides k.items other).0 e) (sym (h k.items) ∙ y)

pub one_more : (keys : List (Vec ℕ)) (k : Vec ℕ) → SpellsOneMore k.items keys (insert_key same keys k)
one_more keys k texts h other = elim (cases_Bool (list_any (same k) keys)) [
  | inl y ↦ (ap (λ b. list_any (has other) (cond b keys (keys ++ k ∷ []))) y ∙ h other
      ∙ (or_last (is_among texts other) (bytes_eq k.items other) (again keys k texts other h y) ∙ sym (any_last (λ t. bytes_eq t other) texts k.items)))
  | inr n ↦ (ap (λ b. list_any (has other) (cond b keys (keys ++ k ∷ []))) n ∙ any_last (has other) keys k
      ∙ (ap (λ b. b || bytes_eq other k.items) (h other) ∙ (ap (λ b. is_among texts other || b) (nat_list_eq_equiv.symm other k.items) ∙ sym (any_last (λ t. bytes_eq t other) texts k.items))))
]
