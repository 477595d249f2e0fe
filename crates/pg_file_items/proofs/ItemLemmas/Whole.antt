-- Whole forms, each with its parts after it, one form after another.
use Rattle.std.proofs.Common.{◌≡◌, ℕ, zero, suc, ◌+◌, List, [], ◌∷◌, ◌++◌, map, subst, ap, refl, arith}
use Rattle.std.specs.List.{AllByRecursion}
use Rattle.pg_grammar_form.specs.Preorder.{SpellForms}

-- whole forms, and others after them
spell_append : (k j : ℕ) (counts others : List ℕ) → SpellForms k counts → SpellForms j others → SpellForms (k + j) (counts ++ others)
spell_append k j [] others h e =
    let same : j ≡ k + j = omega (arith, h) in subst (λ (m : ℕ). SpellForms m others) same e
spell_append zero j (n ∷ counts) others h e = absurd h
spell_append (suc k) j (n ∷ counts) others h e =
    let tail : SpellForms (n + k + j) (counts ++ others) = spell_append (n + k) j counts others h e in
    let same : n + k + j ≡ n + (k + j) = omega arith in
    let next : suc k + j ≡ suc (k + j) = omega arith in
    rw next (subst (λ (m : ℕ). SpellForms m (counts ++ others)) same tail)

map_append : {A : Type 0} (count : A → ℕ) (xs others : List A) → map count (xs ++ others) ≡ map count xs ++ map count others
map_append count [] others = refl
map_append count (x ∷ xs) others = ap (λ (ns : List ℕ). count x ∷ ns) (map_append count xs others)

-- one whole form, and others after it
pub spell_first : {A : Type 0} (count : A → ℕ) (xs others : List A) (n : ℕ) → SpellForms 1 (map count xs) → SpellForms n (map count others) → SpellForms (suc n) (map count (xs ++ others))
spell_first count xs others n h e =
    let next : 1 + n ≡ suc n = omega arith in
    rw (map_append count xs others) (subst (λ (m : ℕ). SpellForms m (map count xs ++ map count others)) next (spell_append 1 n (map count xs) (map count others) h e))

-- as many as the form before them counts
pub spell_parts : {A : Type 0} (count : A → ℕ) (n : ℕ) (xs : List A) → SpellForms n (map count xs) → SpellForms (n + 0) (map count xs)
spell_parts count n xs h = let same : n ≡ n + 0 = omega arith in subst (λ (m : ℕ). SpellForms m (map count xs)) same h

-- a fact of each element of two lists
pub all_append : {A : Type 0} (P : A → Type 0) (xs others : List A) → AllByRecursion P xs → AllByRecursion P others → AllByRecursion P (xs ++ others)
all_append P [] others h e = e
all_append P (x ∷ xs) others h e = (h.0, all_append P xs others h.1 e)
