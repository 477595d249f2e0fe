-- Whole forms in preorder, and their numbers.
use Rattle.std.proofs.Common.{◌≡◌, ℕ, zero, suc, ◌+◌, ◌<◌, ◌≤◌, List, [], ◌∷◌, ◌++◌, length, take, sym, subst, arith}
use Rattle.std.proofs.lemmas.List.{length-drop, length-take}
use Rattle.std.specs.List.{AllByRecursion}
use Rattle.pg_grammar_form.proofs.Each.{all-drop, all-weaker}
use Rattle.pg_grammar_form.specs.Preorder.{SpellForms, roots}

-- k whole forms have k roots
pub length-roots : (i k : ℕ) (counts : List ℕ) → SpellForms k counts → length (roots i counts) ≡ k
length-roots i k [] h = sym h
length-roots i zero (n ∷ counts) h = absurd h
length-roots i (suc k) (n ∷ counts) h =
    let rest : length (roots (suc i) counts) ≡ n + k = length-roots (suc i) (n + k) counts h in
    omega (arith, length-drop n (roots (suc i) counts))

-- the parts of a form are as many as it counts
pub length-parts : (i k n : ℕ) (counts : List ℕ) → SpellForms (n + k) counts → length (take n (roots i counts)) ≡ n
length-parts i k n counts h = omega (arith, length-take n (roots i counts), length-roots i (n + k) counts h)

-- whole forms, and others after them
pub SpellForms-append : (k j : ℕ) (counts others : List ℕ) → SpellForms k counts → SpellForms j others → SpellForms (k + j) (counts ++ others)
SpellForms-append k j [] others h e =
    let same : j ≡ k + j = omega (arith, h) in subst (λ m. SpellForms m others) same e
SpellForms-append zero j (n ∷ counts) others h e = absurd h
SpellForms-append (suc k) j (n ∷ counts) others h e =
    let tail : SpellForms (n + k + j) (counts ++ others) = SpellForms-append (n + k) j counts others h e in
    let same : n + k + j ≡ n + (k + j) = omega arith in
    let next : suc k + j ≡ suc (k + j) = omega arith in
    rw next (subst (λ m. SpellForms m (counts ++ others)) same tail)

-- the roots are numbers of the forms
pub roots_within : (i : ℕ) (counts : List ℕ) → AllByRecursion (λ q. (i ≤ q) × (q < i + length counts)) (roots i counts)
roots_within i [] = tt
roots_within i (n ∷ counts) =
    let after = roots_within (suc i) counts in
    ((omega arith, omega arith), all-weaker _ _ (λ q h. (omega (arith, h.0), omega (arith, h.1))) _ (all-drop _ n _ after))
