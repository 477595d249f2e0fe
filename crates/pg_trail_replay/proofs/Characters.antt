-- Characters that stand in a text.
use Rattle.std.proofs.Common.{◌≡◌, ◌+◌, ◌-◌, ◌≤◌, ℕ, zero, suc, List, [], ◌∷◌, true, length, take, drop, refl, ap, sym, ◌∙◌, arith, length-take, length-drop}
use Rattle.std.specs.Prelude.{Some, slice_get}
use Rattle.std.specs.List.{prefix_len, take_while}
use Rattle.std.proofs.lemmas.Slice.Eq.{bytes_eq-Decides}
use Rattle.pg_grammar_form.specs.ClassItems.{has_character}
use Rattle.pg_grammar_form.specs.declared.class.ClassPart.{ClassPart}
use Rattle.pg_grammar_value.specs.Grammar.{Grammar}
use Rattle.pg_language.specs.Runs.{run_at, stands_at}

-- what stands there is no longer than what is left
pub stands_short : (text s : List ℕ) (i : ℕ) → stands_at text i s ≡ true → length s ≤ length text - i
stands_short text s i e =
    let same : s ≡ take (length s) (drop i text) = (bytes_eq-Decides _ _).0 e in let shown = ap length same in let taken = length-take (length s) (drop i text) in let dropped = length-drop i text in
    omega (arith, shown, taken, dropped)

-- a run is no longer than what is left
pub run_short : (g : Grammar) (text : List ℕ) (class : List ClassPart) (i : ℕ) → length (run_at g text class i) ≤ length text - i
run_short g text class i =
    let taken = length-take (prefix_len (has_character g.classes class) (drop i text)) (drop i text) in let dropped = length-drop i text in
    omega (arith, taken, dropped)

pub begins : (text : List ℕ) (i c : ℕ) → slice_get text i ≡ Some c → drop i text ≡ c ∷ drop (suc i) text
begins [] i c e = absurd cc
begins (x ∷ xs) zero c e = let same : x ≡ c = cc in ap (λ y. y ∷ xs) same
begins (x ∷ xs) (suc i) c e = begins xs i c e

run_again : (xs : List ℕ) (n : ℕ) → take (length (take n xs)) xs ≡ take n xs
run_again [] zero = refl
run_again [] (suc n) = refl
run_again (x ∷ xs) zero = refl
run_again (x ∷ xs) (suc n) = ap (λ ys. x ∷ ys) (run_again xs n)

-- as many characters as a run has are the run
pub run_taken : (g : Grammar) (class : List ClassPart) (xs : List ℕ) (n : ℕ) → n ≡ length (take_while (has_character g.classes class) xs) → take n xs ≡ take_while (has_character g.classes class) xs
run_taken g class xs n e = ap (λ m. take m xs) e ∙ run_again xs (prefix_len (has_character g.classes class) xs)

-- a character and the run after it
pub whole_word : (g : Grammar) (text : List ℕ) (class : List ClassPart) (i c : ℕ) → slice_get text i ≡ Some c →
    take (length (run_at g text class (i + 1)) + 1) (drop i text) ≡ c ∷ run_at g text class (i + 1)
whole_word g text class i c e =
    let n : ℕ = length (run_at g text class (i + 1)) in
    let one : n + 1 ≡ suc n = omega arith in
    let next : i + 1 ≡ suc i = omega arith in
    ap (λ m. take m (drop i text)) one ∙ ap (take (suc n)) (begins text i c e) ∙ ap (λ xs. c ∷ take n xs) (ap (λ k. drop k text) (sym next))
    ∙ ap (λ xs. c ∷ xs) (run_again (drop (i + 1) text) (prefix_len (has_character g.classes class) (drop (i + 1) text)))
