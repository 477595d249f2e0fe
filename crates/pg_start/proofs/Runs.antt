-- How far a run goes in a text that begins with a key.
use Rattle.std.proofs.Common.{◌≡◌, ◌≢◌, ℕ, ◌<◌, Bool, true, false, cond, List, [], ◌∷◌, length, drop, arith, refl, ap, ◌∙◌, sym}
use Rattle.std.proofs.lemmas.List.Sums.{take_while-cons}
use Rattle.pg_class.specs.Ranges.{Range, has}
use Rattle.pg_start.specs.Prefixes.{begins_in, IsPrefix, run, word_prefix}

-- the run at a character
at_head : (class : List Range) (x y : ℕ) (xs ys : List ℕ) → x ≡ y → (has class y ≡ true → run class xs ≡ run class ys)
    → run class (x ∷ xs) ≡ run class (y ∷ ys)
at_head class x y xs ys e same =
    take_while-cons (has class) x xs
    ∙ ap (λ c. cond (has class c) (c ∷ run class xs) []) e
    ∙ by_case (has class y) refl
    ∙ sym (take_while-cons (has class) y ys)
  where
    by_case : (b : Bool) → has class y ≡ b → cond b (y ∷ run class xs) [] ≡ cond b (y ∷ run class ys) []
    by_case true m = ap (λ t. y ∷ t) (same m)
    by_case false m = refl

-- a run that ends inside a key ends there in each text that begins with the key
pub run_inside : (class : List Range) (key text : List ℕ) → IsPrefix key text → run class key ≢ key → run class text ≡ run class key
run_inside class [] text f n = absurd (n refl)
run_inside class (x ∷ xs) [] f n = cc
run_inside class (x ∷ xs) (y ∷ ys) f n =
    let tail : IsPrefix xs ys = cc in
    let first : y ≡ x = cc in
    at_head class y x ys xs first (λ m. run_inside class xs ys tail (λ all. n (whole m all)))
  where
    whole : has class x ≡ true → run class xs ≡ xs → run class (x ∷ xs) ≡ x ∷ xs
    whole m all = take_while-cons (has class) x xs ∙ ap (λ b. cond b (x ∷ run class xs) []) m ∙ ap (λ t. x ∷ t) all

-- a run ends after a key where no character of its class follows
pub run_ends : (class : List Range) (key text : List ℕ) → IsPrefix key text → begins_in class (drop (length key) text) ≡ false
    → run class text ≡ run class key
run_ends class [] [] f e = refl
run_ends class [] (y ∷ ys) f e = take_while-cons (has class) y ys ∙ ap (λ b. cond b (y ∷ run class ys) []) e
run_ends class (x ∷ xs) [] f e = cc
run_ends class (x ∷ xs) (y ∷ ys) f e =
    let tail : IsPrefix xs ys = cc in
    let first : y ≡ x = cc in
    at_head class y x ys xs first (λ m. run_ends class xs ys tail e)

-- the same of words
pub word_inside : (rest : List Range) (key text : List ℕ) → 0 < length key → IsPrefix key text → word_prefix rest key ≢ key
    → word_prefix rest text ≡ word_prefix rest key
word_inside rest [] text l f n = absurd (omega arith)
word_inside rest (x ∷ xs) [] l f n = cc
word_inside rest (x ∷ xs) (y ∷ ys) l f n =
    let tail : IsPrefix xs ys = cc in
    let first : y ≡ x = cc in
    let runs = run_inside rest xs ys tail (λ all. n (ap (λ t. x ∷ t) all)) in
    ap (λ c. c ∷ run rest ys) first ∙ ap (λ t. x ∷ t) runs

pub word_ends : (rest : List Range) (key text : List ℕ) → 0 < length key → IsPrefix key text → begins_in rest (drop (length key) text) ≡ false
    → word_prefix rest text ≡ word_prefix rest key
word_ends rest [] text l f e = absurd (omega arith)
word_ends rest (x ∷ xs) [] l f e = cc
word_ends rest (x ∷ xs) (y ∷ ys) l f e =
    let tail : IsPrefix xs ys = cc in
    let first : y ≡ x = cc in
    let runs = run_ends rest xs ys tail e in
    ap (λ c. c ∷ run rest ys) first ∙ ap (λ t. x ∷ t) runs
