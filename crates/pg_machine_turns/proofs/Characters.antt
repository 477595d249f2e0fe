-- Characters that are read one after another.
use Rattle.std.proofs.Common.{◌≡◌, ◌+◌, ℕ, zero, suc, List, [], ◌∷◌, Bool, true, false, nat_eq, refl, sym, ap, drop, take, arith, eq-eqb, eqb-true, not, ◌∙◌}
use Rattle.std.specs.Prelude.{Some, None, slice_get, Option}
use Rattle.std.specs.Option.{option_eq}
use Rattle.std.specs.List.{prefix_len, take_while, common_prefix_len}

-- what stands at a place begins what is left there
pub dropped : (xs : List ℕ) (i x : ℕ) → slice_get xs i ≡ Some x → drop i xs ≡ x ∷ drop (i + 1) xs
dropped [] i x e = absurd cc
dropped (y ∷ xs) zero x e = let same : y ≡ x = cc in ap (λ z. z ∷ xs) same
dropped (y ∷ xs) (suc i) x e = let one : suc i + 1 ≡ suc (i + 1) = omega arith in rw one (dropped xs i x e)

gone : (xs : List ℕ) (i : ℕ) → slice_get xs i ≡ None → drop i xs ≡ []
gone [] zero e = refl
gone [] (suc i) e = refl
gone (x ∷ xs) zero e = absurd cc
gone (x ∷ xs) (suc i) e = gone xs i e

run_more : (p : ℕ → Bool) (xs : List ℕ) (i x : ℕ) → slice_get xs i ≡ Some x → p x ≡ true → prefix_len p (drop i xs) ≡ 1 + prefix_len p (drop (i + 1) xs)
run_more p xs i x e h = rw (dropped xs i x e, h) refl

run_less : (p : ℕ → Bool) (xs : List ℕ) (i x : ℕ) → slice_get xs i ≡ Some x → p x ≡ false → prefix_len p (drop i xs) ≡ 0
run_less p xs i x e h = rw (dropped xs i x e, h) refl

pub counted_more : (p : ℕ → Bool) (xs : List ℕ) (i x total : ℕ) → slice_get xs i ≡ Some x → p x ≡ true → i + prefix_len p (drop i xs) ≡ total →
    (i + 1) + prefix_len p (drop (i + 1) xs) ≡ total
counted_more p xs i x total e h is = let more = run_more p xs i x e h in omega arith

pub counted_less : (p : ℕ → Bool) (xs : List ℕ) (i x total : ℕ) → slice_get xs i ≡ Some x → p x ≡ false → i + prefix_len p (drop i xs) ≡ total → i ≡ total
counted_less p xs i x total e h is = let less = run_less p xs i x e h in omega arith

common_more : (xs ys : List ℕ) (i x y : ℕ) → slice_get xs i ≡ Some x → slice_get ys i ≡ Some y → nat_eq x y ≡ true →
    common_prefix_len nat_eq (drop i xs) (drop i ys) ≡ 1 + common_prefix_len nat_eq (drop (i + 1) xs) (drop (i + 1) ys)
common_more xs ys i x y e f h = rw (dropped xs i x e, dropped ys i y f, h) refl

common_less : (xs ys : List ℕ) (i x y : ℕ) → slice_get xs i ≡ Some x → slice_get ys i ≡ Some y → nat_eq x y ≡ false →
    common_prefix_len nat_eq (drop i xs) (drop i ys) ≡ 0
common_less xs ys i x y e f h = rw (dropped xs i x e, dropped ys i y f, h) refl

common_none : (xs : List ℕ) → common_prefix_len nat_eq xs [] ≡ 0
common_none [] = refl
common_none (x ∷ xs) = refl

differ : (x y : ℕ) (b : Bool) → nat_eq x y ≡ b → nat_eq y x ≡ false → b ≡ false
differ x y true e h = let same : x ≡ y = eqb-true x y e in let back : nat_eq y x ≡ true = eq-eqb y x (sym same) in absurd cc
differ x y false e h = refl

pub option_same : (next : Option ℕ) (x : ℕ) → option_eq nat_eq next (Some x) ≡ true → next ≡ Some x
option_same None x e = absurd cc
option_same (Some y) x e = ap (λ z. Some z) (eqb-true y x e)

pub not_false : (b c : Bool) → c ≡ not b → c ≡ false → b ≡ true
not_false true c e h = refl
not_false false c e h = absurd cc

pub not_true : (b c : Bool) → c ≡ not b → c ≡ true → b ≡ false
not_true true c e h = absurd cc
not_true false c e h = refl

pub matched_more : (xs ys : List ℕ) (n x total : ℕ) → slice_get xs n ≡ Some x → slice_get ys n ≡ Some x →
    n + common_prefix_len nat_eq (drop n xs) (drop n ys) ≡ total → n + 1 + common_prefix_len nat_eq (drop (n + 1) xs) (drop (n + 1) ys) ≡ total
matched_more xs ys n x total e f is = let more = common_more xs ys n x x e f (eq-eqb x x refl) in omega arith

-- where the texts differ, also where one has ended
pub matched_less : (xs ys : List ℕ) (i x : ℕ) (next : Option ℕ) → slice_get xs i ≡ Some x → slice_get ys i ≡ next → option_eq nat_eq next (Some x) ≡ false →
    common_prefix_len nat_eq (drop i xs) (drop i ys) ≡ 0
matched_less xs ys i x None e f h = ap (common_prefix_len nat_eq (drop i xs)) (gone ys i f) ∙ common_none (drop i xs)
matched_less xs ys i x (Some y) e f h = common_less xs ys i x y e f (differ x y (nat_eq x y) refl h)

again : (p : ℕ → Bool) (xs : List ℕ) → take (prefix_len p xs) xs ≡ take_while p xs
again p xs = refl

-- a word is its head and the run after it
pub word_taken : (p : ℕ → Bool) (text : List ℕ) (i c count : ℕ) → slice_get text i ≡ Some c → count ≡ prefix_len p (drop (i + 1) text) →
    take (count + 1) (drop i text) ≡ c ∷ take_while p (drop (suc i) text)
word_taken p text i c count there e =
    let one : i + 1 ≡ suc i = omega arith in
    let more : count + 1 ≡ suc count = omega arith in
    let split : drop i text ≡ c ∷ drop (i + 1) text = dropped text i c there in
    rw (more, split) (ap (λ xs. c ∷ xs) (ap (λ n. take n (drop (i + 1) text)) e ∙ again p (drop (i + 1) text) ∙ ap (λ k. take_while p (drop k text)) one))
