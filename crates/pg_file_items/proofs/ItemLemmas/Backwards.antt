-- Lists that are gone through from the last element to the first.
use Rattle.std.proofs.Common.{◌≡◌, ◌≤◌, ℕ, zero, suc, List, [], ◌∷◌, ◌++◌, length, take, drop, refl, sym, ap, ◌∙◌, append_assoc, arith}
use Rattle.std.proofs.lemmas.List.{length-append, take-append-drop}

-- the first of a list that is put before others, and these
pub take_front : {A : Type 0} (n : ℕ) (xs ys : List A) → length xs ≡ n → take n (xs ++ ys) ≡ xs
take_front {A} zero [] ys h = refl
take_front {A} (suc n) [] ys h = absurd cc
take_front {A} zero (x ∷ xs) ys h = absurd cc
take_front {A} (suc n) (x ∷ xs) ys h = let fewer : length xs ≡ n = cc in ap (λ (l : List A). x ∷ l) (take_front n xs ys fewer)

pub drop_front : {A : Type 0} (n : ℕ) (xs ys : List A) → length xs ≡ n → drop n (xs ++ ys) ≡ ys
drop_front {A} zero [] ys h = refl
drop_front {A} (suc n) [] ys h = absurd cc
drop_front {A} zero (x ∷ xs) ys h = absurd cc
drop_front {A} (suc n) (x ∷ xs) ys h = let fewer : length xs ≡ n = cc in drop_front n xs ys fewer

-- what is left of a list, without its last element: that element stands first of those after
pub record IsOneBack {A : Type 0} (before : List A) (x : A) (rest all : List A) : Type 0 where
  pub within : length before ≤ length all
  pub front : before ≡ take (length before) all
  pub back : drop (length before) all ≡ x ∷ drop (length rest) all

pub one_back : {A : Type 0} (before : List A) (x : A) (rest all : List A) → rest ≡ before ++ x ∷ [] → rest ≡ take (length rest) all → IsOneBack before x rest all
one_back {A} before x rest all h e =
    let after = drop (length rest) all in
    let whole : all ≡ before ++ (x ∷ after) =
    sym (take-append-drop (length rest) all) ∙ ap (λ (l : List A). l ++ after) (sym e ∙ h) ∙ append_assoc before (x ∷ []) after in
    record {
      within = omega (arith, ap length whole, length-append before (x ∷ after));
      front = sym (ap (λ (l : List A). take (length before) l) whole ∙ take_front (length before) before (x ∷ after) refl);
      back = ap (λ (l : List A). drop (length before) l) whole ∙ drop_front (length before) before (x ∷ after) refl;
    }

pub none_left : {A : Type 0} (rest all : List A) → length rest ≡ 0 → drop (length rest) all ≡ all
none_left rest all h = rw h refl
