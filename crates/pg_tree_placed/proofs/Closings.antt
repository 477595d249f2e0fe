-- Closing texts by the numbers of their labels.
use Rattle.std.proofs.Common.{◌≡◌, ◌<◌, ℕ, zero, suc, List, [], ◌∷◌, length, map, get_or, arith}

-- lists that are equal through two functions are so at each place
pub same_at : {X Y : Type 0} (f : X → List ℕ) (g : Y → List ℕ) (xs : List X) (ys : List Y) (n : ℕ) (x : X) (y : Y) → map f xs ≡ map g ys → n < length xs
    → f (get_or xs n x) ≡ g (get_or ys n y)
same_at f g [] ys n x y is h = absurd (let no : ⊥ = omega (arith, h) in no)
same_at f g (a ∷ xs) [] n x y is h = cc
same_at f g (a ∷ xs) (b ∷ ys) zero x y is h = cc
same_at f g (a ∷ xs) (b ∷ ys) (suc n) x y is h = same_at f g xs ys n x y (cc) (omega (arith, h))
