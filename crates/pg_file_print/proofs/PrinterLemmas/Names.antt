-- The name with a number, as it is looked up in a slice.
use Rattle.std.proofs.Common.{◌≡◌, ◌<◌, ◌≤◌, ℕ, zero, suc, List, [], ◌∷◌, length, map, get_or, refl, ap, arith}
use Rattle.pg_grammar_form.specs.Names.{Name, name_at}

pub name_known : {X : Type 0} (f : X → Name) (xs : List X) (k : ℕ) (x : X) → k < length xs → x ≡ get_or xs k x → f x ≡ name_at (map f xs) k
name_known f [] k x h e = absurd (omega (arith, h))
name_known f (y ∷ xs) zero x h e = ap f e
name_known f (y ∷ xs) (suc k) x h e = let below : k < length xs = omega (arith, h) in name_known f xs k x below e

pub name_missing : {X : Type 0} (f : X → Name) (xs : List X) (k : ℕ) → length xs ≤ k → [] ≡ name_at (map f xs) k
name_missing f [] k h = refl
name_missing f (y ∷ xs) zero h = absurd (omega (arith, h))
name_missing f (y ∷ xs) (suc k) h = let below : length xs ≤ k = omega (arith, h) in name_missing f xs k below
