-- Numbers that are no counts.
use Rattle.std.proofs.Common.{◌≡◌, ℕ, ◌==◌, List, drop, get_or, Bool, true, false, ℤ, Option, Some}
use Rattle.std.specs.Float.{binary64, float_is_finite}
use Rattle.fast_float.specs.Text.{Parts, scan, nearest}
use Rattle.serde_json.specs.Data.{Num, unsigned, negative, float}
use Rattle.serde_json.specs.Read.{number_of, number_from, float_of}

pub is_no_count : (o : Option Num) (z : ℤ) → o ≡ Some (negative z) → (x : Num) × (o ≡ Some x) × ((a : ℕ) → ¬ (unsigned a ≡ x))
is_no_count o z e = (negative z, e, λ a h. cc)

pub float_is_no_count : (sign : Bool) (p : Parts) → float_is_finite (nearest binary64 sign p) ≡ true → (x : Num) × (float_of sign p ≡ Some x) × ((a : ℕ) → ¬ (unsigned a ≡ x))
float_is_no_count sign p e = (float (nearest binary64 sign p), rw e, λ a h. cc)

pub after_minus : (s : List ℕ) → (get_or s 0 0 == 45) ≡ true → number_of s ≡ number_from true (scan (drop 1 s))
unfolding number_of
after_minus s e = rw e

pub no_minus : (s : List ℕ) → (get_or s 0 0 == 45) ≡ false → number_of s ≡ number_from false (scan s)
unfolding number_of
no_minus s e = rw e
