-- What is known of one more place.
use Rattle.std.proofs.Common.{◌≡◌, ℕ, zero, suc, List, [], ◌∷◌, ◌++◌, length, ap, subst}
use Rattle.std.specs.Prelude.{Option, Some, None, slice_get}
use Rattle.pg_machine_plan.specs.Plans.{Plan}
use Rattle.pg_machine_quick.specs.declared.landmarks.Landmark.{Landmark}
use Rattle.pg_machine_quick.specs.Landmarks.{IsLandmark, AreLandmarks}

same-mark : (x y : Landmark) → Some x ≡ Some y → x ≡ y
same-mark x y is = ap (λ (o : Option Landmark). out o) is
  where
    out : Option Landmark → Landmark
    out (Some z) = z
    out None = x

none-there : {X : Type 0} → (y : Landmark) → None ≡ Some y → X
none-there y is = absurd (subst (λ (o : Option Landmark). is-none o) is tt)
  where
    is-none : Option Landmark → Type 0
    is-none (Some z) = ⊥
    is-none None = Unit {0}

one-more : (P : ℕ → Landmark → Type 0) (ls : List Landmark) (l : Landmark) → ((pc : ℕ) (d : Landmark) → slice_get ls pc ≡ Some d → P pc d) → P (length ls) l
    → (pc : ℕ) (d : Landmark) → slice_get (ls ++ l ∷ []) pc ≡ Some d → P pc d
one-more P [] l all it zero d is = subst (λ (x : Landmark). P zero x) (same-mark l d is) it
one-more P [] l all it (suc n) d is = none-there d is
one-more P (x ∷ ls) l all it zero d is = all zero d is
one-more P (x ∷ ls) l all it (suc n) d is = one-more (λ k. P (suc k)) ls l (λ k e at. all (suc k) e at) it n d is

pub marks_more : (plan : Plan) (ls : List Landmark) (l : Landmark) → AreLandmarks plan ls → IsLandmark plan (length ls) l → AreLandmarks plan (ls ++ l ∷ [])
marks_more plan ls l all it = one-more (λ pc d. IsLandmark plan pc d) ls l all it

pub no_marks : (plan : Plan) → AreLandmarks plan []
no_marks plan pc l is = none-there l is
