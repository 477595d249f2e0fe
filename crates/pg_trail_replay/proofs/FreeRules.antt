-- How many rules aren't open.
use Rattle.std.proofs.Common.{◌≡◌, ◌==◌, ◌<◌, ◌≤◌, ◌≢◌, ℕ, zero, suc, Bool, true, false, List, ◌∷◌, refl, ap, eqb-true, eq-eqb, arith, if◌then◌else◌}
use Rattle.std.specs.Prelude.{◌||◌}
use Rattle.pg_trail_replay.specs.Tasks.{is_entered}

-- how many of the first rules aren't among these
abbrev pub free : ℕ → List ℕ → ℕ
free zero entered = zero
free (suc count) entered = if is_entered count entered then free count entered else suc (free count entered)

-- one more by a test
no_more_by : (b d : Bool) (m n : ℕ) → m ≤ n → (if b || d then m else suc m) ≤ (if d then n else suc n)
no_more_by true true m n h = h
no_more_by true false m n h = omega arith
no_more_by false true m n h = h
no_more_by false false m n h = omega arith

no_more : (count r : ℕ) (entered : List ℕ) → free count (r ∷ entered) ≤ free count entered
no_more zero r entered = omega arith
no_more (suc count) r entered = no_more_by (r == count) (is_entered count entered) _ _ (no_more count r entered)

-- once a rule is entered, one less is free
pub fewer_free : (count r : ℕ) (entered : List ℕ) → r < count → is_entered r entered ≡ false → free count (r ∷ entered) < free count entered
fewer_free zero r entered low new = absurd (omega arith)
fewer_free (suc count) r entered low new =
    go (r == count) (is_entered count entered) refl refl
    (λ e. fewer_free count r entered (let other : r ≢ count = (λ h. let test = eq-eqb r count h in cc) in omega arith) new)
  where
    go : (b d : Bool) → (r == count) ≡ b → is_entered count entered ≡ d → ((r == count) ≡ false → free count (r ∷ entered) < free count entered) →
        (if b || d then free count (r ∷ entered) else suc (free count (r ∷ entered))) < (if d then free count entered else suc (free count entered))
    go true true e f later = let same : is_entered r entered ≡ is_entered count entered = ap (λ q. is_entered q entered) (eqb-true r count e) in absurd cc
    go true false e f later = let less = no_more count r entered in omega arith
    go false true e f later = later e
    go false false e f later = let less = later e in omega arith
