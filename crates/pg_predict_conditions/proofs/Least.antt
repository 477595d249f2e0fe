-- The least number that passes a test.
use Rattle.std.proofs.Common.{◌≡◌, ℕ, zero, suc, ◌<◌, Bool, true, false, Option, Some, None, refl, sym, ap, subst, ◌∙◌, inl, inr, arith}
use Rattle.std.specs.Prelude.{if◌then◌else◌, is_some}
use Rattle.std.proofs.lemmas.Bool.{cases_eq, cases_lt, true≢false}
use Rattle.pg_predict_conditions.specs.Meetings.{least}

pub record IsLeast (test : ℕ → Bool) (n k : ℕ) : Type 0 where
  pub below : k < n
  pub passes : test k ≡ true
  pub before : (j : ℕ) → j < k → test j ≡ false

-- there is a least number, or none passes
pub data Found (test : ℕ → Bool) (n : ℕ) : Option ℕ → Type 0 where
  some : {k : ℕ} → IsLeast test n k → Found test n (Some k)
  none : ((j : ℕ) → j < n → test j ≡ false) → Found test n None

pub found : (test : ℕ → Bool) (n : ℕ) → Found test n (least test n)
found test zero = none (λ j below. absurd (omega arith))
found test (suc n) = go (least test n) (found test n) (test n) refl
  where
    go : (r : Option ℕ) → Found test n r → (b : Bool) → test n ≡ b → Found test (suc n) (if is_some r then r else (if b then Some n else None))
    go (Some k) (some is) b e = let below = is.below in some (record { below = omega arith; passes = is.passes; before = is.before })
    go None (none out) true e = some (record { below = omega arith; passes = e; before = out })
    go None (none out) false e = none (λ j below. elim (cases_eq j n) [ inl same ↦ ap test same ∙ e | inr other ↦ out j (omega arith) ])

-- the least number is the one found
pub least_from : (test : ℕ → Bool) (n k : ℕ) → IsLeast test n k → least test n ≡ Some k
least_from test n k is = go (least test n) (found test n)
  where
    go : (r : Option ℕ) → Found test n r → r ≡ Some k
    go None (none out) = absurd (true≢false (sym is.passes ∙ out k is.below))
    go (Some j) (some found_is) =
        elim (cases_eq j k) [
          | inl same ↦ ap Some same
          | inr other ↦
              elim (cases_lt j k) [
                | inl less ↦ absurd (true≢false (sym found_is.passes ∙ is.before j less))
                | inr more ↦ absurd (true≢false (sym is.passes ∙ found_is.before k (omega arith)))
              ]
        ]

pub none_from : (test : ℕ → Bool) (n : ℕ) → ((j : ℕ) → j < n → test j ≡ false) → least test n ≡ None
none_from test n out = go (least test n) (found test n)
  where
    go : (r : Option ℕ) → Found test n r → r ≡ None
    go None (none still) = refl
    go (Some k) (some is) = absurd (true≢false (sym is.passes ∙ out k is.below))

pub least_is : (test : ℕ → Bool) (n k : ℕ) → least test n ≡ Some k → IsLeast test n k
least_is test n k e = go (least test n) (found test n) e
  where
    go : (r : Option ℕ) → Found test n r → r ≡ Some k → IsLeast test n k
    go None (none out) e = absurd cc
    go (Some j) (some is) e = let same : j ≡ k = cc in subst (IsLeast test n) same is

pub least_none : (test : ℕ → Bool) (n j : ℕ) → least test n ≡ None → j < n → test j ≡ false
least_none test n j e below = go (least test n) (found test n) e
  where
    go : (r : Option ℕ) → Found test n r → r ≡ None → test j ≡ false
    go None (none out) e = out j below
    go (Some k) (some is) e = absurd cc
