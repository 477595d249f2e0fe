-- Whether something was consumed between two places.
use Rattle.std.proofs.Common.{◌≡◌, ℕ, ◌<◌, ◌≤◌, ◌||◌, Bool, true, false, refl, arith}
use Rattle.std.specs.Prelude.{nat_lt}
use Rattle.std.proofs.lemmas.Bool.Decides.{nat_tests}

pub moved : {i j : ℕ} → i < j → nat_lt i j ≡ true
moved l = grind (arith, nat_tests)

pub stayed : (i : ℕ) → nat_lt i i ≡ false
stayed i = grind (arith, nat_tests)

both : (b c d : Bool) {i k j : ℕ} → i ≤ k → k ≤ j → nat_lt i k ≡ b → nat_lt k j ≡ c → nat_lt i j ≡ d → (b || c) ≡ d
both true c true l m e f g = refl
both true c false l m e f g = absurd (grind (arith, nat_tests))
both false true true l m e f g = refl
both false true false l m e f g = absurd (grind (arith, nat_tests))
both false false true l m e f g = absurd (grind (arith, nat_tests))
both false false false l m e f g = refl

-- what a part and those after it consume together
pub both_moved : {i k j : ℕ} → i ≤ k → k ≤ j → (nat_lt i k || nat_lt k j) ≡ nat_lt i j
both_moved {i = i} {k = k} {j = j} l m = both (nat_lt i k) (nat_lt k j) (nat_lt i j) l m refl refl refl
