-- The one range of a class that may have a character: the first that doesn't end below it.
use Rattle.std.proofs.Common.{◌≡◌, ℕ, zero, suc, ◌<◌, ◌≤◌, Bool, true, false, ◌&&◌, ◌||◌, nat_le, nat_lt, List, [], ◌∷◌, length, get_or, arith, refl}
use Rattle.std.proofs.lemmas.Bool.Decides.{nat_tests}
use Rattle.std.specs.List.Sorted.{IsNonDecreasingBy, IsPartitionPoint}
use Rattle.pg_class.specs.Ranges.{Range, AllApart, IsClass, apart, begins_by, has}
use Rattle.pg_class.proofs.Unique.{above, scalar_index-mono}

-- the last character of a range
abbrev pub last_of : Range → ℕ
last_of r = r.1

-- of ranges that all stand apart from one below them, none ends below it
ends_above : (r : Range) (rs : List Range) (j : ℕ) (d : Range) → AllApart r rs → IsClass rs → j < length rs → r.1 ≤ (get_or rs j d).1
ends_above r [] j d apart class within = absurd (omega arith)
ends_above r (s ∷ rs) zero d apart class within =
    let ascends = class.0.ascends in
    let mono = scalar_index-mono s.0 r.1 in
    let parted = apart.0 in
    grind (arith, nat_tests, ascends, parted, mono)
ends_above r (s ∷ rs) (suc j) d apart class within = let less : j < length rs = omega arith in ends_above r rs j d apart.1 class.2 less

-- the last characters of a class's ranges rise
pub lasts_rise : (class : List Range) → IsClass class → IsNonDecreasingBy last_of class
lasts_rise [] class i j d le within = absurd (omega arith)
lasts_rise (r ∷ rs) class zero zero d le within = omega arith
lasts_rise (r ∷ rs) class zero (suc j) d le within = let less : j < length rs = omega arith in ends_above r rs j d class.1 class.2 less
lasts_rise (r ∷ rs) class (suc i) zero d le within = absurd (omega arith)
lasts_rise (r ∷ rs) class (suc i) (suc j) d le within =
    let less : j < length rs = omega arith in
    let before : i ≤ j = omega arith in
    lasts_rise rs class.2 i j d before less

-- a character at or below the end of a range is in none that stands apart above it
not_above : (r : Range) (rs : List Range) (c : ℕ) → AllApart r rs → nat_lt r.1 c ≡ false → (b : Bool) → has rs c ≡ b → b ≡ false
not_above r rs c apart ends false e = refl
not_above r rs c apart ends true e =
    let far = above r rs c apart e in
    let mono = scalar_index-mono c r.1 in
    absurd (grind (arith, nat_tests, far, mono, ends))

-- the first range that doesn't end below the character has it if it begins at it or below, and no other range has it
pub has_at_point : (class : List Range) (i c : ℕ) → IsClass class
    → IsPartitionPoint (λ r. nat_lt (last_of r) c ≡ true) (λ r. nat_lt (last_of r) c ≡ false) class i → has class c ≡ begins_by class i c
has_at_point [] i c class point = grind (arith, nat_tests)
has_at_point (r ∷ rs) zero c class point =
    let ends : nat_lt r.1 c ≡ false = point.1 0 r (omega arith) (omega arith) in
    let reaches : nat_le c r.1 ≡ true = grind (arith, nat_tests, ends) in
    let none = not_above r rs c class.1 ends (has rs c) refl in
    let first : nat_lt 0 (length (r ∷ rs)) ≡ true = grind (arith, nat_tests) in
    rw (reaches, none, first) (both (nat_le r.0 c))
  where
    both : (b : Bool) → ((b && true) || false) ≡ b
    both true = refl
    both false = refl
has_at_point (r ∷ rs) (suc i) c class point =
    let ends : nat_lt r.1 c ≡ true = point.0 0 r (omega arith) (omega arith) in
    let short : nat_le c r.1 ≡ false = grind (arith, nat_tests, ends) in
    let rest = has_at_point rs i c class.2 (
      λ k d low high. point.0 (suc k) d (omega arith) (omega arith),
      λ k d low high. point.1 (suc k) d (omega arith) (omega arith),
    ) in
    let within : nat_lt (suc i) (length (r ∷ rs)) ≡ nat_lt i (length rs) = grind (arith, nat_tests) in
    rw (short, rest, within) (neither (nat_le r.0 c) (begins_by rs i c))
  where
    neither : (b more : Bool) → ((b && false) || more) ≡ more
    neither true more = refl
    neither false more = refl
