-- Sets of numbers below a limit, as lists of marks. The list is as long as the limit, and a number in the set has its mark set.
use Rattle.std.specs.Prelude.{◌≡◌, ◌<◌, ◌≤◌, ◌&&◌, ℕ, Bool, true, false, List, [], slice_index_or}

-- whether a number is in the set; a number at the limit or past it isn't
abbrev pub contains : List Bool → ℕ → Bool
contains set n = slice_index_or set n false

-- whether a number is in both sets
abbrev pub in_both : List Bool → List Bool → ℕ → Bool
in_both a b n = contains a n && contains b n

-- the set with this index; if there is none, the empty set with limit 0
abbrev pub set_at : List (List Bool) → ℕ → List Bool
set_at sets k = slice_index_or sets k []

-- the other set has a number that isn't in this one
pub record Adds (set other : List Bool) : Type 0 where
  pub number : ℕ
  pub new : contains set number ≡ false
  pub given : contains other number ≡ true

-- k is the least number from `from` on that passes the test
pub record IsNext (test : ℕ → Bool) (from k : ℕ) : Type 0 where
  pub after : from ≤ k
  pub passes : test k ≡ true
  pub before : (n : ℕ) → from ≤ n → n < k → test n ≡ false
