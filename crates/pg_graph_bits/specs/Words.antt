-- Sets of numbers as words of 64 bits.
use Rattle.std.specs.Prelude.{◌≡◌, ◌==◌, ◌<◌, ◌≤◌, ◌+◌, ◌/◌, ◌%◌, ◌^◌, ◌&&◌, ℕ, Bool, true, false, List, length, map, slice_index}
use Rattle.std.specs.Int.{bit_at}
use Rattle.std.specs.List.{count_by, range_with_len}

-- whether the bit of a number is set
abbrev pub has_bit : List ℕ → ℕ → Bool
has_bit words n = bit_at (slice_index words (n / 64)) (n % 64) == 1

-- how many of the numbers below n have their bits set
abbrev pub bits_below : List ℕ → ℕ → ℕ
bits_below words n = count_by (has_bit words) (range_with_len 0 n)

-- whether the bit of a number is set in both
abbrev pub both_have_bit : List ℕ → List ℕ → ℕ → Bool
both_have_bit words others n = has_bit words n && has_bit others n

-- the bits of the numbers below a limit
abbrev pub marks_of : List ℕ → ℕ → List Bool
marks_of words limit = map (has_bit words) (range_with_len 0 limit)

-- there are words for all numbers below the limit, which fits in a usize, and no bit is set at the limit or past it
pub record HoldsBelow (words : List ℕ) (limit : ℕ) : Type 0 where
  pub small : limit < 2 ^ 64
  pub long : length words ≡ limit / 64 + 1
  pub none_past : (n : ℕ) → limit ≤ n → has_bit words n ≡ false

-- the other words have a bit that isn't set in these
pub record AddsBit (words others : List ℕ) : Type 0 where
  pub number : ℕ
  pub new : has_bit words number ≡ false
  pub given : has_bit others number ≡ true
