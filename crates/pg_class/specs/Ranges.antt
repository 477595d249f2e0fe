-- Ranges of characters. A class is an ascending list of them, with at least one character between neighbours.
use Rattle.std.specs.Prelude.{◌≡◌, ℕ, ◌+◌, ◌≤◌, Bool, true, ◌&&◌, nat_lt, nat_le, if◌then◌else◌, min, max, List, [], ◌∷◌, length}
use Rattle.std.specs.List.{list_any, slice_index_or}
use Rattle.std.specs.Char.{IsScalar, scalar_index}

-- a first and a last character
abbrev pub Range : Type 0
Range = ℕ × ℕ

-- whether a range has a character
abbrev pub in_range : ℕ → Range → Bool
in_range c r = nat_le r.0 c && nat_le c r.1

-- whether one of the ranges has a character
abbrev pub has : List Range → ℕ → Bool
has ranges c = list_any (in_range c) ranges

-- whether the range with this index exists and begins at the character or below
abbrev pub begins_by : List Range → ℕ → ℕ → Bool
begins_by ranges k c = nat_lt k (length ranges) && nat_le (slice_index_or ranges k (0, 0)).0 c

-- two lists of ranges have the same characters; surrogates aren't characters, so they may be in only one
abbrev pub SameCharacters : List Range → List Range → Type 0
SameCharacters ranges others = (c : ℕ) → IsScalar c → has ranges c ≡ has others c

-- no character is in two lists of ranges
abbrev pub AreDisjoint : List Range → List Range → Type 0
AreDisjoint ranges others = (c : ℕ) → IsScalar c → has ranges c ≡ true → has others c ≡ true → ⊥

-- each character of the first list of ranges is in the second
abbrev pub IsWithin : List Range → List Range → Type 0
IsWithin ranges others = (c : ℕ) → IsScalar c → has ranges c ≡ true → has others c ≡ true

-- whether at least one character lies between two ranges, the first below the second; surrogates don't count
abbrev pub apart : Range → Range → Bool
apart low high = nat_lt (scalar_index low.1 + 1) (scalar_index high.0)

-- a range of characters whose first isn't above its last
pub record IsRange (r : Range) : Type 0 where
  pub ascends : r.0 ≤ r.1
  pub first : IsScalar r.0
  pub last : IsScalar r.1

-- at least one character lies between a range and each of those after it
abbrev pub AllApart : Range → List Range → Type 0
AllApart r [] = Unit {0}
AllApart r (s ∷ rs) = (apart r s ≡ true) × AllApart r rs

-- ascending ranges with at least one character between neighbours
abbrev pub IsClass : List Range → Type 0
IsClass [] = Unit {0}
IsClass (r ∷ rs) = IsRange r × AllApart r rs × IsClass rs

-- the ranges with one more, which is joined with each that isn't apart from it
abbrev pub with_range : Range → List Range → List Range
with_range r [] = r ∷ []
with_range r (s ∷ rs) =
    if apart s r then s ∷ with_range r rs else
    if apart r s then r ∷ s ∷ rs else
    with_range (min r.0 s.0, max r.1 s.1) rs
