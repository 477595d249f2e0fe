-- What a start matches at a place of a text.
use Rattle.std.specs.Prelude.{◌≡◌, ◌<◌, ◌+◌, ℕ, suc, false, true, List, ◌∷◌, Some, length, drop, slice_get}
use Rattle.pg_class.specs.Ranges.{Range, has}
use Rattle.pg_text.specs.Texts.{is_among}
use Rattle.pg_start.specs.Prefixes.{IsPrefix, run}
use Rattle.pg_start.specs.declared.kind.StartKind.{StartKind}
use Rattle.pg_start.specs.declared.kind.StartKind.TheVariants.{Class, Key, Word, End}

-- a kind that a start may have: a key isn't empty
abbrev pub IsStart : StartKind → Type 0
IsStart (Class class) = Unit {0}
IsStart (Key key excluded) = 0 < length key
IsStart (Word heads rest reserved) = Unit {0}
IsStart End = Unit {0}

-- a character of the class stands at the place
pub record HasAt (text : List ℕ) (place : ℕ) (class : List Range) : Type 0 where
  pub character : ℕ
  pub there : slice_get text place ≡ Some character
  pub member : has class character ≡ true

-- the key isn't empty and stands at the place, and no excluded character follows it
pub record IsKeyAt (text : List ℕ) (place : ℕ) (key : List ℕ) (excluded : List Range) : Type 0 where
  pub spelled : 0 < length key
  pub there : IsPrefix key (drop place text)
  pub ends : (c : ℕ) → slice_get text (place + length key) ≡ Some c → has excluded c ≡ false

-- a word stands at the place: a head and the run of the rest after it, which together aren't reserved
pub record IsWordAt (text : List ℕ) (place : ℕ) (heads rest : List Range) (reserved : List (List ℕ)) : Type 0 where
  pub head : ℕ
  pub there : slice_get text place ≡ Some head
  pub member : has heads head ≡ true
  pub free : is_among reserved (head ∷ run rest (drop (suc place) text)) ≡ false

-- the start matches at the place
abbrev pub MatchesAt : StartKind → List ℕ → ℕ → Type 0
MatchesAt (Class class) text place = HasAt text place class
MatchesAt (Key key excluded) text place = IsKeyAt text place key excluded
MatchesAt (Word heads rest reserved) text place = IsWordAt text place heads rest reserved
MatchesAt End text place = place ≡ length text
