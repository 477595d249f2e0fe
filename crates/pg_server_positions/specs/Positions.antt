-- Positions of places in documents, as the Language Server Protocol counts them.
use Rattle.std.specs.Prelude.{ℕ, ◌≡◌, ◌+◌, ◌<◌, ◌≤◌, ◌==◌, ◌&&◌, ◌||◌, Bool, true, false, List, length, nat_lt, fold, take, if◌then◌else◌, slice_get, Some}
use Rattle.std.specs.Char.{len_utf8}
use Rattle.pg_server_positions.specs.declared.position.Position.{Position}
use Rattle.pg_server_positions.specs.declared.position.Encoding.{Encoding}
use Rattle.pg_server_positions.specs.declared.position.Encoding.TheVariants.{Utf8, Utf16}
use Rattle.pg_server_positions.specs.declared.cursor.Cursor.{Cursor}

-- how many units a character takes
abbrev pub width : Encoding → ℕ → ℕ
width Utf8 c = len_utf8 c
width Utf16 c = if nat_lt c 65536 then 1 else 2

-- where a document begins
abbrev pub start : Cursor
start = record { line = 0; unit = 0; after_return = false }

-- where the next character stands, after one that stands here: 10 is a line feed, and 13 a carriage return, to whose line end a line feed behind it belongs
abbrev pub after : Encoding → Cursor → ℕ → Cursor
after encoding at c = if c == 10 then record { line = if at.after_return then at.line else at.line + 1; unit = if at.after_return then at.unit else 0; after_return = false } else
    if c == 13 then record { line = at.line + 1; unit = 0; after_return = true } else
    record { line = at.line; unit = at.unit + width encoding c; after_return = false }

-- its position
abbrev pub shown : Cursor → Position
shown at = record { line = at.line; unit = at.unit }

-- where the next character stands, after all that are before a place
abbrev pub cursor_at : Encoding → List ℕ → ℕ → Cursor
cursor_at encoding text place = fold (after encoding) start (take place text)

-- the position of a place
abbrev pub position_at : Encoding → List ℕ → ℕ → Position
position_at encoding text place = shown (cursor_at encoding text place)

-- whether a position is past another
abbrev pub is_past : Position → Position → Bool
is_past one other = nat_lt other.line one.line || ((one.line == other.line) && nat_lt other.unit one.unit)

-- the positions of all places of a document, in their order; the last one is that of its end
pub record ArePositions (encoding : Encoding) (text : List ℕ) (found : List Position) : Type 0 where
  pub all : length found ≡ length text + 1
  pub each : (place : ℕ) → place ≤ length text → slice_get found place ≡ Some (position_at encoding text place)

-- the last place of a document that isn't past a position
pub record IsPlaceOf (encoding : Encoding) (text : List ℕ) (position : Position) (place : ℕ) : Type 0 where
  pub within : place ≤ length text
  pub reached : is_past (position_at encoding text place) position ≡ false
  pub last : (other : ℕ) → place < other → other ≤ length text → is_past (position_at encoding text other) position ≡ true
