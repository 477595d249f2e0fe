-- How a file is refused: with which fault, and at which position.
use Rattle.std.specs.Prelude.{◌≡◌, ℕ, min, List, length, take, Option, Some, None, unwrap_or, Contains}
use Rattle.std.specs.Str.{chars, IsUtf8, IsValidUpTo}
use Rattle.pg_text.specs.Position.{position_of}
use Rattle.pg_text.specs.declared.position.Pos.{Pos}
use Rattle.pg_file_tokens.specs.Tokens.{Token, bad}
use Rattle.pg_file_tokens.specs.Lexical.{Spelled}
use Rattle.pg_file_tokens.specs.Lexing.{placed_of}
use Rattle.pg_file.specs.declared.file.TheConstants.{LAST_PLACE}
use Rattle.pg_file.specs.declared.error.ReadError.{ReadError}
use Rattle.pg_file.specs.declared.error.ReadError.TheVariants as unread
use Rattle.pg_file.specs.declared.file_fault.FaultKind.{FaultKind}
use Rattle.pg_file.specs.declared.file_fault.FaultKind.TheVariants.{NotUtf8, BadToken, UnexpectedToken, UnknownName, NameTwice, NoStart, BadLiteral, LimitPassed, NotAdmitted}
use Rattle.pg_file.specs.declared.file_fault.FileError.{FileError}
use Rattle.pg_file.specs.declared.file_fault.FileError.TheVariants.{Fault, Memory}

-- ---- positions

-- the position shown for a place; a place after the end has that of the end, and one too far for a position the last that can be shown
abbrev pub shown_position : List ℕ → ℕ → Pos
shown_position characters place = position_of characters (min (min place (length characters)) LAST_PLACE)

-- the position of the end of these characters
abbrev pub end_position : List ℕ → Pos
end_position characters = shown_position characters (length characters)

-- ---- where bytes and characters are at fault

-- the bytes aren't UTF-8, and the position is that after their longest UTF-8 prefix
pub record IsAfterUtf8 (bytes : List ℕ) (position : Pos) : Type 0 where
  pub wrong : ¬ (IsUtf8 bytes)
  pub valid : ℕ
  pub longest : IsValidUpTo bytes valid
  pub after : position ≡ end_position (chars (take valid bytes))

-- the characters spell no tokens; read from the left, the bad token is at this place, and it is the last
pub record IsBadAt (characters : List ℕ) (place : ℕ) : Type 0 where
  pub none : (tokens : List Token) → Spelled characters tokens → ⊥
  pub there : Contains (placed_of characters) (place, bad)

-- the characters spell no tokens, and this is the position of the bad one
pub record IsAtBadToken (characters : List ℕ) (position : Pos) : Type 0 where
  pub place : ℕ
  pub is_bad : IsBadAt characters place
  pub shown : position ≡ shown_position characters place

-- ---- the errors returned

-- this kind of fault is one of a file with these bytes, at this position
abbrev pub IsFaultAt : List ℕ → Pos → FaultKind → Type 0
IsFaultAt bytes position NotUtf8 = IsAfterUtf8 bytes position
IsFaultAt bytes position BadToken = IsUtf8 bytes × IsAtBadToken (chars bytes) position
IsFaultAt bytes position UnexpectedToken = IsUtf8 bytes
IsFaultAt bytes position UnknownName = IsUtf8 bytes
IsFaultAt bytes position NameTwice = IsUtf8 bytes
IsFaultAt bytes position NoStart = IsUtf8 bytes
IsFaultAt bytes position BadLiteral = IsUtf8 bytes
IsFaultAt bytes position LimitPassed = IsUtf8 bytes
IsFaultAt bytes position (NotAdmitted fault) = IsUtf8 bytes

-- a file with these bytes is refused with this error, unless memory ran out
abbrev pub IsRefusalOf : List ℕ → FileError → Type 0
IsRefusalOf bytes (Fault fault) = IsFaultAt bytes fault.position fault.kind
IsRefusalOf bytes Memory = Unit {0}

-- the error says that these characters are a file's longest UTF-8 prefix, unless memory ran out
abbrev pub IsNotUtf8After : List ℕ → FileError → Type 0
IsNotUtf8After characters (Fault fault) = fault ≡ record { kind = NotUtf8; position = end_position characters }
IsNotUtf8After characters Memory = Unit {0}

-- ---- within the characters

-- there is a place, and it has the property
abbrev pub IsPlace : (ℕ → Type 0) → Option ℕ → Type 0
IsPlace Such (Some place) = Such place
IsPlace Such None = ⊥

-- this kind of fault may be at this place, given the places of bad tokens
abbrev pub IsKindAt : (ℕ → Type 0) → Option ℕ → FaultKind → Type 0
IsKindAt Bad place NotUtf8 = ⊥
IsKindAt Bad place BadToken = IsPlace Bad place
IsKindAt Bad place UnexpectedToken = Unit {0}
IsKindAt Bad place UnknownName = Unit {0}
IsKindAt Bad place NameTwice = Unit {0}
IsKindAt Bad place NoStart = Unit {0}
IsKindAt Bad place BadLiteral = Unit {0}
IsKindAt Bad place LimitPassed = Unit {0}
IsKindAt Bad place (NotAdmitted fault) = Unit {0}

-- the fault of this error may be at its place
abbrev pub IsErrorAt : (ℕ → Type 0) → ReadError → Type 0
IsErrorAt Bad unread.Memory = Unit {0}
IsErrorAt Bad (unread.Fault kind place) = IsKindAt Bad place kind

-- an error with its position shown
abbrev pub shown_error : List ℕ → ReadError → FileError
shown_error characters unread.Memory = Memory
shown_error characters (unread.Fault kind place) =
    Fault (record { kind = kind; position = shown_position characters (unwrap_or place (length characters)) })
