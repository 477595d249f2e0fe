-- The characters of each kind, its name, and its predicate.
use Rattle.std.specs.Prelude.{◌≡◌, ℕ, Bool, List, [], ◌∷◌, codes}
use Rattle.std.specs.List.{AllZip}
use Rattle.pg_class.specs.Ranges.{Range, has}
use Rattle.pg_pred.specs.Names.{Name}
use Rattle.pg_pred_program.specs.Categories.{is_letter, is_alphanumeric, is_space, HasJust}
use Rattle.pg_pred_program.specs.declared.kind.Kind.{Kind}
use Rattle.pg_pred_program.specs.declared.kind.Kind.TheVariants.{Digit, OctalDigit, HexDigit, Letter, Alphanumeric, Space}

-- whether a character is of a kind; the digits are 0 to 9, the octal digits 0 to 7, the hexadecimal digits 0 to 9, A to F and a to f
abbrev pub is_of : Kind → ℕ → Bool
is_of Digit c = has ((48, 57) ∷ []) c
is_of OctalDigit c = has ((48, 55) ∷ []) c
is_of HexDigit c = has ((48, 57) ∷ (65, 70) ∷ (97, 102) ∷ []) c
is_of Letter c = is_letter c
is_of Alphanumeric c = is_alphanumeric c
is_of Space c = is_space c

-- the name of the predicate of a kind
abbrev pub kind_name : Kind → Name
kind_name Digit = codes "digit"
kind_name OctalDigit = codes "octDigit"
kind_name HexDigit = codes "hexDigit"
kind_name Letter = codes "letter"
kind_name Alphanumeric = codes "alphaNum"
kind_name Space = codes "space"

-- all kinds, in the order in which the manual lists them
abbrev pub all_kinds : List Kind
all_kinds = Digit ∷ OctalDigit ∷ HexDigit ∷ Letter ∷ Alphanumeric ∷ Space ∷ []

-- an entry with the kind's name and a class of exactly its characters
abbrev pub IsEntryOf : Kind → Name × List Range → Type 0
IsEntryOf kind entry = (entry.0 ≡ kind_name kind) × HasJust entry.1 (is_of kind)

-- there is exactly one such entry for each kind, in order
abbrev pub AreOfAllKinds : List (Name × List Range) → Type 0
AreOfAllKinds entries = AllZip IsEntryOf all_kinds entries
