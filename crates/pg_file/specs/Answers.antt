-- The answers of reading a file.
use Rattle.std.specs.Prelude.{◌≡◌, Result, Ok, Err}
use Rattle.pg_grammar_value.specs.Grammar.{Grammar}
use Rattle.pg_file.specs.declared.error.ReadError.{ReadError}
use Rattle.pg_file.specs.declared.error.ReadError.TheVariants as unread
use Rattle.pg_file.specs.declared.file_fault.FileError.{FileError}
use Rattle.pg_file.specs.declared.file_fault.FileError.TheVariants.{Fault, Memory}

-- the error is a fault of the file, not out of memory
abbrev pub IsFault : ReadError → Type 0
IsFault unread.Memory = ⊥
IsFault (unread.Fault kind place) = Unit {0}

-- the grammar is returned, unless memory ran out
abbrev pub IsAnswered : Grammar → Result Grammar FileError → Type 0
IsAnswered g (Ok answer) = answer ≡ g
IsAnswered g (Err Memory) = Unit {0}
IsAnswered g (Err (Fault fault)) = ⊥
