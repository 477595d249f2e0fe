-- The errors of a call that renames.
use Rattle.std.specs.Prelude.{◌≡◌, Option, Some}
use Rattle.pg_server_names.specs.declared.renaming.Refusal.{Refusal}
use Rattle.pg_server_names.specs.declared.renaming.RenameError.{RenameError}
use Rattle.pg_server_names.specs.declared.renaming.RenameError.TheVariants.{Memory, Refused}

-- memory ran out, or it is this refusal
abbrev pub Says : Option Refusal → RenameError → Type 0
Says why Memory = Unit {0}
Says why (Refused r) = why ≡ Some r
