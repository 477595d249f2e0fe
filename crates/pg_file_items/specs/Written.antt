-- Class expressions as they are written, before their names are looked up.
use Rattle.std.specs.Prelude.{◌≤◌, ℕ, List, map}
use Rattle.std.specs.List.{AllByRecursion}
use Rattle.pg_grammar_form.specs.Preorder.{SpellForms}
use Rattle.pg_file_items.specs.declared.written.WrittenPart.{WrittenPart}
use Rattle.pg_file_items.specs.declared.written.WrittenPart.TheVariants as part

-- how many expressions are the members of a part
abbrev pub member_count : WrittenPart → ℕ
member_count (part.Literal s) = 0
member_count (part.Range low high) = 0
member_count (part.Union n) = n
member_count part.Complement = 1
member_count (part.Named s) = 0

-- a union has at least two members
abbrev pub IsProperUnion : WrittenPart → Type 0
IsProperUnion (part.Literal s) = Unit {0}
IsProperUnion (part.Range low high) = Unit {0}
IsProperUnion (part.Union n) = 2 ≤ n
IsProperUnion part.Complement = Unit {0}
IsProperUnion (part.Named s) = Unit {0}

-- the parts are one whole class expression
pub record IsClass (parts : List WrittenPart) : Type 0 where
  pub whole : SpellForms 1 (map member_count parts)
  pub unions : AllByRecursion IsProperUnion parts
