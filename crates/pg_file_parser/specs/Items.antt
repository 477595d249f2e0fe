-- The items that a file's tokens spell.
use Rattle.std.specs.Prelude.{◌≡◌, List, map}
use Rattle.std.specs.List.{AllByRecursion}
use Rattle.pg_file_parser.specs.declared.error.SyntaxError.{SyntaxError}
use Rattle.pg_file_tokens.specs.Tokens.{Token}
use Rattle.pg_file_items.specs.Tree.{Item}
use Rattle.pg_file_items.specs.Syntax.{file_written}
use Rattle.pg_file_items.specs.Proper.{IsProperItem}
use Rattle.pg_file_items.specs.Depth.{IsShallow}
use Rattle.pg_file_items.specs.Heads.{entry_of_item}
use Rattle.pg_file_items.specs.Entries.{Entry}
use Rattle.pg_file_parser.specs.Limits.{full_allowance, KeepWithin}
use Rattle.pg_file_parser.specs.Given.{IsFault}

-- the tokens are those of items that a file may have, within the limits on each kind, and these are their entries
pub record AreItems (tokens : List Token) (entries : List Entry) : Type 0 where
  pub items : List Item
  pub written : tokens ≡ file_written items
  pub proper : AllByRecursion IsProperItem items
  pub shallow : AllByRecursion IsShallow items
  pub few : KeepWithin full_allowance (map entry_of_item items)
  pub meant : entries ≡ map entry_of_item items

-- the tokens spell no other entries
abbrev pub OnlyItems : List Token → List Entry → Type 0
OnlyItems tokens entries = (others : List Entry) → AreItems tokens others → entries ≡ others

-- a fault is returned only if the tokens spell no entries
abbrev pub FaultyItems : List Token → SyntaxError → Type 0
FaultyItems tokens e = IsFault e → (entries : List Entry) → AreItems tokens entries → ⊥
