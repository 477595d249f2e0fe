-- The items of a grammar file, without their places.
use Rattle.std.specs.Prelude.{ℕ, List, map, Option}
use Rattle.pg_grammar_form.specs.declared.decl.Role.{Role}
use Rattle.pg_file_items.specs.declared.written.WrittenPart.{WrittenPart}
use Rattle.pg_file_items.specs.declared.written.WrittenForm.{WrittenForm}
use Rattle.pg_file_items.specs.declared.item.PlacedForm.{PlacedForm}
use Rattle.pg_file_items.specs.declared.item.Item as declared
use Rattle.pg_file_items.specs.declared.item.Item.TheVariants as item

-- an item with its class expressions and its value in preorder
pub data Entry : Type 0 where
  class : (name : List ℕ) → List WrittenPart → Entry
  word : (name : List ℕ) → (head rest : List WrittenPart) → (reserved : List (List ℕ)) → Entry
  operators : (class gap : List WrittenPart) → (reserved : List (List ℕ)) → (most : Option ℕ) → Entry
  table : Role → (precedence : ℕ) → (symbol : List ℕ) → Entry
  start : List ℕ → Entry
  rule : (name : List ℕ) → List WrittenForm → Entry

-- a value without its places
abbrev pub forms_of : List PlacedForm → List WrittenForm
forms_of forms = map (λ (f : PlacedForm). f.form) forms

abbrev pub entry_of : declared.Item → Entry
entry_of (item.Class name place c) = class name c.class
entry_of (item.Word name place head rest reserved) = word name head.class rest.class reserved.items
entry_of (item.Operators c gap reserved most place) = operators c.class gap.class reserved.items most
entry_of (item.Table role precedence symbol place symbol_place) = table role precedence symbol
entry_of (item.Start name place name_place) = start name
entry_of (item.Rule name place body) = rule name (forms_of body.items)

abbrev pub entries_of : List declared.Item → List Entry
entries_of items = map entry_of items
