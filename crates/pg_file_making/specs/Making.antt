-- As `Spells.antt`, for the items as the parser returns them: with class expressions and values in preorder.
use Rattle.std.specs.Prelude.{◌≡◌, false, List, [], ◌∷◌, map, None}
use Rattle.std.specs.List.{AllByRecursion}
use Rattle.pg_pred.specs.Offer.{Offer}
use Rattle.pg_grammar_form.specs.Names.{Name, has_name}
use Rattle.pg_grammar_value.specs.Grammar.{Grammar}
use Rattle.pg_grammar.specs.Made.{Made, nothing_made, made_words, with_class, with_word, with_operators, with_initial, with_start, with_rule, Says}
use Rattle.pg_file_items.specs.Tree.{Item}
use Rattle.pg_file_items.specs.Proper.{IsProperItem}
use Rattle.pg_file_items.specs.Heads.{entry_of_item}
use Rattle.pg_file_items.specs.Entries.{Entry, class, word, operators, table, start, rule}
use Rattle.pg_file_meaning.specs.Names.{is_predicate_name, ClassIsKnown, FormIsKnown}
use Rattle.pg_file_meaning.specs.Bodies.{parts_meant, body_meant}
use Rattle.pg_file_making.specs.Spells.{made_classes, max_meant, HasInitialTable}
use Rattle.pg_file_making.specs.declared.name_fault.GrammarError.{GrammarError}
use Rattle.pg_file_making.specs.declared.name_fault.GrammarError.TheVariants.{Memory, Refused}

-- the parts received, and those of one more entry
abbrev pub with_entry : Offer → Made → Entry → Made
with_entry offer made (class s parts) = with_class made s (parts_meant offer (made_classes made) parts)
with_entry offer made (word s head after reserved) =
    with_word made (record { name = s; head = parts_meant offer (made_classes made) head; rest = parts_meant offer (made_classes made) after; reserved = reserved })
with_entry offer made (operators parts gap reserved most) =
    with_operators made (record { class = parts_meant offer (made_classes made) parts; gap = parts_meant offer (made_classes made) gap; reserved = reserved; max = max_meant most })
with_entry offer made (table role precedence symbol) =
    with_initial made (record { role = role; precedence = precedence; symbol = symbol })
with_entry offer made (start s) = with_start made s
with_entry offer made (rule s forms) = with_rule made s (body_meant offer (made_classes made) forms)

abbrev pub with_entries : Offer → Made → List Entry → Made
with_entries offer made [] = made
with_entries offer made (entry ∷ entries) = with_entries offer (with_entry offer made entry) entries

-- the names of classes and builders in an entry are known
abbrev pub EntryIsKnown : Offer → List Name → Entry → Type 0
EntryIsKnown offer classes (class s parts) = ClassIsKnown offer classes parts
EntryIsKnown offer classes (word s head after reserved) = ClassIsKnown offer classes head × ClassIsKnown offer classes after
EntryIsKnown offer classes (operators parts gap reserved most) = ClassIsKnown offer classes parts × ClassIsKnown offer classes gap
EntryIsKnown offer classes (table role precedence symbol) = Unit {0}
EntryIsKnown offer classes (start s) = Unit {0}
EntryIsKnown offer classes (rule s forms) = AllByRecursion (FormIsKnown offer classes) forms

-- the entry's definition is new
abbrev pub EntryIsNew : Offer → Made → Entry → Type 0
EntryIsNew offer made (class s parts) = (has_name (made_classes made) s ≡ false) × (is_predicate_name offer s ≡ false)
EntryIsNew offer made (word s head after reserved) = has_name (made_words made) s ≡ false
EntryIsNew offer made (operators parts gap reserved most) = made.operators ≡ None
EntryIsNew offer made (table role precedence symbol) = Unit {0}
EntryIsNew offer made (start s) = made.start ≡ None
EntryIsNew offer made (rule s forms) = has_name made.names s ≡ false

-- the entry may follow the parts received: its names are known and its definition is new
pub record MayFollow (offer : Offer) (made : Made) (entry : Entry) : Type 0 where
  pub known : EntryIsKnown offer (made_classes made) entry
  pub new : EntryIsNew offer made entry

-- each entry may follow the parts received before it
abbrev pub EntriesAreInOrder : Offer → Made → List Entry → Type 0
EntriesAreInOrder offer made [] = Unit {0}
EntriesAreInOrder offer made (entry ∷ entries) = MayFollow offer made entry × EntriesAreInOrder offer (with_entry offer made entry) entries

-- the entries make this grammar, and its initial operators are admitted
pub record IsGrammarOfEntries (offer : Offer) (entries : List Entry) (g : Grammar) : Type 0 where
  pub ordered : EntriesAreInOrder offer nothing_made entries
  pub says : Says (with_entries offer nothing_made entries) g
  pub admitted : HasInitialTable g

-- the entries are those of items that a file may have
pub record AreProperEntries (entries : List Entry) : Type 0 where
  pub items : List Item
  pub proper : AllByRecursion IsProperItem items
  pub meant : entries ≡ map entry_of_item items

-- the entry is that of an item that a file may have
pub record IsProperEntry (entry : Entry) : Type 0 where
  pub item : Item
  pub proper : IsProperItem item
  pub meant : entry ≡ entry_of_item item

-- the entries make no grammar
abbrev pub MakeNoGrammar : Offer → List Entry → Type 0
MakeNoGrammar offer entries = (g : Grammar) → IsGrammarOfEntries offer entries g → ⊥

-- the parts received, this entry and any entries after it make no grammar
abbrev pub LeadsNowhere : Offer → Made → Entry → Type 0
LeadsNowhere offer made entry =
    (entries : List Entry) (g : Grammar) → MayFollow offer made entry → Says (with_entries offer (with_entry offer made entry) entries) g → ⊥

-- the items are refused, and not because memory ran out
abbrev pub IsRefusal : GrammarError → Type 0
IsRefusal Memory = ⊥
IsRefusal (Refused fault) = Unit {0}
