-- Items as trees and as entries in preorder make the same grammars.
use Rattle.std.proofs.Common.{◌≡◌, List, [], ◌∷◌, map, refl, sym, ap, subst}
use Rattle.pg_pred.specs.Offer.{Offer}
use Rattle.pg_grammar_form.specs.Names as names
use Rattle.pg_grammar_value.specs.Grammar.{Grammar}
use Rattle.pg_grammar.specs.Made.{Made, nothing_made, with_class, with_rule, Says}
use Rattle.pg_file_items.specs.Tree.{Item, Class_item, Word_item, Operators, Table, Start, Rule_item}
use Rattle.pg_file_items.specs.Heads.{entry_of_item}
use Rattle.pg_file_making.specs.Spells.{made_classes, with_item, with_items, IsKnown, IsNew, AreInOrder, IsGrammarOf}
use Rattle.pg_file_making.specs.Making.{with_entry, with_entries, EntryIsKnown, EntryIsNew, EntriesAreInOrder, IsGrammarOfEntries}
use Rattle.pg_file_meaning.proofs.MeaningLemmas.Meant.{class_parts_meant, heads_meant}

-- ---- what is handed in

pub with_entry_is : (offer : Offer) (made : Made) (item : Item) → with_entry offer made (entry_of_item item) ≡ with_item offer made item
with_entry_is offer made (Class_item s c) = ap (with_class made s) (class_parts_meant offer (made_classes made) c)
with_entry_is offer made (Word_item s head after reserved) =
    rw (class_parts_meant offer (made_classes made) head, class_parts_meant offer (made_classes made) after) refl
with_entry_is offer made (Operators c gap reserved most) =
    rw (class_parts_meant offer (made_classes made) c, class_parts_meant offer (made_classes made) gap) refl
with_entry_is offer made (Table role precedence symbol) = refl
with_entry_is offer made (Start s) = refl
with_entry_is offer made (Rule_item s v) = ap (with_rule made s) (heads_meant offer (made_classes made) v)

pub with_entries_is : (offer : Offer) (made : Made) (items : List Item) → with_entries offer made (map entry_of_item items) ≡ with_items offer made items
with_entries_is offer made [] = refl
with_entries_is offer made (item ∷ items) =
    subst (λ m. with_entries offer m (map entry_of_item items) ≡ with_items offer (with_item offer made item) items) (sym (with_entry_is offer made item))
    (with_entries_is offer (with_item offer made item) items)

-- ---- what may follow

known_entry : (offer : Offer) (classes : List names.Name) (item : Item) → IsKnown offer classes item → EntryIsKnown offer classes (entry_of_item item)
known_entry offer classes (Class_item s c) h = h
known_entry offer classes (Word_item s head after reserved) h = h
known_entry offer classes (Operators c gap reserved most) h = h
known_entry offer classes (Table role precedence symbol) h = h
known_entry offer classes (Start s) h = h
known_entry offer classes (Rule_item s v) h = h

known_item : (offer : Offer) (classes : List names.Name) (item : Item) → EntryIsKnown offer classes (entry_of_item item) → IsKnown offer classes item
known_item offer classes (Class_item s c) h = h
known_item offer classes (Word_item s head after reserved) h = h
known_item offer classes (Operators c gap reserved most) h = h
known_item offer classes (Table role precedence symbol) h = h
known_item offer classes (Start s) h = h
known_item offer classes (Rule_item s v) h = h

new_entry : (offer : Offer) (made : Made) (item : Item) → IsNew offer made item → EntryIsNew offer made (entry_of_item item)
new_entry offer made (Class_item s c) h = h
new_entry offer made (Word_item s head after reserved) h = h
new_entry offer made (Operators c gap reserved most) h = h
new_entry offer made (Table role precedence symbol) h = h
new_entry offer made (Start s) h = h
new_entry offer made (Rule_item s v) h = h

new_item : (offer : Offer) (made : Made) (item : Item) → EntryIsNew offer made (entry_of_item item) → IsNew offer made item
new_item offer made (Class_item s c) h = h
new_item offer made (Word_item s head after reserved) h = h
new_item offer made (Operators c gap reserved most) h = h
new_item offer made (Table role precedence symbol) h = h
new_item offer made (Start s) h = h
new_item offer made (Rule_item s v) h = h

pub entries_in_order : (offer : Offer) (made : Made) (items : List Item) → AreInOrder offer made items → EntriesAreInOrder offer made (map entry_of_item items)
entries_in_order offer made [] h = tt
entries_in_order offer made (item ∷ items) h =
    let after = entries_in_order offer (with_item offer made item) items h.2 in (
      record { known = known_entry offer (made_classes made) item h.0; new = new_entry offer made item h.1 },
      subst (λ m. EntriesAreInOrder offer m (map entry_of_item items)) (sym (with_entry_is offer made item)) after,
    )

pub items_in_order : (offer : Offer) (made : Made) (items : List Item) → EntriesAreInOrder offer made (map entry_of_item items) → AreInOrder offer made items
items_in_order offer made [] h = tt
items_in_order offer made (item ∷ items) h =
    let after = subst (λ m. EntriesAreInOrder offer m (map entry_of_item items)) (with_entry_is offer made item) h.1 in
    (known_item offer (made_classes made) item h.0.known, new_item offer made item h.0.new, items_in_order offer (with_item offer made item) items after)

-- ---- grammars

-- a grammar of the items is one of their entries
pub grammar_of_entries : (offer : Offer) (items : List Item) (g : Grammar) → IsGrammarOf offer items g → IsGrammarOfEntries offer (map entry_of_item items) g
grammar_of_entries offer items g h = record {
  ordered = entries_in_order offer nothing_made items h.ordered;
  says = subst (λ m. Says m g) (sym (with_entries_is offer nothing_made items)) h.says;
  admitted = h.admitted;
}

-- a grammar of the entries is one of the items
pub grammar_of_items : (offer : Offer) (items : List Item) (g : Grammar) → IsGrammarOfEntries offer (map entry_of_item items) g → IsGrammarOf offer items g
grammar_of_items offer items g h = record {
  ordered = items_in_order offer nothing_made items h.ordered;
  says = subst (λ m. Says m g) (with_entries_is offer nothing_made items) h.says;
  admitted = h.admitted;
}
