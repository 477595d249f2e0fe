-- Class items: named class expressions. Each may name those before it.
use Rattle.std.specs.Prelude.{◌≡◌, ◌≤◌, ℕ, suc, Bool, false, List, [], ◌∷◌, ◌++◌, length, map}
use Rattle.std.specs.List.{list_any, AllByRecursion}
use Rattle.std.specs.Str.{bytes_eq}
use Rattle.pg_grammar_form.specs.Names.{Name, AreDistinct}
use Rattle.pg_grammar_form.specs.Classes.{is_member, descends, lacks_item}
use Rattle.pg_grammar_form.specs.declared.class.ClassPart.{ClassPart}
use Rattle.pg_grammar_form.specs.declared.class_item.ClassItem.{ClassItem}

-- the answers for class items, after the answers for the items before them
abbrev pub answers_after : List Bool → List ClassItem → ℕ → List Bool
answers_after known [] c = known
answers_after known (item ∷ items) c = answers_after (known ++ is_member known item.class c ∷ []) items c

-- for each class item whether it has the character
abbrev pub item_answers : List ClassItem → ℕ → List Bool
item_answers items c = answers_after [] items c

-- whether an expression over these class items has the character
abbrev pub has_character : List ClassItem → List ClassPart → ℕ → Bool
has_character items class c = is_member (item_answers items c) class c

-- the name of a class item
abbrev pub item_name : ClassItem → Name
item_name item = item.name

-- its expression
abbrev pub item_class : ClassItem → List ClassPart
item_class item = item.class

-- whether one of the class items has the name
abbrev pub has_item : List ClassItem → Name → Bool
has_item items name = list_any (λ item. bytes_eq item.name name) items

-- each item names only items before it; `count` items come before the first
abbrev pub NameEarlier : ℕ → List ClassItem → Type 0
NameEarlier count [] = Unit {0}
NameEarlier count (item ∷ items) = (list_any (lacks_item count) item.class ≡ false) × NameEarlier (suc count) items

-- the class items that a file may have
pub record AreClasses (items : List ClassItem) : Type 0 where
  pub distinct : AreDistinct (map item_name items)
  pub earlier : NameEarlier 0 items
  pub ascend : AllByRecursion (λ item. list_any descends (item_class item) ≡ false) items
  pub few : length items ≤ 256
