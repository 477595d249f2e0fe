-- The characters of class expressions.
use Rattle.std.specs.Prelude.{◌≡◌, ◌<◌, ℕ, Bool, false, List, map}
use Rattle.std.specs.Char.{IsScalar}
use Rattle.std.specs.List.{slice_index_or}
use Rattle.pg_class.specs.Ranges.{Range, has}
use Rattle.pg_grammar_form.specs.Classes.{is_member}
use Rattle.pg_grammar_form.specs.ClassItems.{has_character, item_answers}
use Rattle.pg_grammar_form.specs.declared.class.ClassPart.{ClassPart}
use Rattle.pg_grammar_form.specs.declared.class_item.ClassItem.{ClassItem}
use Rattle.pg_grammar_classes.specs.Classes.{answers_of}

-- these are the answers for the ASCII characters, in the order of their codes
abbrev pub IsAsciiTable : List Range → List Bool → Type 0
IsAsciiTable class answers = (c : ℕ) → c < 128 → slice_index_or answers c false ≡ has class c

-- these are the characters of the expression, given the classes of the class items
abbrev pub IsSetBy : List (List Range) → List ClassPart → List Range → Type 0
IsSetBy classes expression set = (c : ℕ) → IsScalar c → has set c ≡ is_member (answers_of classes c) expression c

-- these are the characters of each of the expressions, given the classes of the class items
abbrev pub AreSetsBy : List (List Range) → List (List ClassPart) → List (List Range) → Type 0
AreSetsBy classes expressions sets = (c : ℕ) → IsScalar c → answers_of sets c ≡ map (λ expression. is_member (answers_of classes c) expression c) expressions

-- these are the characters of the class items
abbrev pub AreItemSets : List ClassItem → List (List Range) → Type 0
AreItemSets items sets = (c : ℕ) → IsScalar c → answers_of sets c ≡ item_answers items c

-- these are the characters of the expression, over these class items
abbrev pub IsSetOf : List ClassItem → List ClassPart → List Range → Type 0
IsSetOf items expression set = (c : ℕ) → IsScalar c → has set c ≡ has_character items expression c

-- these are the characters of each of the expressions
abbrev pub AreSetsOf : List ClassItem → List (List ClassPart) → List (List Range) → Type 0
AreSetsOf items expressions sets = (c : ℕ) → IsScalar c → answers_of sets c ≡ map (λ expression. has_character items expression c) expressions
