-- Word items. Each reads a character of its head and then all characters of its rest, unless that word is reserved.
use Rattle.std.specs.Prelude.{◌≡◌, ◌≤◌, ℕ, Bool, false, ◌||◌, List, length, map}
use Rattle.std.specs.List.{list_any}
use Rattle.std.specs.Str.{bytes_eq}
use Rattle.pg_grammar_form.specs.Names.{Name, AreDistinct}
use Rattle.pg_grammar_form.specs.Literals.{is_empty_literal, is_long_literal}
use Rattle.pg_grammar_form.specs.Classes.{descends, is_long, lacks_item}
use Rattle.pg_grammar_form.specs.declared.word_item.WordItem.{WordItem}

-- the name of a word item
abbrev pub word_name : WordItem → Name
word_name item = item.name

-- whether one of the word items has the name
abbrev pub has_word : List WordItem → Name → Bool
has_word items name = list_any (λ item. bytes_eq item.name name) items

-- whether it names a class item other than the first `count`
abbrev pub word_lacks_item : ℕ → WordItem → Bool
word_lacks_item count item = list_any (lacks_item count) item.head || list_any (lacks_item count) item.rest

-- whether a range descends, or a reserved text is empty
abbrev pub word_has_bad_literal : WordItem → Bool
word_has_bad_literal item = (list_any descends item.head || list_any descends item.rest) || list_any is_empty_literal item.reserved

-- whether a literal has more than 1,024 characters, or the name of a predicate has more than 64
abbrev pub word_has_long_text : WordItem → Bool
word_has_long_text item = (list_any is_long item.head || list_any is_long item.rest) || list_any is_long_literal item.reserved

-- the word items that a file with `count` class items may have
pub record AreWords (count : ℕ) (words : List WordItem) : Type 0 where
  pub distinct : AreDistinct (map word_name words)
  pub known : list_any (word_lacks_item count) words ≡ false
  pub literals : list_any word_has_bad_literal words ≡ false
  pub few : length words ≤ 64
