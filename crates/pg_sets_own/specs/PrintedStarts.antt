-- The printed form of starts, as bytes.
use Rattle.std.specs.Prelude.{ℕ, ◌-◌, ◌==◌, true, nat_lt, if◌then◌else◌, List, [], ◌++◌, length, take, replicate, codes, Option, Some, None, slice_get}
use Rattle.std.specs.Fmt.{digits}
use Rattle.std.specs.List.{join_by}
use Rattle.std.specs.Str.{encode_utf8_all}
use Rattle.pg_class.specs.Ranges.{Range}
use Rattle.pg_grammar_value.specs.Grammar.{Grammar}
use Rattle.pg_grammar_form.specs.declared.word_item.WordItem.{WordItem}
use Rattle.pg_start.specs.declared.kind.StartKind.{StartKind}
use Rattle.pg_start.specs.declared.kind.StartKind.TheVariants.{Class, Key, Word, End}
use Rattle.pg_tree.specs.Json.{quoted}
use Rattle.pg_sets_own.specs.declared.listed.ListedStart.{ListedStart}

-- a number in base sixteen, in upper case, with zeros before up to four digits
abbrev pub hexadecimal : ℕ → List ℕ
hexadecimal n = replicate (4 - length (digits 16 true n)) 48 ++ digits 16 true n

abbrev pub character_text : ℕ → List ℕ
character_text c = codes "U+" ++ hexadecimal c

-- the first character of a range, and the last if the range has several
abbrev pub range_text : Range → List ℕ
range_text range = character_text range.0 ++ (if range.0 == range.1 then [] else codes "-" ++ character_text range.1)

-- the first four ranges with commas between, and whether there are more
abbrev pub first_ranges_text : List Range → List ℕ
first_ranges_text ranges = join_by range_text (codes ",") (take 4 ranges) ++ (if nat_lt 4 (length ranges) then codes ",.." else [])

-- a class by its first ranges
abbrev pub class_text : List Range → List ℕ
class_text ranges = codes "class " ++ first_ranges_text ranges

-- the text of a key as a string of JSON
abbrev pub quoted_key : List ℕ → List ℕ
quoted_key text = codes "key " ++ quoted (encode_utf8_all text)

-- the name of a word item, or the word for operators
abbrev pub word_text : Option WordItem → List ℕ
word_text (Some item) = codes "word " ++ encode_utf8_all item.name
word_text None = codes "operator"

-- a start of this kind, listed under this word item
abbrev pub kind_text : Grammar → ℕ → StartKind → List ℕ
kind_text g w (Class ranges) = class_text ranges
kind_text g w (Key text excluded) = quoted_key text
kind_text g w (Word heads rest reserved) = word_text (slice_get g.words w)
kind_text g w End = codes "end"

-- the printed form of a start
abbrev pub start_text : Grammar → ListedStart → List ℕ
start_text g listed = kind_text g listed.word listed.start
