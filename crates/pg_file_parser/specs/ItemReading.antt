-- Reading the items of a file: an item and the tokens after it, or None at a fault.
use Rattle.std.specs.Prelude.{ℕ, zero, suc, if◌then◌else◌, List, [], ◌∷◌, length, Option, Some, None, codes}
use Rattle.std.specs.Str.{bytes_eq}
use Rattle.pg_file_tokens.specs.declared.token.Mark.TheVariants.{Semicolon, Equals}
use Rattle.pg_file_parser.specs.declared.allowance.Allowance.{Allowance}
use Rattle.pg_file_tokens.specs.Tokens.{Token, name, number, literal, mark, wrong, bad}
use Rattle.pg_file_items.specs.Words.{role_named}
use Rattle.pg_file_items.specs.Entries as entry
use Rattle.pg_file_items.specs.Entries.{Entry}
use Rattle.pg_file_parser.specs.Limits.{full_allowance, allowance_after}
use Rattle.pg_file_parser.specs.Reading.{◌>>=◌, ClassParts, Reader, mark_at, word_at, name_at, literal_at, number_at, free_name, filled_text, value_within, value_between, with_first, class_at, value_at}

-- a name that an item defines or uses
abbrev pub free_name_at : Reader (List ℕ)
free_name_at ts = do
  s ← name_at ts
  n ← free_name s.0
  Some (n, s.1)

-- a literal that isn't empty
abbrev pub filled_at : Reader (List ℕ)
filled_at ts = do
  s ← literal_at ts
  text ← filled_text s.0
  Some (text, s.1)

-- consecutive literals, none of them empty
unfoldable pub literals_at : Reader (List (List ℕ))
literals_at [] = Some ([], [])
literals_at (name s ∷ ts) = Some ([], name s ∷ ts)
literals_at (number s ∷ ts) = Some ([], number s ∷ ts)
literals_at (literal s ∷ ts) = filled_text s >>= λ text. with_first text (literals_at ts)
literals_at (mark m ∷ ts) = Some ([], mark m ∷ ts)
literals_at (wrong ∷ ts) = None
literals_at (bad ∷ ts) = Some ([], bad ∷ ts)

-- after the word `reserved`, if it is there: one literal or more
abbrev pub reserved_with : List Token → Option (List Token) → Option (List (List ℕ) × List Token)
reserved_with ts None = Some ([], ts)
reserved_with ts (Some after) = filled_at after >>= λ first. with_first first.0 (literals_at first.1)

abbrev pub reserved_at : Reader (List (List ℕ))
reserved_at ts = reserved_with ts (word_at (codes "reserved") ts)

-- after the word `max`, if it is there: a number
abbrev pub most_with : List Token → Option (List Token) → Option (Option ℕ × List Token)
most_with ts None = Some (None, ts)
most_with ts (Some after) = do
  s ← number_at after
  most ← value_between 1 64 s.0
  Some (Some most, s.1)

abbrev pub most_at : Reader (Option ℕ)
most_at ts = most_with ts (word_at (codes "max") ts)

-- after the word `class`
abbrev pub class_item_at : Reader Entry
class_item_at ts = do
  n ← free_name_at ts
  after ← mark_at Equals n.1
  c ← class_at 64 after
  Some (entry.class n.0 c.0, c.1)

-- a word, and after it a class in which parentheses may nest n deep
abbrev pub class_after : ℕ → List ℕ → Reader ClassParts
class_after n word ts = do
  after ← word_at word ts
  class_at n after

-- after the word `word`
abbrev pub word_item_at : Reader Entry
word_item_at ts = do
  n ← free_name_at ts
  head ← class_after 64 (codes "head") n.1
  c ← class_after 64 (codes "rest") head.1
  reserved ← reserved_at c.1
  Some (entry.word n.0 head.0 c.0 reserved.0, reserved.1)

-- after the word `operators`
abbrev pub operators_at : Reader Entry
operators_at ts = do
  c ← class_at 64 ts
  gap ← class_after 64 (codes "gap") c.1
  reserved ← reserved_at gap.1
  most ← most_at reserved.1
  Some (entry.operators c.0 gap.0 reserved.0 most.0, most.1)

-- after the word `table`
abbrev pub table_at : Reader Entry
table_at ts = do
  s ← name_at ts
  role ← role_named s.0
  digits ← number_at s.1
  precedence ← value_within 9 digits.0
  symbol ← filled_at digits.1
  Some (entry.table role precedence symbol.0, symbol.1)

-- after the word `start`
abbrev pub start_at : Reader Entry
start_at ts = do
  n ← free_name_at ts
  Some (entry.start n.0, n.1)

-- after the name of a rule
abbrev pub rule_at : List ℕ → Reader Entry
rule_at s ts = do
  n ← free_name s
  after ← mark_at Equals ts
  v ← value_at 64 after
  Some (entry.rule n v.0, v.1)

-- the item that a name begins, up to its semicolon
unfoldable pub item_named_at : List ℕ → Reader Entry
item_named_at s ts =
    if bytes_eq (codes "class") s then class_item_at ts
    else if bytes_eq (codes "word") s then word_item_at ts
    else if bytes_eq (codes "operators") s then operators_at ts
    else if bytes_eq (codes "table") s then table_at ts
    else if bytes_eq (codes "start") s then start_at ts
    else rule_at s ts

-- an item up to its semicolon
abbrev pub item_at : Reader Entry
item_at ts = name_at ts >>= λ s. item_named_at s.0 s.1

-- the semicolon of an item, if there is room for the item, and the room that is left
abbrev pub end_at : Allowance → Entry → Reader Allowance
end_at allowance entry ts = do
  rest ← mark_at Semicolon ts
  left ← allowance_after allowance entry
  Some (left, rest)

-- an item and its semicolon, and the room that is left
abbrev pub turn_at : Allowance → Reader (Entry × Allowance)
turn_at allowance ts = do
  item ← item_at ts
  left ← end_at allowance item.0 item.1
  Some ((item.0, left.0), left.1)

-- an item, and the items after it within the room that is left
abbrev pub items_with : (Allowance → List Token → Option (List Entry)) → Allowance → List Token → Option (List Entry)
items_with others allowance ts = do
  turn ← turn_at allowance ts
  entries ← others turn.0.1 turn.1
  Some (turn.0.0 ∷ entries)

-- the items up to the end; n bounds their number
unfoldable pub items_at : ℕ → Allowance → List Token → Option (List Entry)
items_at n allowance [] = Some []
items_at zero allowance (t ∷ ts) = None
items_at (suc n) allowance (t ∷ ts) = items_with (items_at n) allowance (t ∷ ts)

-- all items of a file
abbrev pub file_at : List Token → Option (List Entry)
file_at ts = items_at (length ts) full_allowance ts
