-- An item that is written is read.
use Rattle.std.proofs.Common.{◌≡◌, ℕ, ◌≤◌, true, le-leb, List, [], ◌∷◌, Option, Some, None, refl, arith}
use Rattle.std.proofs.Math.Nat.{le-max_left, le-max_right}
use Rattle.std.specs.Prelude.{codes, if◌then◌else◌}
use Rattle.std.specs.List.{AllByRecursion}
use Rattle.std.specs.Str.{bytes_eq}
use Rattle.pg_file_tokens.specs.declared.token.Mark.TheVariants.{Equals, Semicolon, Dots, Bar}
use Rattle.pg_file_tokens.specs.Lexical.{passes}
use Rattle.pg_file_tokens.specs.Tokens.{Token, name, mark}
use Rattle.pg_file_items.specs.Tree.{Item, Class_item, Word_item, Operators, Table, Start, Rule_item}
use Rattle.pg_file_items.specs.Syntax.{class_written, literals_written, reserved_written, most_written, item_written}
use Rattle.pg_file_items.specs.Proper.{is_reserved, is_decimal, IsFilled, value_of, IsNumber, IsMost, IsProperItem}
use Rattle.pg_file_items.specs.Depth.{class_depth, item_depth}
use Rattle.pg_file_items.specs.Heads.{most_of, entry_of_item}
use Rattle.pg_file_items.specs.Entries as entry
use Rattle.pg_file_items.specs.Entries.{Entry}
use Rattle.pg_file_items.specs.Depth.{IsShallow}
use Rattle.pg_file_parser.specs.Reading.{◌>>=◌, Reader, mark_at, word_at, name_at, free_name, value_within, value_between, class_at, value_at}
use Rattle.pg_file_parser.specs.ItemReading.{free_name_at, class_after, literals_at, reserved_at, most_at, table_at, start_at, item_named_at, item_at}
use Rattle.pg_file_parser.proofs.ParserLemmas.Steps.{free_name_found, filled_text_found, free_isnt}
use Rattle.pg_file_parser.proofs.ParserLemmas.Classes.{class_complete}
use Rattle.pg_file_parser.proofs.ParserLemmas.Words.{role_found}
use Rattle.pg_file_parser.proofs.ParserLemmas.ValuesFound.{value_complete}

-- ---- numbers and reserved texts

within_found : (high : ℕ) (s : List ℕ) → passes is_decimal s ≡ true → value_of s ≤ high → value_within high s ≡ Some (value_of s)
unfolding value_within
within_found high s d le = rw (d, le-leb (value_of s) high le) refl

between_found : (low high : ℕ) (s : List ℕ) → IsNumber low high s → value_between low high s ≡ Some (value_of s)
between_found low high s h = rw (within_found high s h.all_digits h.below, le-leb low (value_of s) h.above) refl

literals_complete : (texts : List (List ℕ)) (rest : List Token) → AllByRecursion IsFilled texts → literals_at rest ≡ Some ([], rest) → literals_at (literals_written texts rest) ≡ Some (texts, rest)
unfolding literals_at
literals_complete [] rest p e = e
literals_complete (s ∷ texts) rest p e = rw (filled_text_found s p.0, literals_complete texts rest p.1 e) refl

reserved_complete : (texts : List (List ℕ)) (rest : List Token) → AllByRecursion IsFilled texts → literals_at rest ≡ Some ([], rest) → word_at (codes "reserved") rest ≡ None → reserved_at (reserved_written texts rest) ≡ Some (texts, rest)
reserved_complete [] rest p e w = rw w refl
reserved_complete (s ∷ texts) rest p e w = rw (filled_text_found s p.0, literals_complete texts rest p.1 e) refl

most_complete : (digits : Option (List ℕ)) (rest : List Token) → IsMost digits → word_at (codes "max") rest ≡ None → most_at (most_written digits rest) ≡ Some (most_of digits, rest)
most_complete None rest p w = rw w refl
most_complete (Some digits) rest p w = rw (between_found 1 64 digits p) refl

-- ---- reading items in which parentheses nest n deep, as the reader does it with 64

abbrev class_item_within : ℕ → Reader Entry
class_item_within n ts = free_name_at ts >>= λ s. mark_at Equals s.1 >>= λ after. class_at n after >>= λ c. Some (entry.class s.0 c.0, c.1)

abbrev word_item_within : ℕ → Reader Entry
word_item_within n ts =
    free_name_at ts >>= λ s. class_after n (codes "head") s.1 >>= λ head. class_after n (codes "rest") head.1 >>= λ c. reserved_at c.1
    >>= λ reserved. Some (entry.word s.0 head.0 c.0 reserved.0, reserved.1)

abbrev operators_within : ℕ → Reader Entry
operators_within n ts =
    class_at n ts >>= λ c. class_after n (codes "gap") c.1 >>= λ gap. reserved_at gap.1 >>= λ reserved. most_at reserved.1
    >>= λ most. Some (entry.operators c.0 gap.0 reserved.0 most.0, most.1)

abbrev rule_within : ℕ → List ℕ → Reader Entry
rule_within n s ts = free_name s >>= λ rule. mark_at Equals ts >>= λ after. value_at n after >>= λ v. Some (entry.rule rule v.0, v.1)

pub item_named_within : ℕ → List ℕ → Reader Entry
item_named_within n s ts =
    if bytes_eq (codes "class") s then class_item_within n ts
    else if bytes_eq (codes "word") s then word_item_within n ts
    else if bytes_eq (codes "operators") s then operators_within n ts
    else if bytes_eq (codes "table") s then table_at ts
    else if bytes_eq (codes "start") s then start_at ts
    else rule_within n s ts

abbrev pub item_within : ℕ → Reader Entry
item_within n ts = name_at ts >>= λ s. item_named_within n s.0 s.1

-- ---- items that are written

reserved_stops : (texts : List (List ℕ)) (rest : List Token) → mark_at Dots rest ≡ None → mark_at Bar rest ≡ None → (mark_at Dots (reserved_written texts rest) ≡ None) × (mark_at Bar (reserved_written texts rest) ≡ None)
reserved_stops [] rest d b = (d, b)
reserved_stops (s ∷ texts) rest d b = (refl, refl)

-- after the reserved texts: the most operators, or the semicolon
abbrev tail : Option (List ℕ) → List Token → List Token
tail most rest = most_written most (mark Semicolon ∷ rest)

tail_stops : (most : Option (List ℕ)) (rest : List Token) → (mark_at Dots (tail most rest) ≡ None) × (mark_at Bar (tail most rest) ≡ None)
tail_stops None rest = (refl, refl)
tail_stops (Some digits) rest = (refl, refl)

tail_literals : (most : Option (List ℕ)) (rest : List Token) → literals_at (tail most rest) ≡ Some ([], tail most rest)
unfolding literals_at
tail_literals None rest = refl
tail_literals (Some digits) rest = refl

tail_reserved : (most : Option (List ℕ)) (rest : List Token) → word_at (codes "reserved") (tail most rest) ≡ None
tail_reserved None rest = refl
tail_reserved (Some digits) rest = refl

class_reserved : is_reserved (codes "class") ≡ true
unfolding is_reserved
class_reserved = refl

word_reserved : is_reserved (codes "word") ≡ true
unfolding is_reserved
word_reserved = refl

operators_reserved : is_reserved (codes "operators") ≡ true
unfolding is_reserved
operators_reserved = refl

table_reserved : is_reserved (codes "table") ≡ true
unfolding is_reserved
table_reserved = refl

start_reserved : is_reserved (codes "start") ≡ true
unfolding is_reserved
start_reserved = refl

abbrev pub ended : Entry → List Token → Option (Entry × List Token)
ended e rest = Some (e, mark Semicolon ∷ rest)

-- an item that is written is read, up to its semicolon
pub item_found : (n : ℕ) (item : Item) (rest : List Token) → IsProperItem item → item_depth item ≤ n → item_within n (item_written item rest) ≡ ended (entry_of_item item) rest
unfolding item_named_within
item_found n (Class_item s c) rest p d = rw (free_name_found s p.0, class_complete n c (mark Semicolon ∷ rest) (refl, refl) (p.1, d)) refl
item_found n (Word_item s h c texts) rest p d =
    let first : class_depth h ≤ n = omega (arith, d, le-max_left (class_depth h) (class_depth c)) in
    let second : class_depth c ≤ n = omega (arith, d, le-max_right (class_depth h) (class_depth c)) in
    rw (
      free_name_found s p.0,
      class_complete n h (name (codes "rest") ∷ class_written c (reserved_written texts (mark Semicolon ∷ rest))) (refl, refl) (p.1, first),
      class_complete n c (reserved_written texts (mark Semicolon ∷ rest)) (reserved_stops texts (mark Semicolon ∷ rest) refl refl) (p.2, second),
      reserved_complete texts (mark Semicolon ∷ rest) p.3 (tail_literals None rest) refl,
    ) refl
item_found n (Operators c g texts most) rest p d =
    let first : class_depth c ≤ n = omega (arith, d, le-max_left (class_depth c) (class_depth g)) in
    let second : class_depth g ≤ n = omega (arith, d, le-max_right (class_depth c) (class_depth g)) in
    let stops = tail_stops most rest in
    rw (
      class_complete n c (name (codes "gap") ∷ class_written g (reserved_written texts (tail most rest))) (refl, refl) (p.0, first),
      class_complete n g (reserved_written texts (tail most rest)) (reserved_stops texts (tail most rest) stops.0 stops.1) (p.1, second),
      reserved_complete texts (tail most rest) p.2 (tail_literals most rest) (tail_reserved most rest),
      most_complete most (mark Semicolon ∷ rest) p.3 refl,
    ) refl
item_found n (Table role precedence symbol) rest p d = rw (role_found role, within_found 9 precedence p.0.all_digits p.0.below, filled_text_found symbol p.1) refl
item_found n (Start s) rest p d = rw (free_name_found s p) refl
item_found n (Rule_item s v) rest p d =
    rw (
      free_isnt s (codes "class") p.0 class_reserved,
      free_isnt s (codes "word") p.0 word_reserved,
      free_isnt s (codes "operators") p.0 operators_reserved,
      free_isnt s (codes "table") p.0 table_reserved,
      free_isnt s (codes "start") p.0 start_reserved,
      free_name_found s p.0,
      value_complete n v (mark Semicolon ∷ rest) tt (p.1, d),
    ) refl

-- an item that the reader may read
pub item_complete : (item : Item) (rest : List Token) → IsProperItem item → IsShallow item → item_at (item_written item rest) ≡ ended (entry_of_item item) rest
unfolding item_named_at item_named_within
item_complete item rest p d = item_found 64 item rest p d
