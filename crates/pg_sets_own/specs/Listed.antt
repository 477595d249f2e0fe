-- How the sets of a grammar list starts: under which number, and in which order.
use Rattle.std.specs.Prelude.{◌≡◌, ◌<◌, ◌≤◌, ℕ, List, [], length}
use Rattle.std.specs.Cmp.{IsTotalOrder, then_total, on_total, nat_cmp_total}
use Rattle.std.specs.Cmp.Lexicographic.{slice_cmp, lists_total}
use Rattle.std.specs.declared.cmp.Ordering.{Ordering}
use Rattle.std.specs.Ordering.{nat_cmp, on, then_cmp}
use Rattle.pg_class.specs.Ranges.{Range}
use Rattle.pg_grammar_value.specs.Grammar.{Grammar}
use Rattle.pg_start.specs.declared.kind.StartKind.{StartKind}
use Rattle.pg_start.specs.declared.kind.StartKind.TheVariants.{Class, Key, Word, End}
use Rattle.pg_sets_own.specs.OwnStarts.{ReadsWords}
use Rattle.pg_sets_own.specs.declared.listed.ListedStart.{ListedStart}

-- ---- the name of a word start

-- the number of the first word item that reads just these words, or the number of word items if none does, as can happen for
-- operators
pub record IsFirstReader (g : Grammar) (heads rest : List Range) (reserved : List (List ℕ)) (w : ℕ) : Type 0 where
  pub none_before : (v : ℕ) → v < w → ReadsWords g heads rest reserved v → ⊥
  pub bound : w ≤ length g.words
  pub reads : w < length g.words → ReadsWords g heads rest reserved w

-- a word start has that number, every other start the number 0
abbrev pub IsNumbered : Grammar → StartKind → ℕ → Type 0
IsNumbered g (Class ranges) w = w ≡ 0
IsNumbered g (Key text excluded) w = w ≡ 0
IsNumbered g (Word heads rest reserved) w = IsFirstReader g heads rest reserved w
IsNumbered g End w = w ≡ 0

-- a word start has the number of the first item with the same words, or the number after all items
abbrev pub IsListed : Grammar → ListedStart → Type 0
IsListed g listed = IsNumbered g listed.start listed.word

-- ---- the order

abbrev pub start_of : ListedStart → StartKind
start_of listed = listed.start

abbrev pub word_of : ListedStart → ℕ
word_of listed = listed.word

-- classes, keys, words, the end
abbrev pub kind_number : StartKind → ℕ
kind_number (Class ranges) = 0
kind_number (Key text excluded) = 1
kind_number (Word heads rest reserved) = 2
kind_number End = 3

-- the text of a key
abbrev pub key_text : StartKind → List ℕ
key_text (Class ranges) = []
key_text (Key text excluded) = text
key_text (Word heads rest reserved) = []
key_text End = []

-- the ranges of a class, and those that a key excludes
abbrev pub ranges_of : StartKind → List Range
ranges_of (Class ranges) = ranges
ranges_of (Key text excluded) = excluded
ranges_of (Word heads rest reserved) = []
ranges_of End = []

-- the parts of a word
abbrev pub heads_of : StartKind → List Range
heads_of (Class ranges) = []
heads_of (Key text excluded) = []
heads_of (Word heads rest reserved) = heads
heads_of End = []

abbrev pub rest_of : StartKind → List Range
rest_of (Class ranges) = []
rest_of (Key text excluded) = []
rest_of (Word heads rest reserved) = rest
rest_of End = []

abbrev pub reserved_of : StartKind → List (List ℕ)
reserved_of (Class ranges) = []
reserved_of (Key text excluded) = []
reserved_of (Word heads rest reserved) = reserved
reserved_of End = []

-- ranges compare as pairs of numbers, and lists of ranges as words of a dictionary
abbrev pub range_order : Range → Range → Ordering
range_order = then_cmp (on (λ range. range.0) nat_cmp) (on (λ range. range.1) nat_cmp)

abbrev pub ranges_order : List Range → List Range → Ordering
ranges_order = slice_cmp range_order

abbrev pub text_order : List ℕ → List ℕ → Ordering
text_order = slice_cmp nat_cmp

-- classes by their ranges, keys by text and then by the ranges that they exclude, words by the number of the item; the
-- parts of words matter only for starts without an item, and a grammar has at most one of these
abbrev pub start_order : ListedStart → ListedStart → Ordering
start_order =
    then_cmp (then_cmp (then_cmp (then_cmp (then_cmp (then_cmp
    (on (λ listed. kind_number (start_of listed)) nat_cmp)
    (on (λ listed. key_text (start_of listed)) text_order))
    (on (λ listed. ranges_of (start_of listed)) ranges_order))
    (on word_of nat_cmp))
    (on (λ listed. heads_of (start_of listed)) ranges_order))
    (on (λ listed. rest_of (start_of listed)) ranges_order))
    (on (λ listed. reserved_of (start_of listed)) (slice_cmp text_order))

-- it is total, since each of its parts is
ranges_order_total : IsTotalOrder ranges_order
ranges_order_total = lists_total (then_total (on_total (λ (range : Range). range.0) nat_cmp_total) (on_total (λ (range : Range). range.1) nat_cmp_total))

text_order_total : IsTotalOrder text_order
text_order_total = lists_total nat_cmp_total

pub start_order_total : IsTotalOrder start_order
start_order_total =
    then_total (then_total (then_total (then_total (then_total (then_total
    (on_total (λ (listed : ListedStart). kind_number (start_of listed)) nat_cmp_total)
    (on_total (λ (listed : ListedStart). key_text (start_of listed)) text_order_total))
    (on_total (λ (listed : ListedStart). ranges_of (start_of listed)) ranges_order_total))
    (on_total word_of nat_cmp_total))
    (on_total (λ (listed : ListedStart). heads_of (start_of listed)) ranges_order_total))
    (on_total (λ (listed : ListedStart). rest_of (start_of listed)) ranges_order_total))
    (on_total (λ (listed : ListedStart). reserved_of (start_of listed)) (lists_total text_order_total))
