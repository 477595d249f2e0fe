-- What JSON values mean in claims about a rule: numbers, texts, ranges and starts.
use Rattle.std.specs.Prelude.{◌≡◌, ◌<◌, ◌^◌, ℕ, Bool, List, [], ◌∷◌, codes, length, slice_get, Some, IsSome}
use Rattle.std.specs.Char.{IsScalar}
use Rattle.std.specs.Str.{encode_utf8_all}
use Rattle.serde_json.specs.Data.{Data, unsigned, null, boolean, number, string, array, object, item, no_items}
use Rattle.serde_json.specs.Events.{members_len}
use Rattle.serde_json.specs.Find.{get}
use Rattle.serde_json.specs.View.{items_of}
use Rattle.pg_class.specs.Ranges.{Range, IsClass}
use Rattle.pg_grammar_form.specs.declared.word_item.WordItem.{WordItem}
use Rattle.pg_grammar_value.specs.Grammar.{Grammar}
use Rattle.pg_certificate.specs.declared.certificate.ClaimedStart.{ClaimedStart}
use Rattle.pg_certificate.specs.declared.certificate.ClaimedStart.TheVariants.{Class, Key, Word, Operator, End}

-- ---- arrays and objects

-- the lists are equally long, and each value stands for the thing at its place
abbrev pub Each : {A B : Type 0} → (B → A → Type 0) → List B → List A → Type 0
Each Says [] [] = Unit {0}
Each Says [] (a ∷ found) = ⊥
Each Says (b ∷ bs) [] = ⊥
Each Says (b ∷ bs) (a ∷ found) = Says b a × Each Says bs found

-- an array whose values stand for these things
abbrev pub SaysEach : {A : Type 0} → (Data → A → Type 0) → Data → List A → Type 0
SaysEach Says d found = (ds : List Data) × (array (items_of ds) ≡ d) × Each Says ds found

-- how many keys an object has; 0 for any other value
abbrev pub key_count : Data → ℕ
key_count null = 0
key_count (boolean b) = 0
key_count (number n) = 0
key_count (string s) = 0
key_count (array ds) = 0
key_count (object ms) = members_len ms

-- an object whose value under the key stands for this
abbrev pub SaysUnder : {A : Type 0} → List ℕ → (Data → A → Type 0) → Data → A → Type 0
SaysUnder key Says d a = (inner : Data) × (get key d ≡ Some inner) × Says inner a

-- ---- numbers and texts

-- the value is `true` or `false`
abbrev pub SaysFlag : Data → Bool → Type 0
SaysFlag d b = d ≡ boolean b

-- a whole number of 64 bits, as every whole number in a value is
abbrev pub SaysNumber : Data → ℕ → Type 0
SaysNumber d n = d ≡ number (unsigned n)

-- a whole number of 32 bits
abbrev pub SaysRank : Data → ℕ → Type 0
SaysRank d n = (d ≡ number (unsigned n)) × (n < 2 ^ 32)

-- the value is this text
abbrev pub SaysText : Data → List ℕ → Type 0
SaysText d text = d ≡ string (encode_utf8_all text)

-- ---- ranges

-- the number of a character
abbrev pub SaysCharacter : Data → ℕ → Type 0
SaysCharacter d c = SaysNumber d c × IsScalar c

-- an array of two values
abbrev pub two_values : Data → Data → Data
two_values first last = array (item first (item last no_items))

-- an array of the first and the last character of a range
abbrev pub SaysRange : Data → Range → Type 0
SaysRange d range = (first last : Data) × (two_values first last ≡ d) × (SaysCharacter first range.0 × SaysCharacter last range.1)

-- the ranges are exactly those of a class
abbrev pub IsClassAsIs : List Range → List Range → Type 0
IsClassAsIs ranges class = (class ≡ ranges) × IsClass class

-- exactly the ranges of a class
abbrev pub SaysClass : Data → List Range → Type 0
SaysClass d class = SaysEach SaysRange d class × IsClass class

-- ---- starts

-- a text that isn't empty
abbrev pub SaysKey : Data → List ℕ → Type 0
SaysKey d text = SaysText d text × (0 < length text)

-- the name of a word item
abbrev pub SaysWord : Grammar → Data → ℕ → Type 0
SaysWord g d w = (item : WordItem) × (slice_get g.words w ≡ Some item) × SaysText d item.name

-- a start: a class under one key, a text and what may not follow it under two keys, a word under one, or a text for operators, if
-- there is an operators item, or for the end
abbrev pub SaysStart : Grammar → Data → ClaimedStart → Type 0
SaysStart g d (Class ranges) = (key_count d ≡ 1) × SaysUnder (codes "class") SaysClass d ranges
SaysStart g d (Key text excluded) = (key_count d ≡ 2) × SaysUnder (codes "key") SaysKey d text × SaysUnder (codes "not") SaysClass d excluded
SaysStart g d (Word w) = (key_count d ≡ 1) × SaysUnder (codes "word") (SaysWord g) d w
SaysStart g d Operator = (d ≡ string (codes "operator")) × IsSome g.operators
SaysStart g d End = d ≡ string (codes "end")
