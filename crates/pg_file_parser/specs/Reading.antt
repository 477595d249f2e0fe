-- Reading tokens from left to right, as functions: what was read and the tokens after it, or None at a fault. The parser's code is specified by them,
-- and they read exactly what Syntax writes.
use Rattle.std.specs.Prelude.{ℕ, zero, suc, Bool, true, false, ◌-◌, ◌&&◌, ◌==◌, nat_le, if◌then◌else◌, List, [], ◌∷◌, length, Option, Some, None, codes}
use Rattle.std.specs.Str.{bytes_eq}
use Rattle.pg_file_items.specs.Joined.{joined}
use Rattle.pg_file_items.specs.declared.written.WrittenPart.{WrittenPart}
use Rattle.pg_file_items.specs.declared.written.WrittenPart.TheVariants as part
use Rattle.pg_file_items.specs.declared.written.WrittenForm.{WrittenForm}
use Rattle.pg_file_items.specs.declared.written.WrittenForm.TheVariants as written
use Rattle.pg_file_tokens.specs.declared.token.Mark.{Mark}
use Rattle.pg_file_tokens.specs.declared.token.Mark.TheVariants.{Open, Close, Comma, Bar, Dots}
use Rattle.pg_file_items.specs.declared.words.ClassForm.{ClassForm}
use Rattle.pg_file_items.specs.declared.words.SomeForm.{SomeForm}
use Rattle.pg_grammar_form.specs.declared.side.Side.{Side}
use Rattle.pg_file_items.specs.declared.words.FormWord.{FormWord}
use Rattle.pg_file_items.specs.declared.words.FormWord.TheVariants as word
use Rattle.pg_file_tokens.specs.Lexical.{passes}
use Rattle.pg_file_tokens.specs.Tokens.{Token, name, number, literal, mark, wrong, bad, is_mark, is_word}
use Rattle.pg_file_items.specs.Proper.{is_reserved, is_decimal, value_of}
use Rattle.pg_file_items.specs.Words.{form_word}

infixl 10 ◌>>=◌
abbrev pub ◌>>=◌ : {A B : Type 0} → Option A → (A → Option B) → Option B
(Some x) >>= f = f x
None >>= f = None

-- a value in preorder
abbrev pub Body : Type 0
Body = List WrittenForm

-- a class expression in preorder, or an atom of one
abbrev pub ClassParts : Type 0
ClassParts = List WrittenPart

abbrev pub Reader : Type 0 → Type 0
Reader A = List Token → Option (A × List Token)

-- ---- marks, words, names, literals and numbers

-- the tokens after a mark
abbrev pub mark_at : Mark → List Token → Option (List Token)
mark_at m [] = None
mark_at m (t ∷ ts) = if is_mark m t then Some ts else None

-- the tokens after a word
abbrev pub word_at : List ℕ → List Token → Option (List Token)
word_at word [] = None
word_at word (t ∷ ts) = if is_word word t then Some ts else None

-- a name, reserved or not, of any length
abbrev pub name_at : Reader (List ℕ)
name_at (name s ∷ ts) = Some (s, ts)
name_at ts = None

-- a literal of any length
abbrev pub literal_at : Reader (List ℕ)
literal_at (literal s ∷ ts) = Some (s, ts)
literal_at ts = None

-- whether a token is a literal, even a wrong one
abbrev pub is_literal : Token → Bool
is_literal (name s) = false
is_literal (number s) = false
is_literal (literal s) = true
is_literal (mark m) = false
is_literal wrong = true
is_literal bad = false

-- whether a literal is at the front
abbrev pub has_literal : List Token → Bool
has_literal [] = false
has_literal (t ∷ ts) = is_literal t

-- a number of any size
abbrev pub number_at : Reader (List ℕ)
number_at (number s ∷ ts) = Some (s, ts)
number_at ts = None

-- a name of at most 64 characters, reserved or not
abbrev pub short_name : List ℕ → Option (List ℕ)
short_name s = if nat_le (length s) 64 then Some s else None

-- a name that a rule, a class or a word may have
unfoldable pub free_name : List ℕ → Option (List ℕ)
free_name s = if is_reserved s then None else short_name s

-- the text of a literal
abbrev pub literal_text : List ℕ → Option (List ℕ)
literal_text s = if nat_le (length s) 1024 then Some s else None

-- the text of a literal that isn't empty
unfoldable pub filled_text : List ℕ → Option (List ℕ)
filled_text [] = None
filled_text (c ∷ s) = literal_text (c ∷ s)

-- the number that digits write, if it is at most `high`
unfoldable pub value_within : ℕ → List ℕ → Option ℕ
value_within high s = if passes is_decimal s && nat_le (value_of s) high then Some (value_of s) else None

-- the number that digits write, if it is from `low` to `high`
abbrev pub value_between : ℕ → ℕ → List ℕ → Option ℕ
value_between low high s = value_within high s >>= λ n. if nat_le low n then Some n else None

-- ---- parts with a mark between

-- the parts read, after an earlier one
abbrev pub with_first : {A : Type 0} → A → Option (List A × List Token) → Option (List A × List Token)
with_first x read = read >>= λ xs. Some (x ∷ xs.0, xs.1)

-- the parts after another one: none, or the parts after the mark
abbrev pub more_with : {A : Type 0} → Reader A → Reader (List A) → List Token → Option (List Token) → Option (List A × List Token)
more_with part more ts None = Some ([], ts)
more_with part more ts (Some after) = part after >>= λ x. with_first x.0 (more x.1)

-- the further parts, a mark before each; at most n are read
unfoldable pub more_at : {A : Type 0} → Mark → Reader A → ℕ → Reader (List A)
more_at between part zero ts = Some ([], ts)
more_at between part (suc n) ts = more_with part (more_at between part n) ts (mark_at between ts)

-- a part and at most n further ones
unfoldable pub some_at : {A : Type 0} → Mark → Reader A → ℕ → Reader (List A)
some_at between part n ts = part ts >>= λ x. with_first x.0 (more_at between part n x.1)

-- ---- class expressions

-- an end of a range
abbrev pub range_end : List ℕ → Option ℕ
range_end [] = None
range_end (c ∷ []) = Some c
range_end (c ∷ d ∷ s) = None

-- a range that ascends
abbrev pub range_between : ℕ → ℕ → Option WrittenPart
range_between low high = if nat_le low high then Some (part.Range low high) else None

-- a range, from the dots on
abbrev pub range_at : List ℕ → Reader ClassParts
range_at s ts = do
  low ← range_end s
  t ← literal_at ts
  high ← range_end t.0
  range ← range_between low high
  Some (range ∷ [], t.1)

-- a set of characters
abbrev pub set_at : List ℕ → Reader ClassParts
set_at s ts = literal_text s >>= λ t. Some (part.Literal t ∷ [], ts)

-- a literal and the tokens after it, given the tokens after the dots, if there are dots
abbrev pub atom_with : List ℕ → List Token → Option (List Token) → Option (ClassParts × List Token)
atom_with s ts None = set_at s ts
atom_with s ts (Some after) = range_at s after

-- a set or a range, from its first literal on
abbrev pub literal_atom_at : Reader ClassParts
literal_atom_at ts = literal_at ts >>= λ s. atom_with s.0 s.1 (mark_at Dots s.1)

-- a class, or the predicate, with this name
abbrev pub named_at : List ℕ → Reader ClassParts
named_at s ts = free_name s >>= λ n. Some (part.Named n ∷ [], ts)

-- the parts read, after one more
abbrev pub before_all : WrittenPart → Option (ClassParts × List Token) → Option (ClassParts × List Token)
before_all first read = read >>= λ x. Some (first ∷ x.0, x.1)

-- an atom without `not`; `group` reads on after an opening parenthesis
unfoldable pub plain_at : Reader ClassParts → Reader ClassParts
plain_at group [] = None
plain_at group (name s ∷ ts) = named_at s ts
plain_at group (number s ∷ ts) = None
plain_at group (literal s ∷ ts) = literal_atom_at (literal s ∷ ts)
plain_at group (mark m ∷ ts) = if is_mark Open (mark m) then group ts else None
plain_at group (wrong ∷ ts) = None
plain_at group (bad ∷ ts) = None

-- an atom, after any number of `not`
unfoldable pub atom_at : Reader ClassParts → Reader ClassParts
atom_at group [] = None
atom_at group (t ∷ ts) = if is_word (codes "not") t then before_all part.Complement (atom_at group ts) else plain_at group (t ∷ ts)

-- the expression of these atoms: a single atom as it is, several as a union
abbrev pub expressed : List ClassParts → ClassParts
expressed [] = []
expressed (first ∷ []) = first
expressed (first ∷ second ∷ others) = part.Union (length (first ∷ second ∷ others)) ∷ joined (first ∷ second ∷ others)

-- an expression, which ends at an atom without a `|` after it
unfoldable pub class_with : Reader ClassParts → Reader ClassParts
class_with group ts = some_at Bar (atom_at group) (length ts) ts >>= λ atoms. Some (expressed atoms.0, atoms.1)

-- what was read, if the closing parenthesis follows
abbrev pub with_close : {A : Type 0} → A → Reader A
with_close x ts = mark_at Close ts >>= λ rest. Some (x, rest)

-- a class and its closing parenthesis
abbrev pub closed_at : {A : Type 0} → Reader A → Reader A
closed_at read ts = read ts >>= λ x. with_close x.0 x.1

-- after an opening parenthesis, where n may nest, with this one
unfoldable pub group_at : ℕ → Reader ClassParts
group_at zero ts = None
group_at (suc n) ts = closed_at (class_with (group_at n)) ts

-- an expression in which parentheses may nest n deep
abbrev pub class_at : ℕ → Reader ClassParts
class_at n = class_with (group_at n)

-- ---- values: the contents of the parentheses of each form, before the closing one

-- a class
abbrev pub of_class_at : ClassForm → Reader ClassParts → Reader Body
of_class_at form class ts = class ts >>= λ c. Some (written.OfClass form c.0 ∷ [], c.1)

-- a literal that isn't empty
abbrev pub string_at : Reader Body
string_at ts = do
  s ← literal_at ts
  text ← filled_text s.0
  Some (written.String text ∷ [], s.1)

-- the name of a word item
abbrev pub word_name_at : Reader Body
word_name_at ts = do
  s ← name_at ts
  n ← free_name s.0
  Some (written.Word n ∷ [], s.1)

-- one value or more
abbrev pub values_at : Reader Body → Reader (List Body)
values_at value ts = some_at Comma value (length ts) ts

-- values, or none if the parenthesis closes at once
abbrev pub seq_with : Reader Body → List Token → Option (List Token) → Option (Body × List Token)
seq_with value ts (Some rest) = Some (written.Seq 0 ∷ [], ts)
seq_with value ts None = values_at value ts >>= λ vs. Some (written.Seq (length vs.0) ∷ joined vs.0, vs.1)

abbrev pub of_some_at : SomeForm → Reader Body → Reader Body
of_some_at form value ts = values_at value ts >>= λ vs. Some (written.OfSome form (length vs.0) ∷ joined vs.0, vs.1)

-- these parts, one after another, if there are n
abbrev pub counted : ℕ → List Body → List Token → Option (Body × List Token)
counted n parts rest = if length parts == n then Some (joined parts, rest) else None

-- a form of n values
abbrev pub around_at : WrittenForm → ℕ → Reader Body → Reader Body
around_at head n value ts = do
  vs ← some_at Comma value (n - 1) ts
  parts ← counted n vs.0 vs.1
  Some (head ∷ parts.0, parts.1)

-- a builder's name, and the comma after it
abbrev pub builder_at : Reader (List ℕ)
builder_at ts = do
  s ← name_at ts
  builder ← short_name s.0
  rest ← mark_at Comma s.1
  Some (builder, rest)

abbrev pub expression_head_at : Reader WrittenForm
expression_head_at ts = do
  infixes ← builder_at ts
  prefixes ← builder_at infixes.1
  postfixes ← builder_at prefixes.1
  Some (written.Expression infixes.0 prefixes.0 postfixes.0, postfixes.1)

-- a symbol, and the comma after it
abbrev pub written_symbol_at : Reader (List ℕ)
written_symbol_at ts = do
  s ← literal_at ts
  text ← literal_text s.0
  rest ← mark_at Comma s.1
  Some (text, rest)

-- a builder's symbol and the comma after it, if a literal is at the front
abbrev pub symbol_at : Reader (List ℕ)
symbol_at ts = if has_literal ts then written_symbol_at ts else Some ([], ts)

abbrev pub chain_head_at : Side → Reader WrittenForm
chain_head_at side ts = do
  builder ← builder_at ts
  symbol ← symbol_at builder.1
  Some (written.Chain side builder.0 symbol.0, symbol.1)

abbrev pub build_head_at : Reader WrittenForm
build_head_at ts = do
  builder ← builder_at ts
  symbol ← symbol_at builder.1
  Some (written.Build builder.0 symbol.0, symbol.1)

-- a comma and a message
abbrev pub message_at : Reader (List ℕ)
message_at ts = do
  after ← mark_at Comma ts
  s ← literal_at after
  message ← literal_text s.0
  Some (message, s.1)

-- a value, a comma and a message
abbrev pub label_at : Reader Body → Reader Body
label_at value ts = do
  v ← value ts
  message ← message_at v.1
  Some (written.Label message.0 ∷ v.0, message.1)

-- the contents of the parentheses after a word; `class` and `value` read the expressions and values in them
unfoldable pub form_at : Reader ClassParts → Reader Body → FormWord → Reader Body
form_at class value (word.OfClass form) ts = of_class_at form class ts
form_at class value word.String ts = string_at ts
form_at class value word.Seq ts = seq_with value ts (mark_at Close ts)
form_at class value (word.OfSome form) ts = of_some_at form value ts
form_at class value (word.OfOne form) ts = around_at (written.OfOne form) 1 value ts
form_at class value (word.OfTwo form) ts = around_at (written.OfTwo form) 2 value ts
form_at class value word.Between ts = around_at written.Between 3 value ts
form_at class value (word.Chain form) ts = do
  head ← chain_head_at form ts
  around_at head.0 2 value head.1
form_at class value word.Expression ts = do
  head ← expression_head_at ts
  around_at head.0 1 value head.1
form_at class value word.Build ts = do
  head ← build_head_at ts
  around_at head.0 1 value head.1
form_at class value word.Label ts = label_at value ts
form_at class value word.Word ts = word_name_at ts

-- a rule's name
abbrev pub rule_named_at : List ℕ → Reader Body
rule_named_at s ts = free_name s >>= λ n. Some (written.Rule n ∷ [], ts)

-- what a name other than `eof` begins: a form, or only itself
abbrev pub value_of_word : (FormWord → Reader Body) → List ℕ → Option FormWord → Reader Body
value_of_word inside s (Some word) ts = mark_at Open ts >>= closed_at (inside word)
value_of_word inside s None ts = rule_named_at s ts

-- what a name begins
abbrev pub value_of_name : (FormWord → Reader Body) → List ℕ → Reader Body
value_of_name inside s ts = if bytes_eq (codes "eof") s then Some (written.EndOfText ∷ [], ts) else value_of_word inside s (form_word s) ts

abbrev pub value_with : (FormWord → Reader Body) → Reader Body
value_with inside ts = name_at ts >>= λ s. value_of_name inside s.0 s.1

-- parentheses may nest n deep
unfoldable pub value_at : ℕ → Reader Body
value_at zero = value_with (λ word ts. None)
value_at (suc n) = value_with (form_at (class_at n) (value_at n))
