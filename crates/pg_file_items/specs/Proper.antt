-- What a tree may contain: texts within their limits, ranges that ascend, numbers within their bounds, and names that aren't reserved.
use Rattle.std.specs.Prelude.{◌≡◌, ◌<◌, ◌≤◌, ℕ, Bool, true, false, List, [], ◌∷◌, Option, Some, None, length, codes}
use Rattle.std.specs.List.{list_any, AllByRecursion}
use Rattle.std.specs.Str.{bytes_eq}
use Rattle.std.specs.Str.Parse.{digits_value}
use Rattle.std.specs.Char.{is_digit}
use Rattle.pg_file_tokens.specs.Lexical.{passes}
use Rattle.pg_file_items.specs.Tree.{Atom, Set, Range, Name, Not, Group, Class, Of, Atoms, No_atom, Or, Value, Of_class, String, Seq, Of_some, Of_one, Of_two, Between, Chain, Chain_symbol, Expression, Build, Build_symbol, Label, End_of_text, Word, Rule, Values, No_value, And, Item, Class_item, Word_item, Operators, Table, Start, Rule_item}

-- the words that may not name a rule, a class or a word
abbrev pub reserved_words : List (List ℕ)
reserved_words =
    codes "class" ∷ codes "word" ∷ codes "operators" ∷ codes "gap" ∷ codes "reserved" ∷ codes "max" ∷ codes "table"
    ∷ codes "start" ∷ codes "not" ∷ codes "infixl" ∷ codes "infixr" ∷ codes "infix" ∷ codes "prefix" ∷ codes "postfix"
    ∷ codes "satisfy" ∷ codes "string" ∷ codes "seq" ∷ codes "choice" ∷ codes "many" ∷ codes "chainl1" ∷ codes "chainr1"
    ∷ codes "try" ∷ codes "notFollowedBy" ∷ codes "eof" ∷ codes "expr" ∷ codes "declare" ∷ codes "text" ∷ codes "skip"
    ∷ codes "build" ∷ codes "label" ∷ codes "local" ∷ codes "many1" ∷ codes "option" ∷ codes "between" ∷ codes "sepBy"
    ∷ codes "sepBy1" ∷ codes "endBy" ∷ []

unfoldable pub is_reserved : List ℕ → Bool
is_reserved s = list_any (λ word. bytes_eq word s) reserved_words

-- a name that a rule, a class or a word may have: not a reserved word, and at most 64 characters
pub record IsFreeName (s : List ℕ) : Type 0 where
  pub free : is_reserved s ≡ false
  pub short : length s ≤ 64

-- the name of a builder: at most 64 characters
abbrev pub IsBuilderName : List ℕ → Type 0
IsBuilderName s = length s ≤ 64

-- a literal: at most 1,024 characters
abbrev pub IsLiteral : List ℕ → Type 0
IsLiteral s = length s ≤ 1024

-- a literal that isn't empty
abbrev pub IsFilled : List ℕ → Type 0
IsFilled s = (0 < length s) × IsLiteral s

abbrev mutual
  pub IsProperAtom : Atom → Type 0
  IsProperAtom (Set s) = IsLiteral s
  IsProperAtom (Range low high) = low ≤ high
  IsProperAtom (Name s) = IsFreeName s
  IsProperAtom (Not a) = IsProperAtom a
  IsProperAtom (Group c) = IsProperClass c

  pub IsProperClass : Class → Type 0
  IsProperClass (Of a others) = IsProperAtom a × AreProperAtoms others

  pub AreProperAtoms : Atoms → Type 0
  AreProperAtoms No_atom = Unit {0}
  AreProperAtoms (Or a others) = IsProperAtom a × AreProperAtoms others

abbrev mutual
  pub IsProper : Value → Type 0
  IsProper (Of_class form c) = IsProperClass c
  IsProper (String s) = IsFilled s
  IsProper (Seq vs) = AreProper vs
  IsProper (Of_some form v vs) = IsProper v × AreProper vs
  IsProper (Of_one form v) = IsProper v
  IsProper (Of_two form v separator) = IsProper v × IsProper separator
  IsProper (Between before after inner) = IsProper before × IsProper after × IsProper inner
  IsProper (Chain form builder operand separator) = IsBuilderName builder × IsProper operand × IsProper separator
  IsProper (Chain_symbol form builder symbol operand separator) = IsBuilderName builder × IsLiteral symbol × IsProper operand × IsProper separator
  IsProper (Expression infixes prefixes postfixes term) = IsBuilderName infixes × IsBuilderName prefixes × IsBuilderName postfixes × IsProper term
  IsProper (Build builder v) = IsBuilderName builder × IsProper v
  IsProper (Build_symbol builder symbol v) = IsBuilderName builder × IsLiteral symbol × IsProper v
  IsProper (Label v message) = IsProper v × IsLiteral message
  IsProper End_of_text = Unit {0}
  IsProper (Word s) = IsFreeName s
  IsProper (Rule s) = IsFreeName s

  pub AreProper : Values → Type 0
  AreProper No_value = Unit {0}
  AreProper (And v vs) = IsProper v × AreProper vs

-- a decimal digit
abbrev pub is_decimal : ℕ → Bool
is_decimal c = is_digit c 10

-- the number that digits write
abbrev pub value_of : List ℕ → ℕ
value_of digits = digits_value 10 digits

-- the digits of a number from low to high, perhaps with leading zeros
pub record IsNumber (low high : ℕ) (digits : List ℕ) : Type 0 where
  pub all_digits : passes is_decimal digits ≡ true
  pub above : low ≤ value_of digits
  pub below : value_of digits ≤ high

-- the limit on operators: 1 to 64
abbrev pub IsMost : Option (List ℕ) → Type 0
IsMost None = Unit {0}
IsMost (Some digits) = IsNumber 1 64 digits

-- what an item may contain: no reserved word as the name of a class, word or rule; names and literals within their limits; no empty string, reserved
-- text or symbol; no range that descends; numbers within their bounds
abbrev pub IsProperItem : Item → Type 0
IsProperItem (Class_item s c) = IsFreeName s × IsProperClass c
IsProperItem (Word_item s head after reserved) = IsFreeName s × IsProperClass head × IsProperClass after × AllByRecursion IsFilled reserved
IsProperItem (Operators class gap reserved most) = IsProperClass class × IsProperClass gap × AllByRecursion IsFilled reserved × IsMost most
IsProperItem (Table role precedence symbol) = IsNumber 0 9 precedence × IsFilled symbol
IsProperItem (Start s) = IsFreeName s
IsProperItem (Rule_item s v) = IsFreeName s × IsProper v
