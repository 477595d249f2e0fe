-- The characters of a printed grammar: one line for each item. There is a space between any two tokens, except before `)`, `,`, `;` and `..`, after
-- `(` and `..`, and between a form's word and its parenthesis.
use Rattle.std.specs.Prelude.{◌≤◌, ℕ, ◌==◌, ◌&&◌, nat_le, if◌then◌else◌, false, List, [], ◌∷◌, ◌++◌, Option, Some, None, length, codes}
use Rattle.std.specs.List.{AllByRecursion, flat_map}
use Rattle.std.specs.Str.{encode_utf8_all}
use Rattle.std.specs.Fmt.{digits}
use Rattle.pg_grammar_value.specs.Grammar.{Grammar}
use Rattle.pg_file_items.specs.Tree.{Atom, Set, Range, Name, Not, Group, Class, Of, Atoms, No_atom, Or, Value, Of_class, String, Seq, Of_some, Of_one, Of_two, Between, Chain, Chain_symbol, Expression, Build, Build_symbol, Label, End_of_text, Word, Rule, Values, No_value, And, Item, Class_item, Word_item, Operators, Table, Start, Rule_item}
use Rattle.pg_file_items.specs.Syntax.{class_word, some_word, one_word, two_word, chain_word, role_word}
use Rattle.pg_file_items.specs.Depth.{IsShallow}
use Rattle.pg_file_print.specs.Canonical.{items_of}

-- ---- literals

-- a character of a literal: itself from U+0020 to U+007E, unless it is a quote or a backslash, and otherwise an escape
abbrev pub escaped : ℕ → List ℕ
escaped c =
    if c == 34 then 92 ∷ 34 ∷ []
    else if c == 92 then 92 ∷ 92 ∷ []
    else if c == 10 then 92 ∷ 110 ∷ []
    else if c == 9 then 92 ∷ 116 ∷ []
    else if c == 13 then 92 ∷ 114 ∷ []
    else if nat_le 32 c && nat_le c 126 then c ∷ []
    else 92 ∷ 117 ∷ 123 ∷ (digits 16 false c ++ 125 ∷ [])

abbrev pub all_escaped : List ℕ → List ℕ
all_escaped [] = []
all_escaped (c ∷ s) = escaped c ++ all_escaped s

abbrev pub quoted : List ℕ → List ℕ
quoted s = 34 ∷ (all_escaped s ++ 34 ∷ [])

-- ---- class expressions

-- the text of an atom of a class expression, and that of the whole
abbrev mutual
  pub atom_text : Atom → List ℕ
  atom_text (Set s) = quoted s
  atom_text (Range low high) = quoted (low ∷ []) ++ (codes ".." ++ quoted (high ∷ []))
  atom_text (Name s) = s
  atom_text (Not a) = codes "not " ++ atom_text a
  atom_text (Group c) = codes "(" ++ (class_text c ++ codes ")")

  pub class_text : Class → List ℕ
  class_text (Of a others) = atom_text a ++ others_text others

  -- the further atoms, each after a `|`
  pub others_text : Atoms → List ℕ
  others_text No_atom = []
  others_text (Or a others) = codes " | " ++ (atom_text a ++ others_text others)

-- ---- values

-- a form: its word, and its arguments in parentheses
abbrev pub form_text : List ℕ → List ℕ → List ℕ
form_text word arguments = word ++ (codes "(" ++ (arguments ++ codes ")"))

-- an argument and further ones
abbrev pub with_more : List ℕ → List ℕ → List ℕ
with_more argument others = argument ++ (codes ", " ++ others)

-- the text of a value: a word and its parts in parentheses
abbrev mutual
  pub value_text : Value → List ℕ
  value_text (Of_class form c) = form_text (class_word form) (class_text c)
  value_text (String s) = form_text (codes "string") (quoted s)
  value_text (Seq vs) = form_text (codes "seq") (values_text vs)
  value_text (Of_some form v vs) = form_text (some_word form) (value_text v ++ more_text vs)
  value_text (Of_one form v) = form_text (one_word form) (value_text v)
  value_text (Of_two form v separator) = form_text (two_word form) (with_more (value_text v) (value_text separator))
  value_text (Between before after inner) =
      form_text (codes "between") (with_more (value_text before) (with_more (value_text after) (value_text inner)))
  value_text (Chain side builder operand separator) =
      form_text (chain_word side) (with_more builder (with_more (value_text operand) (value_text separator)))
  value_text (Chain_symbol side builder symbol operand separator) =
      form_text (chain_word side) (with_more builder (with_more (quoted symbol) (with_more (value_text operand) (value_text separator))))
  value_text (Expression infixes prefixes postfixes term) =
      form_text (codes "expr") (with_more infixes (with_more prefixes (with_more postfixes (value_text term))))
  value_text (Build builder v) = form_text (codes "build") (with_more builder (value_text v))
  value_text (Build_symbol builder symbol v) = form_text (codes "build") (with_more builder (with_more (quoted symbol) (value_text v)))
  value_text (Label v message) = form_text (codes "label") (with_more (value_text v) (quoted message))
  value_text End_of_text = codes "eof"
  value_text (Word s) = form_text (codes "word") s
  value_text (Rule s) = s

  pub values_text : Values → List ℕ
  values_text No_value = []
  values_text (And v vs) = value_text v ++ more_text vs

  -- the further values, each after a comma
  pub more_text : Values → List ℕ
  more_text No_value = []
  more_text (And v vs) = codes ", " ++ (value_text v ++ more_text vs)

-- ---- items

abbrev pub literals_text : List (List ℕ) → List ℕ
literals_text [] = []
literals_text (s ∷ texts) = codes " " ++ (quoted s ++ literals_text texts)

-- the word `reserved` and the reserved texts, if there are any
abbrev pub reserved_text : List (List ℕ) → List ℕ
reserved_text [] = []
reserved_text (s ∷ texts) = codes " reserved" ++ literals_text (s ∷ texts)

-- the word `max` and the limit on operators, if it is given
abbrev pub most_text : Option (List ℕ) → List ℕ
most_text None = []
most_text (Some number) = codes " max " ++ number

-- the line of an item
abbrev pub item_text : Item → List ℕ
item_text (Class_item s c) = codes "class " ++ (s ++ (codes " = " ++ (class_text c ++ codes ";\n")))
item_text (Word_item s head after reserved) =
    codes "word " ++ (s ++ (codes " head " ++ (class_text head ++ (codes " rest " ++ (class_text after ++ (reserved_text reserved ++ codes ";\n"))))))
item_text (Operators class gap reserved most) =
    codes "operators " ++ (class_text class ++ (codes " gap " ++ (class_text gap ++ (reserved_text reserved ++ (most_text most ++ codes ";\n")))))
item_text (Table role precedence symbol) =
    codes "table " ++ (role_word role ++ (codes " " ++ (precedence ++ (codes " " ++ (quoted symbol ++ codes ";\n")))))
item_text (Start s) = codes "start " ++ (s ++ codes ";\n")
item_text (Rule_item s v) = s ++ (codes " = " ++ (value_text v ++ codes ";\n"))

-- ---- a grammar

-- the characters of a printed grammar
abbrev pub characters_printed : Grammar → List ℕ
characters_printed g = flat_map item_text (items_of g)

-- the bytes of a printed grammar
abbrev pub printed : Grammar → List ℕ
printed g = encode_utf8_all (characters_printed g)

-- a printed grammar keeps the limits of a file on its length, 262,144 bytes, and on nesting
pub record PrintKeepsLimits (g : Grammar) : Type 0 where
  pub short : length (printed g) ≤ 262144
  pub shallow : AllByRecursion IsShallow (items_of g)
