-- The tokens of a tree as it is written.
use Rattle.std.specs.Prelude.{ℕ, List, [], ◌∷◌, Option, Some, None, codes}
use Rattle.pg_grammar_form.specs.declared.decl.Role.{Role}
use Rattle.pg_grammar_form.specs.declared.decl.Role.TheVariants.{InfixLeft, InfixRight, InfixNone, Prefix, Postfix}
use Rattle.pg_file_items.specs.declared.words.ClassForm.{ClassForm}
use Rattle.pg_file_items.specs.declared.words.ClassForm.TheVariants.{Satisfy, NotFollowedBy, Declare}
use Rattle.pg_file_items.specs.declared.words.SomeForm.{SomeForm}
use Rattle.pg_file_items.specs.declared.words.SomeForm.TheVariants.{Choice, Try, Local}
use Rattle.pg_file_items.specs.declared.words.OneForm.{OneForm}
use Rattle.pg_file_items.specs.declared.words.OneForm.TheVariants as one
use Rattle.pg_file_items.specs.declared.words.TwoForm.{TwoForm}
use Rattle.pg_file_items.specs.declared.words.TwoForm.TheVariants.{SepBy, SepBy1, EndBy}
use Rattle.pg_grammar_form.specs.declared.side.Side.{Side}
use Rattle.pg_grammar_form.specs.declared.side.Side.TheVariants.{Left, Right}
use Rattle.pg_file_tokens.specs.declared.token.Mark.TheVariants.{Open, Close, Comma, Semicolon, Equals, Bar, Dots}
use Rattle.pg_file_tokens.specs.Tokens.{Token, name, number, literal, mark}
use Rattle.pg_file_items.specs.Tree.{Atom, Set, Range, Name, Not, Group, Class, Of, Atoms, No_atom, Or, Value, Of_class, String, Seq, Of_some, Of_one, Of_two, Between, Chain, Chain_symbol, Expression, Build, Build_symbol, Label, End_of_text, Word, Rule, Values, No_value, And, Item, Class_item, Word_item, Operators, Table, Start, Rule_item}

-- ---- words

abbrev pub class_word : ClassForm → List ℕ
class_word Satisfy = codes "satisfy"
class_word NotFollowedBy = codes "notFollowedBy"
class_word Declare = codes "declare"

abbrev pub some_word : SomeForm → List ℕ
some_word Choice = codes "choice"
some_word Try = codes "try"
some_word Local = codes "local"

abbrev pub one_word : OneForm → List ℕ
one_word one.Many = codes "many"
one_word one.Many1 = codes "many1"
one_word one.Option = codes "option"
one_word one.Text = codes "text"
one_word one.Skip = codes "skip"

abbrev pub two_word : TwoForm → List ℕ
two_word SepBy = codes "sepBy"
two_word SepBy1 = codes "sepBy1"
two_word EndBy = codes "endBy"

abbrev pub chain_word : Side → List ℕ
chain_word Left = codes "chainl1"
chain_word Right = codes "chainr1"

abbrev pub role_word : Role → List ℕ
role_word InfixLeft = codes "infixl"
role_word InfixRight = codes "infixr"
role_word InfixNone = codes "infix"
role_word Prefix = codes "prefix"
role_word Postfix = codes "postfix"

-- ---- class expressions, each before a rest of tokens

abbrev mutual
  pub atom_written : Atom → List Token → List Token
  atom_written (Set s) rest = literal s ∷ rest
  atom_written (Range low high) rest = literal (low ∷ []) ∷ mark Dots ∷ literal (high ∷ []) ∷ rest
  atom_written (Name s) rest = name s ∷ rest
  atom_written (Not a) rest = name (codes "not") ∷ atom_written a rest
  atom_written (Group c) rest = mark Open ∷ class_written c (mark Close ∷ rest)

  pub class_written : Class → List Token → List Token
  class_written (Of a others) rest = atom_written a (atoms_written others rest)

  -- the further atoms, each after a `|`
  pub atoms_written : Atoms → List Token → List Token
  atoms_written No_atom rest = rest
  atoms_written (Or a others) rest = mark Bar ∷ atom_written a (atoms_written others rest)

-- ---- values, each before a rest of tokens

-- a word and its opening parenthesis
abbrev pub opened : List ℕ → List Token → List Token
opened word rest = name word ∷ mark Open ∷ rest

abbrev mutual
  pub written : Value → List Token → List Token
  written (Of_class form c) rest = opened (class_word form) (class_written c (mark Close ∷ rest))
  written (String s) rest = opened (codes "string") (literal s ∷ mark Close ∷ rest)
  written (Seq vs) rest = opened (codes "seq") (written_list vs rest)
  written (Of_some form v vs) rest = opened (some_word form) (written v (written_more vs rest))
  written (Of_one form v) rest = opened (one_word form) (written v (mark Close ∷ rest))
  written (Of_two form v separator) rest = opened (two_word form) (written v (mark Comma ∷ written separator (mark Close ∷ rest)))
  written (Between before after inner) rest =
      opened (codes "between") (written before (mark Comma ∷ written after (mark Comma ∷ written inner (mark Close ∷ rest))))
  written (Chain side builder operand separator) rest =
      opened (chain_word side) (name builder ∷ mark Comma ∷ written operand (mark Comma ∷ written separator (mark Close ∷ rest)))
  written (Chain_symbol side builder symbol operand separator) rest =
      opened (chain_word side) (name builder ∷ mark Comma ∷ literal symbol ∷ mark Comma ∷ written operand (mark Comma ∷ written separator (mark Close ∷ rest)))
  written (Expression infixes prefixes postfixes term) rest =
      opened (codes "expr") (name infixes ∷ mark Comma ∷ name prefixes ∷ mark Comma ∷ name postfixes ∷ mark Comma ∷ written term (mark Close ∷ rest))
  written (Build builder v) rest = opened (codes "build") (name builder ∷ mark Comma ∷ written v (mark Close ∷ rest))
  written (Build_symbol builder symbol v) rest =
      opened (codes "build") (name builder ∷ mark Comma ∷ literal symbol ∷ mark Comma ∷ written v (mark Close ∷ rest))
  written (Label v message) rest = opened (codes "label") (written v (mark Comma ∷ literal message ∷ mark Close ∷ rest))
  written End_of_text rest = name (codes "eof") ∷ rest
  written (Word s) rest = opened (codes "word") (name s ∷ mark Close ∷ rest)
  written (Rule s) rest = name s ∷ rest

  -- values and the closing parenthesis, after the opening one
  pub written_list : Values → List Token → List Token
  written_list No_value rest = mark Close ∷ rest
  written_list (And v vs) rest = written v (written_more vs rest)

  -- the further values, each after a comma, and the closing parenthesis
  pub written_more : Values → List Token → List Token
  written_more No_value rest = mark Close ∷ rest
  written_more (And v vs) rest = mark Comma ∷ written v (written_more vs rest)

-- ---- items, each before a rest of tokens

abbrev pub literals_written : List (List ℕ) → List Token → List Token
literals_written [] rest = rest
literals_written (s ∷ texts) rest = literal s ∷ literals_written texts rest

-- the word `reserved` and the reserved texts, if there are any
abbrev pub reserved_written : List (List ℕ) → List Token → List Token
reserved_written [] rest = rest
reserved_written (s ∷ texts) rest = name (codes "reserved") ∷ literals_written (s ∷ texts) rest

-- the word `max` and the limit on operators, if it is given
abbrev pub most_written : Option (List ℕ) → List Token → List Token
most_written None rest = rest
most_written (Some digits) rest = name (codes "max") ∷ number digits ∷ rest

abbrev pub item_written : Item → List Token → List Token
item_written (Class_item s c) rest = name (codes "class") ∷ name s ∷ mark Equals ∷ class_written c (mark Semicolon ∷ rest)
item_written (Word_item s head after reserved) rest =
    name (codes "word") ∷ name s ∷ name (codes "head") ∷ class_written head (name (codes "rest") ∷ class_written after (reserved_written reserved (mark Semicolon ∷ rest)))
item_written (Operators class gap reserved most) rest =
    name (codes "operators") ∷ class_written class (name (codes "gap") ∷ class_written gap (reserved_written reserved (most_written most (mark Semicolon ∷ rest))))
item_written (Table role precedence symbol) rest =
    name (codes "table") ∷ name (role_word role) ∷ number precedence ∷ literal symbol ∷ mark Semicolon ∷ rest
item_written (Start s) rest = name (codes "start") ∷ name s ∷ mark Semicolon ∷ rest
item_written (Rule_item s v) rest = name s ∷ mark Equals ∷ written v (mark Semicolon ∷ rest)

-- items, one after another
abbrev pub file_written : List Item → List Token
file_written [] = []
file_written (item ∷ items) = item_written item (file_written items)
