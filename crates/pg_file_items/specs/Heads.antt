-- Trees in preorder: one head for each form as it is written, and one part for each atom, complement and union.
use Rattle.std.specs.Prelude.{ℕ, suc, List, [], ◌∷◌, ◌++◌, Option, Some, None}
use Rattle.pg_file_items.specs.declared.written.WrittenPart.{WrittenPart}
use Rattle.pg_file_items.specs.declared.written.WrittenPart.TheVariants as part
use Rattle.pg_file_items.specs.declared.written.WrittenForm.{WrittenForm}
use Rattle.pg_file_items.specs.declared.written.WrittenForm.TheVariants as written
use Rattle.pg_file_items.specs.Tree.{Atom, Set, Range, Name, Not, Group, Class, Of, Atoms, No_atom, Or, Value, Of_class, String, Seq, Of_some, Of_one, Of_two, Between, Chain, Chain_symbol, Expression, Build, Build_symbol, Label, End_of_text, Word, Rule, Values, No_value, And, Item, Class_item, Word_item, Operators, Table, Start, Rule_item}
use Rattle.pg_file_items.specs.Proper.{value_of}
use Rattle.pg_file_items.specs.Entries.{Entry, class, word, operators, table, start, rule}

-- how many atoms there are
abbrev pub atom_count : Atoms → ℕ
atom_count No_atom = 0
atom_count (Or a others) = suc (atom_count others)

abbrev mutual
  pub atom_parts : Atom → List WrittenPart
  atom_parts (Set s) = part.Literal s ∷ []
  atom_parts (Range low high) = part.Range low high ∷ []
  atom_parts (Name s) = part.Named s ∷ []
  atom_parts (Not a) = part.Complement ∷ atom_parts a
  atom_parts (Group c) = class_parts c

  -- a single atom as it is, several as a union
  pub class_parts : Class → List WrittenPart
  class_parts (Of a No_atom) = atom_parts a
  class_parts (Of a (Or b others)) = part.Union (suc (suc (atom_count others))) ∷ (atom_parts a ++ (atom_parts b ++ atoms_parts others))

  pub atoms_parts : Atoms → List WrittenPart
  atoms_parts No_atom = []
  atoms_parts (Or a others) = atom_parts a ++ atoms_parts others

-- how many values there are
abbrev pub value_count : Values → ℕ
value_count No_value = 0
value_count (And v vs) = suc (value_count vs)

abbrev mutual
  -- the heads of a value; a builder that is written without a symbol has the empty one
  pub heads : Value → List WrittenForm
  heads (Of_class form c) = written.OfClass form (class_parts c) ∷ []
  heads (String s) = written.String s ∷ []
  heads (Seq vs) = written.Seq (value_count vs) ∷ all_heads vs
  heads (Of_some form v vs) = written.OfSome form (suc (value_count vs)) ∷ (heads v ++ all_heads vs)
  heads (Of_one form v) = written.OfOne form ∷ heads v
  heads (Of_two form v separator) = written.OfTwo form ∷ (heads v ++ heads separator)
  heads (Between before after inner) = written.Between ∷ (heads before ++ (heads after ++ heads inner))
  heads (Chain form builder operand separator) = written.Chain form builder [] ∷ (heads operand ++ heads separator)
  heads (Chain_symbol form builder symbol operand separator) = written.Chain form builder symbol ∷ (heads operand ++ heads separator)
  heads (Expression infixes prefixes postfixes term) = written.Expression infixes prefixes postfixes ∷ heads term
  heads (Build builder v) = written.Build builder [] ∷ heads v
  heads (Build_symbol builder symbol v) = written.Build builder symbol ∷ heads v
  heads (Label v message) = written.Label message ∷ heads v
  heads End_of_text = written.EndOfText ∷ []
  heads (Word s) = written.Word s ∷ []
  heads (Rule s) = written.Rule s ∷ []

  -- the heads of several values, one after another
  pub all_heads : Values → List WrittenForm
  all_heads No_value = []
  all_heads (And v vs) = heads v ++ all_heads vs

-- the number that is written, if there is one
abbrev pub most_of : Option (List ℕ) → Option ℕ
most_of None = None
most_of (Some digits) = Some (value_of digits)

abbrev pub entry_of_item : Item → Entry
entry_of_item (Class_item s c) = class s (class_parts c)
entry_of_item (Word_item s head after reserved) = word s (class_parts head) (class_parts after) reserved
entry_of_item (Operators c gap reserved most) = operators (class_parts c) (class_parts gap) reserved (most_of most)
entry_of_item (Table role precedence symbol) = table role (value_of precedence) symbol
entry_of_item (Start s) = start s
entry_of_item (Rule_item s v) = rule s (heads v)
