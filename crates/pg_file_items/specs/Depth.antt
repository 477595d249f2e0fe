-- How deep the parentheses of a tree nest.
use Rattle.std.specs.Prelude.{◌≤◌, ℕ, suc, max}
use Rattle.pg_file_items.specs.Tree.{Atom, Set, Range, Name, Not, Group, Class, Of, Atoms, No_atom, Or, Value, Of_class, String, Seq, Of_some, Of_one, Of_two, Between, Chain, Chain_symbol, Expression, Build, Build_symbol, Label, End_of_text, Word, Rule, Values, No_value, And, Item, Class_item, Word_item, Operators, Table, Start, Rule_item}

abbrev mutual
  pub atom_depth : Atom → ℕ
  atom_depth (Set s) = 0
  atom_depth (Range low high) = 0
  atom_depth (Name s) = 0
  atom_depth (Not a) = atom_depth a
  atom_depth (Group c) = suc (class_depth c)

  pub class_depth : Class → ℕ
  class_depth (Of a others) = max (atom_depth a) (atoms_depth others)

  pub atoms_depth : Atoms → ℕ
  atoms_depth No_atom = 0
  atoms_depth (Or a others) = max (atom_depth a) (atoms_depth others)

abbrev mutual
  pub depth : Value → ℕ
  depth (Of_class form c) = suc (class_depth c)
  depth (String s) = 1
  depth (Seq vs) = suc (depths vs)
  depth (Of_some form v vs) = suc (max (depth v) (depths vs))
  depth (Of_one form v) = suc (depth v)
  depth (Of_two form v separator) = suc (max (depth v) (depth separator))
  depth (Between before after inner) = suc (max (depth before) (max (depth after) (depth inner)))
  depth (Chain form builder operand separator) = suc (max (depth operand) (depth separator))
  depth (Chain_symbol form builder symbol operand separator) = suc (max (depth operand) (depth separator))
  depth (Expression infixes prefixes postfixes term) = suc (depth term)
  depth (Build builder v) = suc (depth v)
  depth (Build_symbol builder symbol v) = suc (depth v)
  depth (Label v message) = suc (depth v)
  depth End_of_text = 0
  depth (Word s) = 1
  depth (Rule s) = 0

  pub depths : Values → ℕ
  depths No_value = 0
  depths (And v vs) = max (depth v) (depths vs)

-- how deep the parentheses of an item nest; at most 64 (`IsShallow`)
abbrev pub item_depth : Item → ℕ
item_depth (Class_item s c) = class_depth c
item_depth (Word_item s head after reserved) = max (class_depth head) (class_depth after)
item_depth (Operators class gap reserved most) = max (class_depth class) (class_depth gap)
item_depth (Table role precedence symbol) = 0
item_depth (Start s) = 0
item_depth (Rule_item s v) = depth v

-- parentheses nest at most 64 deep
abbrev pub IsShallow : Item → Type 0
IsShallow item = item_depth item ≤ 64
