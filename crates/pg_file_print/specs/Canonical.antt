-- A grammar as the tree that is printed: its items in groups by kind, each group in file order, with base forms alone. Names replace the grammar's
-- numbers, and parentheses stand only where a class expression needs them.
use Rattle.std.specs.Prelude.{ℕ, zero, suc, List, [], ◌∷◌, ◌++◌, map, take, drop, Option, Some, None}
use Rattle.std.specs.Str.{chars}
use Rattle.std.specs.Fmt.{decimal}
use Rattle.pg_grammar_form.specs.Names as names
use Rattle.pg_grammar_form.specs.Names.{name_at}
use Rattle.pg_grammar_form.specs.Classes.{member_count}
use Rattle.pg_grammar_form.specs.ClassItems.{item_name}
use Rattle.pg_grammar_form.specs.Operators as operators
use Rattle.pg_grammar_form.specs.Forms.{BaseForm, part_count}
use Rattle.pg_grammar_value.specs.Grammar.{Grammar, rule_names, forms_of}
use Rattle.pg_grammar_form.specs.declared.class.ClassPart.{ClassPart}
use Rattle.pg_grammar_form.specs.declared.class.ClassPart.TheVariants as part
use Rattle.pg_grammar_form.specs.declared.class_item.ClassItem.{ClassItem}
use Rattle.pg_grammar_form.specs.declared.form.Form.TheVariants as form
use Rattle.pg_grammar_form.specs.declared.form.Leaf.{Leaf}
use Rattle.pg_grammar_form.specs.declared.form.Leaf.TheVariants as leaf
use Rattle.pg_grammar_form.specs.declared.form.Around.{Around}
use Rattle.pg_grammar_form.specs.declared.form.Around.TheVariants as around
use Rattle.pg_grammar_form.specs.declared.side.Side.{Side}
use Rattle.pg_grammar_form.specs.declared.operators_item.OperatorsItem.{OperatorsItem}
use Rattle.pg_grammar_form.specs.declared.word_item.WordItem.{WordItem}
use Rattle.pg_file_items.specs.declared.words.ClassForm.TheVariants as class_form
use Rattle.pg_file_items.specs.declared.words.SomeForm.TheVariants as some_form
use Rattle.pg_file_items.specs.declared.words.OneForm.TheVariants as one_form
use Rattle.pg_file_items.specs.Tree.{Atom, Set, Range, Name, Not, Group, Class, Of, Atoms, No_atom, Or, Value, Of_class, String, Seq, Of_some, Of_one, Chain, Chain_symbol, Expression, Build, Build_symbol, Label, End_of_text, Word, Rule, Values, No_value, And, Item, Class_item, Word_item, Operators, Table, Start, Rule_item}

-- ---- class expressions

abbrev pub atoms_from : List Atom → Atoms
atoms_from [] = No_atom
atoms_from (a ∷ others) = Or a (atoms_from others)

-- the union of atoms; without atoms the empty set
abbrev pub union_of : List Atom → Class
union_of [] = Of (Set []) No_atom
union_of (a ∷ others) = Of a (atoms_from others)

-- the first atom, or the empty set if there is none
abbrev pub first_atom : List Atom → Atom
first_atom [] = Set []
first_atom (a ∷ others) = a

-- the atom of a part, given the atoms of its members and the names of the class items; a union gets parentheses
abbrev pub atom_of : List names.Name → ClassPart → List Atom → Atom
atom_of items (part.Literal s) members = Set s
atom_of items (part.Range low high) members = Range low high
atom_of items (part.Union n) members = Group (union_of members)
atom_of items part.Complement members = Not (first_atom members)
atom_of items (part.Class k) members = Name (name_at items k)
atom_of items (part.Predicate used) members = Name (chars used.name)

-- the atoms of the whole expressions that the parts spell, from left to right
abbrev pub atoms_of : List names.Name → List ClassPart → List Atom
atoms_of items [] = []
atoms_of items (p ∷ parts) = atom_of items p (take (member_count p) (atoms_of items parts)) ∷ drop (member_count p) (atoms_of items parts)

-- an atom as a whole class expression, without parentheses around it
abbrev pub whole_class : Atom → Class
whole_class (Set s) = Of (Set s) No_atom
whole_class (Range low high) = Of (Range low high) No_atom
whole_class (Name s) = Of (Name s) No_atom
whole_class (Not a) = Of (Not a) No_atom
whole_class (Group c) = c

-- the class expression that the parts spell
abbrev pub class_from : List names.Name → List ClassPart → Class
class_from items parts = whole_class (first_atom (atoms_of items parts))

-- ---- values

abbrev pub values_from : List Value → Values
values_from [] = No_value
values_from (v ∷ others) = And v (values_from others)

-- the value with an index, or `seq()` if there is none
abbrev pub value_at : ℕ → List Value → Value
value_at k [] = Seq No_value
value_at zero (v ∷ others) = v
value_at (suc k) (v ∷ others) = value_at k others

-- one of the values, tried in order
abbrev pub choice_from : List Value → Value
choice_from [] = Of_some some_form.Choice (Seq No_value) No_value
choice_from (v ∷ others) = Of_some some_form.Choice v (values_from others)

-- a builder with its symbol, which is omitted if it is empty
abbrev pub build_from : List ℕ → List ℕ → Value → Value
build_from builder [] v = Build builder v
build_from builder (c ∷ symbol) v = Build_symbol builder (c ∷ symbol) v

-- a chain with its symbol, which is omitted if it is empty
abbrev pub chain_from : Side → List ℕ → List ℕ → Value → Value → Value
chain_from side builder [] operand separator = Chain side builder operand separator
chain_from side builder (c ∷ symbol) operand separator = Chain_symbol side builder (c ∷ symbol) operand separator

-- the value of a leaf, given the names of the class items
abbrev pub leaf_value : List names.Name → Leaf names.Name → Value
leaf_value items (leaf.Satisfy class) = Of_class class_form.Satisfy (class_from items class)
leaf_value items (leaf.String s) = String s
leaf_value items (leaf.Word s) = Word s
leaf_value items (leaf.NotFollowedBy class) = Of_class class_form.NotFollowedBy (class_from items class)
leaf_value items leaf.EndOfText = End_of_text
leaf_value items (leaf.Declare class) = Of_class class_form.Declare (class_from items class)

-- the value of a form around a part, given the value of the part
abbrev pub around_value : Around → Value → Value
around_value around.Try part = Of_some some_form.Try part No_value
around_value around.Text part = Of_one one_form.Text part
around_value around.Skip part = Of_one one_form.Skip part
around_value (around.Build used symbol) part = build_from (chars used.name) (chars symbol) part
around_value (around.Label message) part = Label part message
around_value around.Local part = Of_some some_form.Local part No_value

-- the value of a base form, given the values of its parts and the names of the class items
abbrev pub value_of_form : List names.Name → BaseForm → List Value → Value
value_of_form items (form.Leaf leaf) parts = leaf_value items leaf
value_of_form items (form.Seq n) parts = Seq (values_from parts)
value_of_form items (form.Choice n) parts = choice_from parts
value_of_form items (form.Many part) parts = Of_one one_form.Many (value_at 0 parts)
value_of_form items (form.Chain side used operand separator) parts = chain_from side (chars used.name) (chars used.symbol) (value_at 0 parts) (value_at 1 parts)
value_of_form items (form.Rule s) parts = Rule s
value_of_form items (form.Expression builders part) parts = Expression (chars builders.«infix».name) (chars builders.prefix.name) (chars builders.postfix.name) (value_at 0 parts)
value_of_form items (form.Around around part) parts = around_value around (value_at 0 parts)

-- the values that the base forms spell, from left to right
abbrev pub values_of : List names.Name → List BaseForm → List Value
values_of items [] = []
values_of items (form ∷ forms) = value_of_form items form (take (part_count form) (values_of items forms)) ∷ drop (part_count form) (values_of items forms)

-- ---- items

-- the names of the class items
abbrev pub class_names : Grammar → List names.Name
class_names g = map item_name g.classes

abbrev pub class_item : List names.Name → ClassItem → Item
class_item items item = Class_item item.name (class_from items item.class)

abbrev pub word_item : List names.Name → WordItem → Item
word_item items item = Word_item item.name (class_from items item.head) (class_from items item.rest) item.reserved

-- the operators item; the limit on operators is always printed
abbrev pub operators_item : List names.Name → OperatorsItem → Item
operators_item items item = Operators (class_from items item.class) (class_from items item.gap) item.reserved (Some (decimal item.max))

abbrev pub operators_items : List names.Name → Option OperatorsItem → List Item
operators_items items None = []
operators_items items (Some item) = operators_item items item ∷ []

abbrev pub table_item : operators.Operator → Item
table_item operator = Table operator.role (decimal operator.precedence) operator.symbol

-- the rules with these names and bodies
abbrev pub rule_items : List names.Name → List Value → List Item
rule_items [] values = []
rule_items (s ∷ rules) [] = []
rule_items (s ∷ rules) (v ∷ values) = Rule_item s v ∷ rule_items rules values

-- the items of a grammar: classes, words, operators, the table, the start, the rules
abbrev pub items_of : Grammar → List Item
items_of g =
    map (class_item (class_names g)) g.classes
    ++ (map (word_item (class_names g)) g.words
    ++ (operators_items (class_names g) g.operators
    ++ (map table_item g.initials
    ++ (Start (name_at (rule_names g) g.start) ∷ rule_items (rule_names g) (values_of (class_names g) (forms_of g))))))
