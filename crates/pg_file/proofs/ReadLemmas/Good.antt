-- The tokens of a file as it is written are good ones.
use Rattle.std.proofs.Common.{ℕ, List, [], ◌∷◌, Option, Some, None}
use Rattle.pg_file_tokens.specs.Tokens.{Token, AreGood}
use Rattle.pg_file_items.specs.Tree.{Atom, Set, Range, Name, Not, Group, Class, Of, Atoms, No_atom, Or, Value, Of_class, String, Seq, Of_some, Of_one, Of_two, Between, Chain, Chain_symbol, Expression, Build, Build_symbol, Label, End_of_text, Word, Rule, Values, No_value, And, Item, Class_item, Word_item, Operators, Table, Start, Rule_item}
use Rattle.pg_file_items.specs.Syntax.{atom_written, class_written, atoms_written, written, written_list, written_more, literals_written, reserved_written, most_written, item_written, file_written}

mutual
  atom_good : (a : Atom) (rest : List Token) → AreGood rest → AreGood (atom_written a rest)
  atom_good (Set s) rest h = (tt, h)
  atom_good (Range low high) rest h = (tt, (tt, (tt, h)))
  atom_good (Name s) rest h = (tt, h)
  atom_good (Not a) rest h = (tt, atom_good a rest h)
  atom_good (Group c) rest h = (tt, class_good c _ (tt, h))

  class_good : (c : Class) (rest : List Token) → AreGood rest → AreGood (class_written c rest)
  class_good (Of a others) rest h = atom_good a (atoms_written others rest) (atoms_good others rest h)

  atoms_good : (others : Atoms) (rest : List Token) → AreGood rest → AreGood (atoms_written others rest)
  atoms_good No_atom rest h = h
  atoms_good (Or a others) rest h = (tt, atom_good a (atoms_written others rest) (atoms_good others rest h))

mutual
  value_good : (v : Value) (rest : List Token) → AreGood rest → AreGood (written v rest)
  value_good (Of_class form c) rest h = (tt, (tt, class_good c _ (tt, h)))
  value_good (String s) rest h = (tt, (tt, (tt, (tt, h))))
  value_good (Seq vs) rest h = (tt, (tt, list_good vs rest h))
  value_good (Of_some form v vs) rest h = (tt, (tt, value_good v (written_more vs rest) (more_good vs rest h)))
  value_good (Of_one form v) rest h = (tt, (tt, value_good v _ (tt, h)))
  value_good (Of_two form v separator) rest h = (tt, (tt, value_good v _ (tt, value_good separator _ (tt, h))))
  value_good (Between before after inner) rest h = (tt, (tt, value_good before _ (tt, value_good after _ (tt, value_good inner _ (tt, h)))))
  value_good (Chain form builder operand separator) rest h = (tt, (tt, (tt, (tt, value_good operand _ (tt, value_good separator _ (tt, h))))))
  value_good (Chain_symbol form builder symbol operand separator) rest h = (tt, (tt, (tt, (tt, (tt, (tt, value_good operand _ (tt, value_good separator _ (tt, h))))))))
  value_good (Expression infixes prefixes postfixes term) rest h = (tt, (tt, (tt, (tt, (tt, (tt, (tt, (tt, value_good term _ (tt, h)))))))))
  value_good (Build builder v) rest h = (tt, (tt, (tt, (tt, value_good v _ (tt, h)))))
  value_good (Build_symbol builder symbol v) rest h = (tt, (tt, (tt, (tt, (tt, (tt, value_good v _ (tt, h)))))))
  value_good (Label v message) rest h = (tt, (tt, value_good v _ (tt, (tt, (tt, h)))))
  value_good End_of_text rest h = (tt, h)
  value_good (Word s) rest h = (tt, (tt, (tt, (tt, h))))
  value_good (Rule s) rest h = (tt, h)

  list_good : (vs : Values) (rest : List Token) → AreGood rest → AreGood (written_list vs rest)
  list_good No_value rest h = (tt, h)
  list_good (And v vs) rest h = value_good v (written_more vs rest) (more_good vs rest h)

  more_good : (vs : Values) (rest : List Token) → AreGood rest → AreGood (written_more vs rest)
  more_good No_value rest h = (tt, h)
  more_good (And v vs) rest h = (tt, value_good v (written_more vs rest) (more_good vs rest h))

literals_good : (texts : List (List ℕ)) (rest : List Token) → AreGood rest → AreGood (literals_written texts rest)
literals_good [] rest h = h
literals_good (s ∷ texts) rest h = (tt, literals_good texts rest h)

reserved_good : (texts : List (List ℕ)) (rest : List Token) → AreGood rest → AreGood (reserved_written texts rest)
reserved_good [] rest h = h
reserved_good (s ∷ texts) rest h = (tt, (tt, literals_good texts rest h))

most_good : (most : Option (List ℕ)) (rest : List Token) → AreGood rest → AreGood (most_written most rest)
most_good None rest h = h
most_good (Some digits) rest h = (tt, (tt, h))

item_good : (item : Item) (rest : List Token) → AreGood rest → AreGood (item_written item rest)
item_good (Class_item s c) rest h = (tt, (tt, (tt, class_good c _ (tt, h))))
item_good (Word_item s head after reserved) rest h =
    (tt, (tt, (tt, class_good head _ (tt, class_good after _ (reserved_good reserved _ (tt, h))))))
item_good (Operators class gap reserved most) rest h =
    (tt, class_good class _ (tt, class_good gap _ (reserved_good reserved _ (most_good most _ (tt, h)))))
item_good (Table role precedence symbol) rest h = (tt, (tt, (tt, (tt, (tt, h)))))
item_good (Start s) rest h = (tt, (tt, (tt, h)))
item_good (Rule_item s v) rest h = (tt, (tt, value_good v _ (tt, h)))

-- all of them
pub file_good : (items : List Item) → AreGood (file_written items)
file_good [] = tt
file_good (item ∷ items) = item_good item (file_written items) (file_good items)
