-- The tokens of a construct, laid out, are its text.
use Rattle.std.proofs.Common.{◌≡◌, ℕ, Bool, true, false, List, [], ◌∷◌, ◌++◌, Option, Some, None, codes, refl, ap, ◌∙◌, append_assoc}
use Rattle.std.specs.List.{flat_map}
use Rattle.pg_file_tokens.specs.declared.token.Mark.TheVariants.{Close, Comma, Semicolon}
use Rattle.pg_file_tokens.specs.Tokens.{Token, name, literal, mark}
use Rattle.pg_grammar_value.specs.Grammar.{Grammar}
use Rattle.pg_grammar_form.specs.declared.decl.Role.TheVariants.{InfixLeft, InfixRight, InfixNone, Prefix, Postfix}
use Rattle.pg_file_items.specs.declared.words.ClassForm.TheVariants.{Satisfy, NotFollowedBy, Declare}
use Rattle.pg_file_items.specs.declared.words.SomeForm.TheVariants.{Choice, Try, Local}
use Rattle.pg_file_items.specs.declared.words.OneForm.TheVariants as one
use Rattle.pg_file_items.specs.declared.words.TwoForm.TheVariants.{SepBy, SepBy1, EndBy}
use Rattle.pg_grammar_form.specs.declared.side.Side.TheVariants.{Left, Right}
use Rattle.pg_file_items.specs.declared.words.ClassForm.{ClassForm}
use Rattle.pg_file_items.specs.declared.words.SomeForm.{SomeForm}
use Rattle.pg_file_items.specs.declared.words.OneForm.{OneForm}
use Rattle.pg_file_items.specs.declared.words.TwoForm.{TwoForm}
use Rattle.pg_grammar_form.specs.declared.side.Side.{Side}
use Rattle.pg_file_items.specs.Tree.{Atom, Set, Range, Name, Not, Group, Class, Of, Atoms, No_atom, Or, Value, Of_class, String, Seq, Of_some, Of_one, Of_two, Between, Chain, Chain_symbol, Expression, Build, Build_symbol, Label, End_of_text, Word, Rule, Values, No_value, And, Item, Class_item, Word_item, Operators, Table, Start, Rule_item}
use Rattle.pg_file_items.specs.Syntax.{class_word, some_word, one_word, two_word, chain_word, atom_written, class_written, atoms_written, opened, written, written_list, written_more, literals_written, reserved_written, most_written, item_written, file_written}
use Rattle.pg_file_print.specs.declared.layout.Edge.{Edge}
use Rattle.pg_file_print.specs.declared.layout.Edge.TheVariants as edge
use Rattle.pg_file_print.specs.Canonical.{items_of}
use Rattle.pg_file_print.specs.Printed.{quoted, atom_text, class_text, others_text, form_text, with_more, value_text, values_text, more_text, literals_text, reserved_text, most_text, item_text, characters_printed}
use Rattle.pg_file_print.specs.Layout.{comes_before_class, edge_after, space, opening_space, laid_out}

-- ---- class expressions

-- no word stands at the end, so a parenthesis has the space that anything has
abbrev IsNoWord : Edge → Type 0
IsNoWord edge.Tight = Unit {0}
IsNoWord edge.Word = ⊥
IsNoWord edge.Loose = Unit {0}

no_word : (e : Edge) → IsNoWord e → opening_space e ≡ space e
no_word edge.Tight h = refl
no_word edge.Word h = absurd h
no_word edge.Loose h = refl

-- what the text ends with, after an atom
abbrev atom_edge : Atom → Edge
atom_edge (Set s) = edge.Loose
atom_edge (Range low high) = edge.Loose
atom_edge (Name s) = edge_after (name s)
atom_edge (Not a) = atom_edge a
atom_edge (Group c) = edge.Loose

abbrev others_edge : Edge → Atoms → Edge
others_edge e No_atom = e
others_edge e (Or a others) = others_edge (atom_edge a) others

abbrev class_edge : Class → Edge
class_edge (Of a others) = others_edge (atom_edge a) others

name_spaced : (s : List ℕ) → space (edge_after (name s)) ≡ 32 ∷ []
name_spaced s = go (comes_before_class s) refl where
  go : (b : Bool) → comes_before_class s ≡ b → space (edge_after (name s)) ≡ 32 ∷ []
  go true e = rw e refl
  go false e = rw e refl

atom_spaced : (a : Atom) → space (atom_edge a) ≡ 32 ∷ []
atom_spaced (Set s) = refl
atom_spaced (Range low high) = refl
atom_spaced (Name s) = name_spaced s
atom_spaced (Not a) = atom_spaced a
atom_spaced (Group c) = refl

others_spaced : (e : Edge) (others : Atoms) → space e ≡ 32 ∷ [] → space (others_edge e others) ≡ 32 ∷ []
others_spaced e No_atom h = h
others_spaced e (Or a others) h = others_spaced (atom_edge a) others (atom_spaced a)

class_spaced : (c : Class) → space (class_edge c) ≡ 32 ∷ []
class_spaced (Of a others) = others_spaced (atom_edge a) others (atom_spaced a)

mutual
  atom_laid : (e : Edge) → IsNoWord e → (a : Atom) (rest : List Token)
      → laid_out e (atom_written a rest) ≡ space e ++ (atom_text a ++ laid_out (atom_edge a) rest)
  atom_laid e h (Set s) rest = refl
  atom_laid e h (Range low high) rest = simp append_assoc
  atom_laid e h (Name s) rest = refl
  atom_laid e h (Not a) rest = ap (λ (t : List ℕ). space e ++ (codes "not" ++ t)) (atom_laid edge.Loose tt a rest)
  atom_laid e h (Group c) rest =
      ap (λ (t : List ℕ). t ++ (codes "(" ++ laid_out edge.Tight (class_written c (mark Close ∷ rest)))) (no_word e h)
      ∙ ap (λ (t : List ℕ). space e ++ (codes "(" ++ t)) (class_laid edge.Tight tt c (mark Close ∷ rest))
      ∙ simp append_assoc

  class_laid : (e : Edge) → IsNoWord e → (c : Class) (rest : List Token)
      → laid_out e (class_written c rest) ≡ space e ++ (class_text c ++ laid_out (class_edge c) rest)
  class_laid e h (Of a others) rest =
      atom_laid e h a (atoms_written others rest)
      ∙ ap (λ (t : List ℕ). space e ++ (atom_text a ++ t)) (others_laid (atom_edge a) (atom_spaced a) others rest)
      ∙ simp append_assoc

  others_laid : (e : Edge) → space e ≡ 32 ∷ [] → (others : Atoms) (rest : List Token)
      → laid_out e (atoms_written others rest) ≡ others_text others ++ laid_out (others_edge e others) rest
  others_laid e h No_atom rest = refl
  others_laid e h (Or a others) rest =
      ap (λ (t : List ℕ). t ++ (codes "|" ++ laid_out edge.Loose (atom_written a (atoms_written others rest)))) h
      ∙ ap (λ (t : List ℕ). codes " |" ++ t) (atom_laid edge.Loose tt a (atoms_written others rest))
      ∙ ap (λ (t : List ℕ). codes " | " ++ (atom_text a ++ t)) (others_laid (atom_edge a) (atom_spaced a) others rest)
      ∙ simp append_assoc

-- ---- values

-- what the text ends with, after a value
abbrev value_edge : Value → Edge
value_edge End_of_text = edge_after (name (codes "eof"))
value_edge (Rule s) = edge_after (name s)
value_edge _ = edge.Loose

-- a form whose arguments have this text
form_laid : (e : Edge) (word arguments : List ℕ) (inner rest : List Token) → comes_before_class word ≡ false
    → laid_out edge.Tight inner ≡ arguments ++ (codes ")" ++ laid_out edge.Loose rest)
    → laid_out e (opened word inner) ≡ space e ++ (form_text word arguments ++ laid_out edge.Loose rest)
form_laid e word arguments inner rest plain h =
    rw plain (ap (λ (t : List ℕ). space e ++ (word ++ (codes "(" ++ t))) h ∙ simp append_assoc)

-- an argument, and what comes after it
more_laid : (argument others : List ℕ) (inner rest : List Token) (e : Edge)
    → laid_out edge.Loose inner ≡ codes " " ++ (others ++ (codes ")" ++ laid_out edge.Loose rest))
    → argument ++ laid_out e (mark Comma ∷ inner) ≡ with_more argument others ++ (codes ")" ++ laid_out edge.Loose rest)
more_laid argument others inner rest e h = ap (λ (t : List ℕ). argument ++ (codes "," ++ t)) h ∙ simp append_assoc

class_plain : (form : ClassForm) → comes_before_class (class_word form) ≡ false
class_plain Satisfy = refl
class_plain NotFollowedBy = refl
class_plain Declare = refl

some_plain : (form : SomeForm) → comes_before_class (some_word form) ≡ false
some_plain Choice = refl
some_plain Try = refl
some_plain Local = refl

one_plain : (form : OneForm) → comes_before_class (one_word form) ≡ false
one_plain one.Many = refl
one_plain one.Many1 = refl
one_plain one.Option = refl
one_plain one.Text = refl
one_plain one.Skip = refl

two_plain : (form : TwoForm) → comes_before_class (two_word form) ≡ false
two_plain SepBy = refl
two_plain SepBy1 = refl
two_plain EndBy = refl

chain_plain : (side : Side) → comes_before_class (chain_word side) ≡ false
chain_plain Left = refl
chain_plain Right = refl

mutual
  value_laid : (e : Edge) (v : Value) (rest : List Token)
      → laid_out e (written v rest) ≡ space e ++ (value_text v ++ laid_out (value_edge v) rest)
  value_laid e (Of_class form c) rest =
      form_laid e (class_word form) (class_text c) (class_written c (mark Close ∷ rest)) rest (class_plain form) (class_laid edge.Tight tt c (mark Close ∷ rest))
  value_laid e (String s) rest = form_laid e (codes "string") (quoted s) (literal s ∷ mark Close ∷ rest) rest refl refl
  value_laid e (Seq vs) rest = form_laid e (codes "seq") (values_text vs) (written_list vs rest) rest refl (list_laid vs rest)
  value_laid e (Of_some form v vs) rest =
      form_laid e (some_word form) (value_text v ++ more_text vs) (written v (written_more vs rest)) rest (some_plain form)
      (value_laid edge.Tight v (written_more vs rest) ∙ ap (λ (t : List ℕ). value_text v ++ t) (rest_laid (value_edge v) vs rest) ∙ simp append_assoc)
  value_laid e (Of_one form v) rest =
      form_laid e (one_word form) (value_text v) (written v (mark Close ∷ rest)) rest (one_plain form) (value_laid edge.Tight v (mark Close ∷ rest))
  value_laid e (Of_two form v separator) rest =
      form_laid e (two_word form) (with_more (value_text v) (value_text separator)) (written v (mark Comma ∷ written separator (mark Close ∷ rest))) rest (two_plain form)
      (value_laid edge.Tight v (mark Comma ∷ written separator (mark Close ∷ rest))
      ∙ more_laid (value_text v) (value_text separator) (written separator (mark Close ∷ rest)) rest (value_edge v) (value_laid edge.Loose separator (mark Close ∷ rest)))
  value_laid e (Between before following inner) rest =
      let others = with_more (value_text following) (value_text inner) in
      let tokens = mark Comma ∷ written inner (mark Close ∷ rest) in
      form_laid e (codes "between") (with_more (value_text before) others) (written before (mark Comma ∷ written following tokens)) rest refl
      (value_laid edge.Tight before (mark Comma ∷ written following tokens)
      ∙ more_laid (value_text before) others (written following tokens) rest (value_edge before)
      (value_laid edge.Loose following tokens
      ∙ ap (λ (t : List ℕ). codes " " ++ t)
      (more_laid (value_text following) (value_text inner) (written inner (mark Close ∷ rest)) rest (value_edge following)
      (value_laid edge.Loose inner (mark Close ∷ rest)))))
  value_laid e (Chain side builder operand separator) rest =
      let tokens = mark Comma ∷ written separator (mark Close ∷ rest) in
      form_laid e (chain_word side) (with_more builder (with_more (value_text operand) (value_text separator))) (name builder ∷ mark Comma ∷ written operand tokens) rest
      (chain_plain side)
      (more_laid builder (with_more (value_text operand) (value_text separator)) (written operand tokens) rest (edge_after (name builder))
      (value_laid edge.Loose operand tokens
      ∙ ap (λ (t : List ℕ). codes " " ++ t)
      (more_laid (value_text operand) (value_text separator) (written separator (mark Close ∷ rest)) rest (value_edge operand)
      (value_laid edge.Loose separator (mark Close ∷ rest)))))
  value_laid e (Chain_symbol side builder symbol operand separator) rest =
      let tokens = mark Comma ∷ written separator (mark Close ∷ rest) in
      let values = with_more (value_text operand) (value_text separator) in
      form_laid e (chain_word side) (with_more builder (with_more (quoted symbol) values)) (name builder ∷ mark Comma ∷ literal symbol ∷ mark Comma ∷ written operand tokens) rest
      (chain_plain side)
      (more_laid builder (with_more (quoted symbol) values) (literal symbol ∷ mark Comma ∷ written operand tokens) rest (edge_after (name builder))
      (ap (λ (t : List ℕ). codes " " ++ t)
      (more_laid (quoted symbol) values (written operand tokens) rest edge.Loose
      (value_laid edge.Loose operand tokens
      ∙ ap (λ (t : List ℕ). codes " " ++ t)
      (more_laid (value_text operand) (value_text separator) (written separator (mark Close ∷ rest)) rest (value_edge operand)
      (value_laid edge.Loose separator (mark Close ∷ rest)))))))
  value_laid e (Expression infixes prefixes postfixes term) rest =
      let last = written term (mark Close ∷ rest) in
      form_laid e (codes "expr") (with_more infixes (with_more prefixes (with_more postfixes (value_text term))))
      (name infixes ∷ mark Comma ∷ name prefixes ∷ mark Comma ∷ name postfixes ∷ mark Comma ∷ last) rest refl
      (more_laid infixes (with_more prefixes (with_more postfixes (value_text term))) (name prefixes ∷ mark Comma ∷ name postfixes ∷ mark Comma ∷ last) rest
      (edge_after (name infixes))
      (ap (λ (t : List ℕ). codes " " ++ t)
      (more_laid prefixes (with_more postfixes (value_text term)) (name postfixes ∷ mark Comma ∷ last) rest (edge_after (name prefixes))
      (ap (λ (t : List ℕ). codes " " ++ t)
      (more_laid postfixes (value_text term) last rest (edge_after (name postfixes)) (value_laid edge.Loose term (mark Close ∷ rest)))))))
  value_laid e (Build builder v) rest =
      form_laid e (codes "build") (with_more builder (value_text v)) (name builder ∷ mark Comma ∷ written v (mark Close ∷ rest)) rest refl
      (more_laid builder (value_text v) (written v (mark Close ∷ rest)) rest (edge_after (name builder)) (value_laid edge.Loose v (mark Close ∷ rest)))
  value_laid e (Build_symbol builder symbol v) rest =
      form_laid e (codes "build") (with_more builder (with_more (quoted symbol) (value_text v)))
      (name builder ∷ mark Comma ∷ literal symbol ∷ mark Comma ∷ written v (mark Close ∷ rest)) rest refl
      (more_laid builder (with_more (quoted symbol) (value_text v)) (literal symbol ∷ mark Comma ∷ written v (mark Close ∷ rest)) rest (edge_after (name builder))
      (ap (λ (t : List ℕ). codes " " ++ t)
      (more_laid (quoted symbol) (value_text v) (written v (mark Close ∷ rest)) rest edge.Loose (value_laid edge.Loose v (mark Close ∷ rest)))))
  value_laid e (Label v message) rest =
      form_laid e (codes "label") (with_more (value_text v) (quoted message)) (written v (mark Comma ∷ literal message ∷ mark Close ∷ rest)) rest refl
      (value_laid edge.Tight v (mark Comma ∷ literal message ∷ mark Close ∷ rest)
      ∙ more_laid (value_text v) (quoted message) (literal message ∷ mark Close ∷ rest) rest (value_edge v) refl)
  value_laid e End_of_text rest = refl
  value_laid e (Word s) rest = form_laid e (codes "word") s (name s ∷ mark Close ∷ rest) rest refl refl
  value_laid e (Rule s) rest = refl

  list_laid : (vs : Values) (rest : List Token) → laid_out edge.Tight (written_list vs rest) ≡ values_text vs ++ (codes ")" ++ laid_out edge.Loose rest)
  list_laid No_value rest = refl
  list_laid (And v vs) rest =
      value_laid edge.Tight v (written_more vs rest) ∙ ap (λ (t : List ℕ). value_text v ++ t) (rest_laid (value_edge v) vs rest) ∙ simp append_assoc

  rest_laid : (e : Edge) (vs : Values) (rest : List Token) → laid_out e (written_more vs rest) ≡ more_text vs ++ (codes ")" ++ laid_out edge.Loose rest)
  rest_laid e No_value rest = refl
  rest_laid e (And v vs) rest =
      ap (λ (t : List ℕ). codes "," ++ t) (value_laid edge.Loose v (written_more vs rest))
      ∙ ap (λ (t : List ℕ). codes ", " ++ (value_text v ++ t)) (rest_laid (value_edge v) vs rest)
      ∙ simp append_assoc

-- ---- items

literals_laid : (texts : List (List ℕ)) (rest : List Token) → laid_out edge.Loose (literals_written texts rest) ≡ literals_text texts ++ laid_out edge.Loose rest
literals_laid [] rest = refl
literals_laid (s ∷ texts) rest = ap (λ (t : List ℕ). codes " " ++ (quoted s ++ t)) (literals_laid texts rest) ∙ simp append_assoc

-- what comes after a class, a literal or a number
abbrev Spaced : Edge → Type 0
Spaced e = space e ≡ 32 ∷ []

-- the end of an item after its reserved texts
reserved_laid : (e : Edge) → Spaced e → (texts : List (List ℕ)) (rest : List Token) (text : List ℕ)
    → ((f : Edge) → Spaced f → laid_out f rest ≡ text)
    → laid_out e (reserved_written texts rest) ≡ reserved_text texts ++ text
reserved_laid e h [] rest text after = after e h
reserved_laid e h (s ∷ texts) rest text after =
    ap (λ (t : List ℕ). t ++ (codes "reserved" ++ laid_out edge.Word (literals_written (s ∷ texts) rest))) h
    ∙ ap (λ (t : List ℕ). codes " reserved " ++ (quoted s ++ t)) (literals_laid texts rest ∙ ap (λ (t : List ℕ). literals_text texts ++ t) (after edge.Loose refl))
    ∙ simp append_assoc

most_laid : (e : Edge) → Spaced e → (most : Option (List ℕ)) (rest : List Token)
    → laid_out e (most_written most (mark Semicolon ∷ rest)) ≡ most_text most ++ (codes ";\n" ++ laid_out edge.Tight rest)
most_laid e h None rest = refl
most_laid e h (Some digits) rest =
    ap (λ (t : List ℕ). t ++ (codes "max" ++ (codes " " ++ (digits ++ (codes ";\n" ++ laid_out edge.Tight rest))))) h

item_laid : (item : Item) (rest : List Token) → laid_out edge.Tight (item_written item rest) ≡ item_text item ++ laid_out edge.Tight rest
item_laid (Class_item s c) rest =
    rw name_spaced (ap (λ (t : List ℕ). codes "class " ++ (s ++ (codes " =" ++ t))) (class_laid edge.Loose tt c (mark Semicolon ∷ rest)) ∙ simp append_assoc)
item_laid (Word_item s head following reserved) rest =
    let last = reserved_written reserved (mark Semicolon ∷ rest) in
    rw name_spaced
    (ap (λ (t : List ℕ). codes "word " ++ (s ++ (codes " head" ++ t))) (class_laid edge.Loose tt head (name (codes "rest") ∷ class_written following last))
    ∙ ap (λ (t : List ℕ). codes "word " ++ (s ++ (codes " head " ++ (class_text head ++ (t ++ (codes "rest" ++ laid_out edge.Loose (class_written following last))))))) (class_spaced head)
    ∙ ap (λ (t : List ℕ). codes "word " ++ (s ++ (codes " head " ++ (class_text head ++ (codes " rest" ++ t))))) (class_laid edge.Loose tt following last)
    ∙ ap (λ (t : List ℕ). codes "word " ++ (s ++ (codes " head " ++ (class_text head ++ (codes " rest " ++ (class_text following ++ t))))))
    (reserved_laid (class_edge following) (class_spaced following) reserved (mark Semicolon ∷ rest) (codes ";\n" ++ laid_out edge.Tight rest) (λ f h. refl))
    ∙ simp append_assoc)
item_laid (Operators class gap reserved most) rest =
    let end = most_written most (mark Semicolon ∷ rest) in
    let last = reserved_written reserved end in
    ap (λ (t : List ℕ). codes "operators" ++ t) (class_laid edge.Loose tt class (name (codes "gap") ∷ class_written gap last))
    ∙ ap (λ (t : List ℕ). codes "operators " ++ (class_text class ++ (t ++ (codes "gap" ++ laid_out edge.Loose (class_written gap last))))) (class_spaced class)
    ∙ ap (λ (t : List ℕ). codes "operators " ++ (class_text class ++ (codes " gap" ++ t))) (class_laid edge.Loose tt gap last)
    ∙ ap (λ (t : List ℕ). codes "operators " ++ (class_text class ++ (codes " gap " ++ (class_text gap ++ t))))
    (reserved_laid (class_edge gap) (class_spaced gap) reserved end (most_text most ++ (codes ";\n" ++ laid_out edge.Tight rest)) (λ f h. most_laid f h most rest))
    ∙ simp append_assoc
item_laid (Table InfixLeft precedence symbol) rest = simp append_assoc
item_laid (Table InfixRight precedence symbol) rest = simp append_assoc
item_laid (Table InfixNone precedence symbol) rest = simp append_assoc
item_laid (Table Prefix precedence symbol) rest = simp append_assoc
item_laid (Table Postfix precedence symbol) rest = simp append_assoc
item_laid (Start s) rest = simp append_assoc
item_laid (Rule_item s v) rest =
    rw name_spaced (ap (λ (t : List ℕ). s ++ (codes " =" ++ t)) (value_laid edge.Loose v (mark Semicolon ∷ rest)) ∙ simp append_assoc)

file_laid : (items : List Item) → laid_out edge.Tight (file_written items) ≡ flat_map item_text items
file_laid [] = refl
file_laid (item ∷ items) = item_laid item (file_written items) ∙ ap (λ (t : List ℕ). item_text item ++ t) (file_laid items)

-- a grammar's tokens, laid out, are what is printed of it
pub printed_laid : (g : Grammar) → laid_out edge.Tight (file_written (items_of g)) ≡ characters_printed g
printed_laid g = file_laid (items_of g)
