-- The base forms that a file's values and class expressions stand for. `many1`, `option`, `between`, `sepBy`, `sepBy1` and `endBy` are replaced by
-- others, and so is a `try` of several values.
use Rattle.std.specs.Prelude.{List, [], ◌∷◌, ◌++◌, length}
use Rattle.std.specs.Str.{encode_utf8_all}
use Rattle.pg_pred.specs.Offer.{Offer}
use Rattle.pg_grammar_form.specs.Names as names
use Rattle.pg_grammar_form.specs.declared.class.ClassPart.{ClassPart}
use Rattle.pg_grammar_form.specs.declared.class.ClassPart.TheVariants as part
use Rattle.pg_grammar_form.specs.Forms.{BaseForm}
use Rattle.pg_grammar_form.specs.declared.form.Form.TheVariants as form
use Rattle.pg_grammar_form.specs.declared.form.Leaf.TheVariants as leaf
use Rattle.pg_grammar_form.specs.declared.form.Around.TheVariants as around
use Rattle.pg_grammar_form.specs.declared.side.Side.{Side}
use Rattle.pg_grammar_form.specs.declared.used.ChainBuilder.{ChainBuilder}
use Rattle.pg_grammar_form.specs.declared.used.OperatorBuilders.{OperatorBuilders}
use Rattle.pg_file_items.specs.Joined.{joined}
use Rattle.pg_file_items.specs.declared.words.ClassForm.{ClassForm}
use Rattle.pg_file_items.specs.declared.words.ClassForm.TheVariants as class_form
use Rattle.pg_file_items.specs.declared.words.SomeForm.{SomeForm}
use Rattle.pg_file_items.specs.declared.words.SomeForm.TheVariants as some_form
use Rattle.pg_file_items.specs.declared.words.OneForm.{OneForm}
use Rattle.pg_file_items.specs.declared.words.OneForm.TheVariants as one_form
use Rattle.pg_file_items.specs.declared.words.TwoForm.{TwoForm}
use Rattle.pg_file_items.specs.declared.words.TwoForm.TheVariants as two_form
use Rattle.pg_file_items.specs.Tree.{Atom, Set, Range, Name, Not, Group, Class, Of, Atoms, No_atom, Or, Value, Of_class, String, Seq, Of_some, Of_one, Of_two, Between, Chain, Chain_symbol, Expression, Build, Build_symbol, Label, End_of_text, Word, Rule, Values, No_value, And}
use Rattle.pg_file_meaning.specs.Names.{builder_named, chain_builder_named, class_named}

-- the base forms of a body, in preorder
abbrev pub Body : Type 0
Body = List BaseForm

-- ---- class expressions

-- a single expression as it is, several as a union
abbrev pub expression_of : List ClassPart → List (List ClassPart) → List ClassPart
expression_of first [] = first
expression_of first (other ∷ others) = part.Union (length (first ∷ other ∷ others)) ∷ joined (first ∷ other ∷ others)

abbrev mutual
  pub atom_meant : Offer → List names.Name → Atom → List ClassPart
  atom_meant offer classes (Set s) = part.Literal s ∷ []
  atom_meant offer classes (Range low high) = part.Range low high ∷ []
  atom_meant offer classes (Name s) = class_named offer classes s ∷ []
  atom_meant offer classes (Not a) = part.Complement ∷ atom_meant offer classes a
  atom_meant offer classes (Group c) = class_meant offer classes c

  -- the parts of a class expression, with names looked up
  pub class_meant : Offer → List names.Name → Class → List ClassPart
  class_meant offer classes (Of a others) = expression_of (atom_meant offer classes a) (atoms_meant offer classes others)

  pub atoms_meant : Offer → List names.Name → Atoms → List (List ClassPart)
  atoms_meant offer classes No_atom = []
  atoms_meant offer classes (Or a others) = atom_meant offer classes a ∷ atoms_meant offer classes others

-- ---- bodies made of bodies

-- the bodies, one after another
abbrev pub seq_of : List Body → Body
seq_of bodies = form.Seq (length bodies) ∷ joined bodies

-- one of the bodies, tried in order
abbrev pub choice_of : List Body → Body
choice_of bodies = form.Choice (length bodies) ∷ joined bodies

-- a single body as it is, several one after another
abbrev pub whole_of : List Body → Body
whole_of [] = seq_of []
whole_of (body ∷ []) = body
whole_of (body ∷ other ∷ bodies) = seq_of (body ∷ other ∷ bodies)

abbrev pub some_of : SomeForm → List Body → Body
some_of some_form.Choice bodies = choice_of bodies
some_of some_form.Try bodies = form.Around around.Try (record {}) ∷ whole_of bodies
some_of some_form.Local bodies = form.Around around.Local (record {}) ∷ whole_of bodies

-- a body whose trees are dropped
abbrev pub skipped : Body → Body
skipped body = form.Around around.Skip (record {}) ∷ body

-- a body as often as it succeeds
abbrev pub repeated : Body → Body
repeated body = form.Many (record {}) ∷ body

-- a body, or nothing
abbrev pub optional : Body → Body
optional body = choice_of (body ∷ seq_of [] ∷ [])

-- a body once or more, with a separator between any two
abbrev pub separated : Body → Body → Body
separated body separator = seq_of (body ∷ repeated (seq_of (skipped separator ∷ body ∷ [])) ∷ [])

abbrev pub one_of : OneForm → Body → Body
one_of one_form.Many body = repeated body
one_of one_form.Many1 body = seq_of (body ∷ repeated body ∷ [])
one_of one_form.Option body = optional body
one_of one_form.Text body = form.Around around.Text (record {}) ∷ body
one_of one_form.Skip body = skipped body

abbrev pub two_of : TwoForm → Body → Body → Body
two_of two_form.SepBy body separator = optional (separated body separator)
two_of two_form.SepBy1 body separator = separated body separator
two_of two_form.EndBy body separator = repeated (seq_of (body ∷ skipped separator ∷ []))

-- a body between two others, whose trees are dropped
abbrev pub between_of : Body → Body → Body → Body
between_of before after inner = seq_of (skipped before ∷ inner ∷ skipped after ∷ [])

-- the form of a class expression
abbrev pub class_of : ClassForm → List ClassPart → BaseForm
class_of class_form.Satisfy class = form.Leaf (leaf.Satisfy class)
class_of class_form.NotFollowedBy class = form.Leaf (leaf.NotFollowedBy class)
class_of class_form.Declare class = form.Leaf (leaf.Declare class)

-- a chain, folded from a side by a builder
abbrev pub chain_of : Side → ChainBuilder → BaseForm
chain_of side used = form.Chain side used (record {}) (record {})

-- the builders of an expression
abbrev pub builders_named : Offer → (infixes prefixes postfixes : names.Name) → OperatorBuilders
builders_named offer infixes prefixes postfixes = record {
  «infix» = builder_named offer infixes;
  prefix = builder_named offer prefixes;
  postfix = builder_named offer postfixes;
}

-- ---- values

-- the base forms of a value, with short forms replaced
abbrev mutual
  pub meant : Offer → List names.Name → Value → Body
  meant offer classes (Of_class form c) = class_of form (class_meant offer classes c) ∷ []
  meant offer classes (String s) = form.Leaf (leaf.String s) ∷ []
  meant offer classes (Seq vs) = seq_of (all_meant offer classes vs)
  meant offer classes (Of_some form v vs) = some_of form (meant offer classes v ∷ all_meant offer classes vs)
  meant offer classes (Of_one form v) = one_of form (meant offer classes v)
  meant offer classes (Of_two form v separator) = two_of form (meant offer classes v) (meant offer classes separator)
  meant offer classes (Between before after inner) = between_of (meant offer classes before) (meant offer classes after) (meant offer classes inner)
  meant offer classes (Chain side builder operand separator) = chain_of side (chain_builder_named offer builder []) ∷ (meant offer classes operand ++ meant offer classes separator)
  meant offer classes (Chain_symbol side builder symbol operand separator) =
      chain_of side (chain_builder_named offer builder symbol) ∷ (meant offer classes operand ++ meant offer classes separator)
  meant offer classes (Expression infixes prefixes postfixes term) = form.Expression (builders_named offer infixes prefixes postfixes) (record {}) ∷ meant offer classes term
  meant offer classes (Build builder v) = form.Around (around.Build (builder_named offer builder) []) (record {}) ∷ meant offer classes v
  meant offer classes (Build_symbol builder symbol v) = form.Around (around.Build (builder_named offer builder) (encode_utf8_all symbol)) (record {}) ∷ meant offer classes v
  meant offer classes (Label v message) = form.Around (around.Label message) (record {}) ∷ meant offer classes v
  meant offer classes End_of_text = form.Leaf leaf.EndOfText ∷ []
  meant offer classes (Word s) = form.Leaf (leaf.Word s) ∷ []
  meant offer classes (Rule s) = form.Rule s ∷ []

  -- the bodies of values
  pub all_meant : Offer → List names.Name → Values → List Body
  all_meant offer classes No_value = []
  all_meant offer classes (And v vs) = meant offer classes v ∷ all_meant offer classes vs
