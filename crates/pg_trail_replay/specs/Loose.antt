-- The looseness of trees in forms, chains and expressions, and what is left out at each.
use Rattle.std.specs.Prelude.{◌==◌, ◌||◌, if◌then◌else◌, ℕ, List, [], ◌∷◌, Bool, true, false}
use Rattle.std.specs.Str.{bytes_eq}
use Rattle.pg_tree.specs.declared.shape.Shape.{Shape}
use Rattle.pg_tree.specs.declared.shape.Shape.TheVariants as shaped
use Rattle.pg_grammar_form.specs.declared.form.Around.{Around}
use Rattle.pg_grammar_form.specs.declared.form.Around.TheVariants as kind
use Rattle.pg_grammar_form.specs.declared.used.BuilderUse.{BuilderUse}
use Rattle.pg_grammar_form.specs.declared.used.OperatorBuilders.{OperatorBuilders}
use Rattle.pg_grammar_value.specs.declared.trail.Fixity.{Fixity}
use Rattle.pg_grammar_value.specs.declared.trail.Fixity.TheVariants as fixity
use Rattle.pg_expand_fitting.specs.Steps.{Step, a_term, a_symbol, an_application}
use Rattle.pg_trail_replay.specs.States.{Looseness, tight, apart, only_text, dropped, Chain}

-- ---- trees of a shape, chains and forms

-- trees that are flattened are tight in a tree whose kids they become
abbrev pub as_kids : Looseness → Looseness
as_kids tight = tight
as_kids (apart label) = tight
as_kids only_text = only_text
as_kids dropped = dropped

-- or they are flattened there
abbrev pub as_flat : List ℕ → Looseness → Looseness
as_flat label tight = apart label
as_flat label (apart other) = apart label
as_flat label only_text = only_text
as_flat label dropped = dropped

-- or they are joined there
abbrev pub as_joined : Looseness → Looseness
as_joined tight = only_text
as_joined (apart label) = only_text
as_joined only_text = only_text
as_joined dropped = dropped

-- the looseness of the trees from which a tree of the shape is built, given that of the tree itself
abbrev pub inside : Shape → Looseness → Looseness
inside (shaped.Node label) l = as_kids l
inside shaped.Symbol l = as_kids l
inside shaped.Join l = as_joined l
inside (shaped.Flat label) l = as_flat label l

-- the looseness of the trees in a chain that has a round
abbrev pub inside_chain : Chain → ℕ → Looseness → Looseness
inside_chain c n l = if n == 0 then l else inside c.used.shape l

-- the looseness of the part's trees in the form, given that of the form's own: `text` makes its leaf from the text between its places
abbrev pub inside_form : Around → Looseness → Looseness
inside_form kind.Try l = l
inside_form kind.Text l = dropped
inside_form kind.Skip l = dropped
inside_form (kind.Build used symbol) l = inside used.shape l
inside_form (kind.Label message) l = l
inside_form kind.Local l = l

-- ---- expressions

abbrev pub builder_on : Fixity → OperatorBuilders → BuilderUse
builder_on fixity.Prefix builders = builders.prefix
builder_on fixity.Infix builders = builders.infix
builder_on fixity.Postfix builders = builders.postfix

-- the looseness of the newest waiting operand
abbrev pub newest_waiting : List Looseness → Looseness
newest_waiting [] = tight
newest_waiting (l ∷ ls) = l

abbrev pub others_waiting : List Looseness → List Looseness
others_waiting [] = []
others_waiting (l ∷ ls) = ls

-- an operator's operands wait in place of its tree
abbrev pub operands_waiting : Fixity → Looseness → List Looseness → List Looseness
operands_waiting fixity.Prefix l ls = l ∷ ls
operands_waiting fixity.Infix l ls = l ∷ l ∷ ls
operands_waiting fixity.Postfix l ls = l ∷ ls

-- the loosenesses of the operands that wait before a step, the newest first, from those that wait after it
abbrev pub waiting_before : OperatorBuilders → Step → List Looseness → List Looseness
waiting_before builders a_term ls = others_waiting ls
waiting_before builders (a_symbol o) ls = ls
waiting_before builders (an_application o) ls = operands_waiting o.fixity (inside (builder_on o.fixity builders).shape (newest_waiting ls)) (others_waiting ls)

-- the loosenesses of the operands that wait before these steps, from those that wait after them
abbrev pub waiting : OperatorBuilders → List Step → List Looseness → List Looseness
waiting builders [] ls = ls
waiting builders (step ∷ steps) ls = waiting_before builders step (waiting builders steps ls)

-- ---- trees that are left out

-- whether trees without text that can be left out at the first looseness can also be left out at the second
abbrev pub covers : Looseness → Looseness → Bool
covers tight l = true
covers (apart label) tight = false
covers (apart label) (apart other) = bytes_eq label other
covers (apart label) only_text = true
covers (apart label) dropped = true
covers only_text tight = false
covers only_text (apart label) = false
covers only_text only_text = true
covers only_text dropped = true
covers dropped tight = false
covers dropped (apart label) = false
covers dropped only_text = true
covers dropped dropped = true

-- whether at most the text of trees reaches the result
abbrev pub is_text : Looseness → Bool
is_text tight = false
is_text (apart label) = false
is_text only_text = true
is_text dropped = true

-- whether nothing of trees reaches the result
abbrev pub is_dropped : Looseness → Bool
is_dropped tight = false
is_dropped (apart label) = false
is_dropped only_text = false
is_dropped dropped = true

-- whether the shape joins texts to a leaf
abbrev pub joins : Shape → Bool
joins (shaped.Node label) = false
joins shaped.Symbol = false
joins shaped.Join = true
joins (shaped.Flat label) = false

-- whether building a tree of this shape from just such a tree leaves it unchanged
abbrev pub flattens : Shape → Bool
flattens (shaped.Node label) = false
flattens shaped.Symbol = false
flattens shaped.Join = false
flattens (shaped.Flat label) = true

-- whether a round that adds nothing leaves the tree of a chain unchanged
abbrev pub is_steady : Shape → Looseness → Bool
is_steady shape loose = is_text loose || flattens shape

-- whether the shape's tree has the label
abbrev pub has_label : Shape → (symbol label : List ℕ) → Bool
has_label (shaped.Node other) symbol label = bytes_eq other label
has_label shaped.Symbol symbol label = bytes_eq symbol label
has_label shaped.Join symbol label = false
has_label (shaped.Flat other) symbol label = bytes_eq other label

abbrev pub makes_node : Around → List ℕ → Bool
makes_node kind.Try label = false
makes_node kind.Text label = false
makes_node kind.Skip label = false
makes_node (kind.Build used symbol) label = has_label used.shape symbol label
makes_node (kind.Label message) label = false
makes_node kind.Local label = false

-- whether a tree without kids that the form makes is left out, because its kids would take its place
abbrev pub leaves_out : Around → Looseness → Bool
leaves_out k tight = false
leaves_out k (apart label) = makes_node k label
leaves_out k only_text = false
leaves_out k dropped = false
