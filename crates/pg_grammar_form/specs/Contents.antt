-- The contents of a form beside its parts.
use Rattle.std.specs.Prelude.{◌∷◌, ℕ, Bool, true, false, List, [], Option, Some, None, option_and_then, unwrap_or}
use Rattle.std.specs.Str.{chars}
use Rattle.pg_grammar_form.specs.Names.{Name}
use Rattle.pg_grammar_form.specs.declared.class.ClassPart.{ClassPart}
use Rattle.pg_grammar_form.specs.declared.used.BuilderUse.{BuilderUse}
use Rattle.pg_grammar_form.specs.declared.used.ChainBuilder.{ChainBuilder}
use Rattle.pg_grammar_form.specs.declared.used.OperatorBuilders.{OperatorBuilders}
use Rattle.pg_grammar_form.specs.declared.form.Leaf.{Leaf}
use Rattle.pg_grammar_form.specs.declared.form.Leaf.TheVariants as leaf
use Rattle.pg_grammar_form.specs.declared.form.Around.{Around}
use Rattle.pg_grammar_form.specs.declared.form.Around.TheVariants as around
use Rattle.pg_grammar_form.specs.declared.form.Form.{Form}
use Rattle.pg_grammar_form.specs.declared.form.Form.TheVariants as form

-- the three builders of an expression
abbrev pub all_builders : OperatorBuilders → List BuilderUse
all_builders builders = builders.«infix» ∷ builders.prefix ∷ builders.postfix ∷ []

-- ---- the contents of a leaf

-- the string that a leaf reads
abbrev pub string_of : {W : Type 0} → Leaf W → Option (List ℕ)
string_of (leaf.String text) = Some text
string_of _ = None

-- the word item whose words a leaf reads
abbrev pub word_of : {W : Type 0} → Leaf W → Option W
word_of (leaf.Word word) = Some word
word_of _ = None

-- whether a leaf reads a declaration of an operator
abbrev pub is_declaration : {W : Type 0} → Leaf W → Bool
is_declaration (leaf.Declare class) = true
is_declaration _ = false

-- the class expression in a leaf
abbrev pub class_of : {W : Type 0} → Leaf W → Option (List ClassPart)
class_of (leaf.Satisfy class) = Some class
class_of (leaf.NotFollowedBy class) = Some class
class_of (leaf.Declare class) = Some class
class_of _ = None

-- ---- the kind of a form

-- the leaf that a form is, if it is one
abbrev pub leaf_in : {R W P L : Type 0} → Form R W P L → Option (Leaf W)
leaf_in (form.Leaf leaf) = Some leaf
leaf_in _ = None

-- the parts of a sequence
abbrev pub sequence_in : {R W P L : Type 0} → Form R W P L → Option L
sequence_in (form.Seq parts) = Some parts
sequence_in _ = None

-- the alternatives of a choice
abbrev pub alternatives_in : {R W P L : Type 0} → Form R W P L → Option L
alternatives_in (form.Choice parts) = Some parts
alternatives_in _ = None

-- the rule that a form uses
abbrev pub rule_in : {R W P L : Type 0} → Form R W P L → Option R
rule_in (form.Rule rule) = Some rule
rule_in _ = None

-- the term of an expression
abbrev pub term_in : {R W P L : Type 0} → Form R W P L → Option P
term_in (form.Expression builders term) = Some term
term_in _ = None

-- the string that a form reads
abbrev pub string_in : {R W P L : Type 0} → Form R W P L → Option (List ℕ)
string_in f = option_and_then string_of (leaf_in f)

-- the word item whose words a form reads
abbrev pub word_in : {R W P L : Type 0} → Form R W P L → Option W
word_in f = option_and_then word_of (leaf_in f)

-- the class expression in a form
abbrev pub class_in : {R W P L : Type 0} → Form R W P L → Option (List ClassPart)
class_in f = option_and_then class_of (leaf_in f)

-- the parts of the class expression in a form, or none
abbrev pub class_parts : {R W P L : Type 0} → Form R W P L → List ClassPart
class_parts f = unwrap_or (class_in f) []

-- whether a form around a part is a `try`
abbrev pub is_try : Around → Bool
is_try around.Try = true
is_try _ = false

-- the builder around a part
abbrev pub builder_of : Around → Option BuilderUse
builder_of (around.Build used symbol) = Some used
builder_of _ = None

-- the builder of a chain
abbrev pub chain_builder_in : {R W P L : Type 0} → Form R W P L → Option ChainBuilder
chain_builder_in (form.Chain side used operand separator) = Some used
chain_builder_in _ = None

-- the builders in a form that isn't a chain
abbrev pub builders_in : {R W P L : Type 0} → Form R W P L → List BuilderUse
builders_in (form.Expression builders part) = all_builders builders
builders_in (form.Around (around.Build used symbol) part) = used ∷ []
builders_in _ = []

-- the characters of the string, symbol or message in a form, or none
abbrev pub literal_in : {R W P L : Type 0} → Form R W P L → List ℕ
literal_in (form.Leaf (leaf.String text)) = text
literal_in (form.Chain side used operand separator) = chars used.symbol
literal_in (form.Around (around.Build used symbol) part) = chars symbol
literal_in (form.Around (around.Label message) part) = message
literal_in _ = []

-- the name of the rule or word item in a form, or none
abbrev pub name_in : {P L : Type 0} → Form Name Name P L → Name
name_in f = unwrap_or (rule_in f) (unwrap_or (word_in f) [])
