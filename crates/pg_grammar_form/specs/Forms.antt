-- Forms as callers pass them, and the nodes that a grammar holds for them: their parts, and the checks of a form.
use Rattle.std.specs.Prelude.{◌≡◌, ◌<◌, ℕ, suc, Bool, false, true, ◌==◌, not, ◌||◌, nat_lt, is_some, List, [], ◌∷◌, length, map, take}
use Rattle.std.specs.List.{list_any}
use Rattle.std.specs.Option.{option_map_or}
use Rattle.std.specs.Str.{chars}
use Rattle.pg_grammar_form.specs.Preorder.{SpellForms, roots}
use Rattle.pg_grammar_form.specs.Classes.{descends, is_long, lacks_item}
use Rattle.pg_grammar_form.specs.Contents.{class_parts, builders_in, chain_builder_in, is_declaration, leaf_in, literal_in, name_in, string_in, term_in}
use Rattle.pg_grammar_form.specs.Names.{Name, name_at, has_name}
use Rattle.pg_grammar_form.specs.declared.used.BuilderUse.{BuilderUse}
use Rattle.pg_grammar_form.specs.declared.form.NextForm.{NextForm}
use Rattle.pg_grammar_form.specs.declared.form.Leaf.{Leaf}
use Rattle.pg_grammar_form.specs.declared.form.Leaf.TheVariants as leaf
use Rattle.pg_grammar_form.specs.declared.form.Form.{Form}
use Rattle.pg_grammar_form.specs.declared.form.Form.TheVariants as form

-- a form as callers pass it
abbrev pub BaseForm : Type 0
BaseForm = Form Name Name NextForm ℕ

-- a form as a node of a grammar
abbrev pub Node : Type 0
Node = Form ℕ ℕ ℕ (List ℕ)

-- how many parts a form has
abbrev pub part_count : {R W P : Type 0} → Form R W P ℕ → ℕ
part_count (form.Leaf leaf) = 0
part_count (form.Seq n) = n
part_count (form.Choice n) = n
part_count (form.Many part) = 1
part_count (form.Chain side used operand separator) = 2
part_count (form.Rule rule) = 0
part_count (form.Expression builders part) = 1
part_count (form.Around around part) = 1

-- the parts of a node
abbrev pub parts_of : {R W P : Type 0} → Form R W P (List P) → List P
parts_of (form.Leaf leaf) = []
parts_of (form.Seq parts) = parts
parts_of (form.Choice parts) = parts
parts_of (form.Many part) = part ∷ []
parts_of (form.Chain side used operand separator) = operand ∷ separator ∷ []
parts_of (form.Rule rule) = []
parts_of (form.Expression builders part) = part ∷ []
parts_of (form.Around around part) = part ∷ []

-- how many parts a node has
abbrev pub node_part_count : Node → ℕ
node_part_count n = length (parts_of n)

-- the leaf, with its word item known by something else
abbrev pub leaf_with : {V W : Type 0} → (V → W) → Leaf V → Leaf W
leaf_with word (leaf.Satisfy class) = leaf.Satisfy class
leaf_with word (leaf.String text) = leaf.String text
leaf_with word (leaf.Word w) = leaf.Word (word w)
leaf_with word (leaf.NotFollowedBy class) = leaf.NotFollowedBy class
leaf_with word leaf.EndOfText = leaf.EndOfText
leaf_with word (leaf.Declare class) = leaf.Declare class

-- the base form of a node, given the names of the grammar's rules and of its word items
abbrev pub form_of : List Name → List Name → Node → BaseForm
form_of rules words (form.Leaf leaf) = form.Leaf (leaf_with (name_at words) leaf)
form_of rules words (form.Seq parts) = form.Seq (length parts)
form_of rules words (form.Choice parts) = form.Choice (length parts)
form_of rules words (form.Many part) = form.Many (record {})
form_of rules words (form.Chain side used operand separator) = form.Chain side used (record {}) (record {})
form_of rules words (form.Rule rule) = form.Rule (name_at rules rule)
form_of rules words (form.Expression builders part) = form.Expression builders (record {})
form_of rules words (form.Around around part) = form.Around around (record {})

-- each node's parts are the next whole forms after it; the first node has the number i
abbrev pub InPreorder : ℕ → List Node → Type 0
InPreorder i [] = Unit {0}
InPreorder i (n ∷ ns) = (parts_of n ≡ take (node_part_count n) (roots (suc i) (map node_part_count ns))) × InPreorder (suc i) ns

-- a node names one of the first `count` rules
abbrev pub NamesRule : ℕ → Node → Type 0
NamesRule count (form.Rule rule) = rule < count
NamesRule count _ = Unit {0}

-- a node names one of the first `count` word items
abbrev pub NamesWord : ℕ → Node → Type 0
NamesWord count (form.Leaf (leaf.Word word)) = word < count
NamesWord count _ = Unit {0}

-- ---- checks of a base form

-- whether a choice has no alternative
abbrev pub lacks_alternative : BaseForm → Bool
lacks_alternative (form.Choice n) = n == 0
lacks_alternative _ = false

-- base forms that make up one whole form, where each choice has an alternative
pub record IsBody (forms : List BaseForm) : Type 0 where
  pub whole : SpellForms 1 (map part_count forms)
  pub alternatives : list_any lacks_alternative forms ≡ false

-- whether a form is an empty string
abbrev pub is_empty_string : BaseForm → Bool
is_empty_string form = option_map_or (λ text. length text == 0) (string_in form) false

-- whether a form is an empty string, or a range in it descends
abbrev pub has_bad_literal : BaseForm → Bool
has_bad_literal form = list_any descends (class_parts form) || is_empty_string form

-- whether a builder's name has more than 64 characters
abbrev pub has_long_name : BuilderUse → Bool
has_long_name used = nat_lt 64 (length (chars used.name))

-- whether the name of a chain's builder has more than 64 characters
abbrev pub has_long_chain : BaseForm → Bool
has_long_chain form = option_map_or (λ used. nat_lt 64 (length (chars used.name))) (chain_builder_in form) false

-- whether a literal, symbol or message has more than 1,024 characters, or a name has more than 64
abbrev pub has_long_text : BaseForm → Bool
has_long_text form =
    (list_any is_long (class_parts form) || (list_any has_long_name (builders_in form) || has_long_chain form))
    || (nat_lt 1024 (length (literal_in form)) || nat_lt 64 (length (name_in form)))

-- whether a form names a rule or a word item that isn't among these
abbrev pub has_unknown_name : List Name → List Name → BaseForm → Bool
has_unknown_name rules words (form.Leaf (leaf.Word name)) = not (has_name words name)
has_unknown_name rules words (form.Rule name) = not (has_name rules name)
has_unknown_name rules words _ = false

-- whether a form names a class item other than the first `count`
abbrev pub has_unknown_class : ℕ → BaseForm → Bool
has_unknown_class count form = list_any (lacks_item count) (class_parts form)

-- whether a form reads or declares operators
abbrev pub uses_operators : BaseForm → Bool
uses_operators form = is_some (term_in form) || option_map_or is_declaration (leaf_in form) false
