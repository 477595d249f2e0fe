-- The step cost K of a grammar: a parse of a text of n characters takes at most K(n + 1) steps.
use Rattle.std.specs.Prelude.{◌≡◌, ◌+◌, ◌*◌, ℕ, max, Bool, if◌then◌else◌, List, [], ◌∷◌, Some, length, slice_get}
use Rattle.pg_grammar_form.specs.Contents.{is_declaration}
use Rattle.pg_grammar_form.specs.Forms.{Node, parts_of}
use Rattle.pg_grammar_form.specs.declared.form.Form.TheVariants as form
use Rattle.pg_grammar_form.specs.declared.form.Leaf.{Leaf}
use Rattle.pg_grammar_value.specs.Grammar.{Grammar}
use Rattle.pg_grammar_value.specs.declared.grammar.Rule.{Rule}
use Rattle.pg_predict_costs.specs.Steps.{number_at, steps_of_all, body_steps, leaf_steps, row_steps}
use Rattle.pg_predict_costs.specs.Costs.{AreCosts}

-- ---- sizes

-- the steps of a node without its parts: its own, the cost of a rule that it uses, and the steps of an expression's rows and a term
abbrev pub own_steps : Grammar → (ℕ → ℕ) → Node → ℕ
own_steps g cost (form.Leaf leaf) = leaf_steps leaf
own_steps g cost (form.Seq parts) = 2
own_steps g cost (form.Choice parts) = 2
own_steps g cost (form.Many part) = 2
own_steps g cost (form.Chain side used operand separator) = 2
own_steps g cost (form.Rule rule) = 2 + body_steps g.rules cost rule
own_steps g cost (form.Expression builders term) = 2 + (row_steps g + cost term)
own_steps g cost (form.Around around part) = 2

-- These are the sizes of the nodes, one for each. A size is the steps of a node and all nodes below it, each counted once. The size of a rule is its body's.
pub record AreSizes (g : Grammar) (costs sizes : List ℕ) : Type 0 where
  pub long : length sizes ≡ length g.nodes
  pub each : (p : ℕ) (n : Node) → slice_get g.nodes p ≡ Some n →
      number_at sizes p ≡ own_steps g (number_at costs) n + steps_of_all (number_at sizes) (parts_of n)

-- the greatest size of these rules, and at least the given number
abbrev pub greatest_size : (ℕ → ℕ) → ℕ → List Rule → ℕ
greatest_size size least [] = least
greatest_size size least (rule ∷ rules) = greatest_size size (max least (size rule.body)) rules

-- ---- levels

abbrev pub leaf_levels : Leaf ℕ → ℕ
leaf_levels leaf = if is_declaration leaf then 4 else 0

-- how many levels of nesting a node adds before anything is consumed: for a round, for a first operand and a
-- round after it, for the rows of an expression, for what a declaration reads
abbrev pub node_levels : Node → ℕ
node_levels (form.Leaf leaf) = leaf_levels leaf
node_levels (form.Seq parts) = 0
node_levels (form.Choice parts) = 0
node_levels (form.Many part) = 1
node_levels (form.Chain side used operand separator) = 2
node_levels (form.Rule rule) = 0
node_levels (form.Expression builders term) = 30
node_levels (form.Around around part) = 0

abbrev pub levels_of_all : List Node → ℕ
levels_of_all [] = 0
levels_of_all (n ∷ ns) = node_levels n + levels_of_all ns

-- the levels of the whole grammar: one for the parse, one for each rule, and those of its nodes
abbrev pub grammar_levels : Grammar → ℕ
grammar_levels g = 1 + (length g.rules + levels_of_all g.nodes)

-- ---- the step cost

-- the number is the step cost of the grammar, where `nullable` marks the nullable nodes
pub record IsStepCost (g : Grammar) (nullable : List Bool) (k : ℕ) : Type 0 where
  pub costs : List ℕ
  pub are_costs : AreCosts g nullable costs
  pub sizes : List ℕ
  pub are_sizes : AreSizes g costs sizes
  pub is : k ≡ grammar_levels g * greatest_size (number_at sizes) (row_steps g) g.rules
