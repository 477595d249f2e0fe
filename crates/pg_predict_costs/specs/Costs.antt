-- The cost of a node: how many steps a run of it that consumes nothing takes at most.
use Rattle.std.specs.Prelude.{◌≡◌, ◌+◌, ◌&&◌, ℕ, Bool, true, false, if◌then◌else◌, List, [], ◌∷◌, Some, length, slice_get}
use Rattle.std.specs.Option.{option_map_or}
use Rattle.pg_grammar_form.specs.Contents.{is_try, sequence_in}
use Rattle.pg_grammar_form.specs.Forms.{Node}
use Rattle.pg_grammar_form.specs.declared.form.Form.TheVariants as form
use Rattle.pg_grammar_form.specs.declared.form.Leaf.TheVariants as leaf
use Rattle.pg_grammar_form.specs.declared.form.Around.{Around}
use Rattle.pg_sets_nullable.specs.Parts.{up_to_unmarked}
use Rattle.pg_grammar_value.specs.Grammar.{Grammar}
use Rattle.pg_predict_costs.specs.Steps.{number_at, steps_of_all, body_steps, leaf_steps, row_steps}

-- ---- a `try` around a string that a class doesn't follow, the only lexeme of several nodes

abbrev pub is_string : Node → Bool
is_string (form.Leaf (leaf.String text)) = true
is_string _ = false

abbrev pub is_not_followed_by : Node → Bool
is_not_followed_by (form.Leaf (leaf.NotFollowedBy class)) = true
is_not_followed_by _ = false

-- the node there passes the test
abbrev pub is_at : (Node → Bool) → List Node → ℕ → Bool
is_at is nodes p = option_map_or is (slice_get nodes p) false

-- the parts are a string and a class that doesn't follow it
abbrev pub are_ended_string : List Node → List ℕ → Bool
are_ended_string nodes (first ∷ second ∷ []) = is_at is_string nodes first && is_at is_not_followed_by nodes second
are_ended_string nodes _ = false

-- a sequence of the two
abbrev pub is_ended_string : List Node → Node → Bool
is_ended_string nodes n = option_map_or (are_ended_string nodes) (sequence_in n) false

-- this is such a `try` around the part
abbrev pub tries_ended_string : List Node → Around → ℕ → Bool
tries_ended_string nodes around part = is_try around && is_at (is_ended_string nodes) nodes part

-- ---- costs

-- the cost of a form around a part, from the costs of other nodes; a `try` that gives back its lexeme has entered all
-- nodes of the lexeme
abbrev pub around_cost : Grammar → (ℕ → ℕ) → Around → ℕ → ℕ
around_cost g cost around part = if tries_ended_string g.nodes around part then 8 else 2 + cost part

-- The cost of a node, from the costs of other nodes and the marks of the nullable ones: its own steps, and the cost of each part that
-- it reaches before anything need be consumed. A chain reaches its operand again after the separator, and its cost counts again.
abbrev pub node_cost : Grammar → List Bool → (ℕ → ℕ) → Node → ℕ
node_cost g nullable cost (form.Leaf leaf) = leaf_steps leaf
node_cost g nullable cost (form.Seq parts) = 2 + steps_of_all cost (up_to_unmarked nullable parts)
node_cost g nullable cost (form.Choice parts) = 2 + steps_of_all cost parts
node_cost g nullable cost (form.Many part) = 2 + cost part
node_cost g nullable cost (form.Chain side used operand separator) = 2 + steps_of_all cost (up_to_unmarked nullable (operand ∷ separator ∷ operand ∷ []))
node_cost g nullable cost (form.Rule rule) = 2 + body_steps g.rules cost rule
node_cost g nullable cost (form.Expression builders term) = 2 + (row_steps g + cost term)
node_cost g nullable cost (form.Around around part) = around_cost g cost around part

-- These are the costs of the grammar's nodes, one for each. If a rule heads itself, no numbers are.
pub record AreCosts (g : Grammar) (nullable : List Bool) (costs : List ℕ) : Type 0 where
  pub long : length costs ≡ length g.nodes
  pub each : (p : ℕ) (n : Node) → slice_get g.nodes p ≡ Some n → number_at costs p ≡ node_cost g nullable (number_at costs) n
