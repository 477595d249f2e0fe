-- What the nodes of a grammar cost, and what each character of a text has to pay for them.
use Rattle.std.proofs.Common.{◌≡◌, ◌<◌, ◌≤◌, ◌+◌, ◌*◌, ℕ, List, Bool, Some, slice_get, length}
use Rattle.pg_grammar_form.specs.Forms.{Node, parts_of}
use Rattle.pg_grammar_value.specs.Grammar.{Grammar}
use Rattle.pg_grammar_value.specs.declared.grammar.Rule as declared
use Rattle.pg_graph.specs.Marks.{is_marked}
use Rattle.pg_predict_costs.specs.Steps.{steps_of_all}
use Rattle.pg_predict_costs.specs.Costs.{node_cost}
use Rattle.pg_predict_costs.specs.StepCost.{own_steps, node_levels}
use Rattle.pg_derive.specs.ClosedSets.{NodeSets}

-- costs, sizes and climbs of nodes: a node's climb is a share for each level on the way from it that is passed before anything
-- is consumed, and a share is no less than the size of any rule
pub record Charges (g : Grammar) (sets : NodeSets) : Type 0 where
  pub nullable : List Bool
  pub marks : (p : ℕ) → is_marked nullable p ≡ sets.nullable p
  pub cost : ℕ → ℕ
  pub size : ℕ → ℕ
  pub climb : ℕ → ℕ
  pub share : ℕ
  pub rate : ℕ
  pub due : ℕ → ℕ
  pub costs : (p : ℕ) (n : Node) → slice_get g.nodes p ≡ Some n → cost p ≡ node_cost g nullable cost n
  pub sizes : (p : ℕ) (n : Node) → slice_get g.nodes p ≡ Some n → size p ≡ own_steps g cost n + steps_of_all size (parts_of n)
  pub low : (p : ℕ) → p < length g.nodes → cost p ≤ size p
  pub bodies : (r : ℕ) (named : declared.Rule) → slice_get g.rules r ≡ Some named → size named.body ≤ share
  pub falls : (p q : ℕ) (n : Node) → slice_get g.nodes p ≡ Some n → sets.level q < sets.level p → climb q + node_levels n * share ≤ climb p
  pub into : (p r : ℕ) (named : declared.Rule) → slice_get g.rules r ≡ Some named → sets.level named.body < sets.level p → climb named.body + share ≤ climb p
  pub room : (p : ℕ) → climb p + share ≤ rate
  pub rises : (i j : ℕ) → i < j → due i + rate ≤ due j
