-- The costs of nodes by the claims of a certificate.
use Rattle.std.specs.Prelude.{◌≡◌, ◌+◌, ℕ, Bool, List, Some, slice_get, length}
use Rattle.pg_certificate.specs.declared.certificate.RuleClaim.{RuleClaim}
use Rattle.pg_predict_costs.specs.Costs.{node_cost}
use Rattle.pg_predict_costs.specs.Steps.{number_at, cut_off}
use Rattle.pg_grammar_form.specs.Forms.{Node}
use Rattle.pg_grammar_form.specs.declared.form.Form.TheVariants as form
use Rattle.pg_grammar_value.specs.Grammar.{Grammar}
use Rattle.pg_certificate_verify.specs.Claimed.{claimed_cost}

-- the cost of a node, from the claims about rules and the costs of its parts: the cost of a rule's body is claimed
abbrev pub cost_by : Grammar → List RuleClaim → List Bool → (ℕ → ℕ) → Node → ℕ
cost_by g claims nullable cost (form.Leaf leaf) = node_cost g nullable cost (form.Leaf leaf)
cost_by g claims nullable cost (form.Seq parts) = node_cost g nullable cost (form.Seq parts)
cost_by g claims nullable cost (form.Choice parts) = node_cost g nullable cost (form.Choice parts)
cost_by g claims nullable cost (form.Many part) = node_cost g nullable cost (form.Many part)
cost_by g claims nullable cost (form.Chain side used operand separator) = node_cost g nullable cost (form.Chain side used operand separator)
cost_by g claims nullable cost (form.Rule rule) = 2 + claimed_cost claims rule
cost_by g claims nullable cost (form.Expression builders term) = node_cost g nullable cost (form.Expression builders term)
cost_by g claims nullable cost (form.Around around part) = node_cost g nullable cost (form.Around around part)

-- the number of this node is its cost, or the greatest number if the cost is greater
abbrev pub IsCostBy : Grammar → List RuleClaim → List Bool → List ℕ → ℕ → Type 0
IsCostBy g claims nullable costs p = (n : Node) → slice_get g.nodes p ≡ Some n → number_at costs p ≡ cut_off (cost_by g claims nullable (number_at costs) n)

-- there is a number for each node, and it is the node's cost, cut in this way
pub record AreCostsBy (g : Grammar) (claims : List RuleClaim) (nullable : List Bool) (costs : List ℕ) : Type 0 where
  pub long : length costs ≡ length g.nodes
  pub each : (p : ℕ) → IsCostBy g claims nullable costs p
