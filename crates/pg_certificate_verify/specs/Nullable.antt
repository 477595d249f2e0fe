-- Which nodes are nullable by the claims of a certificate.
use Rattle.std.specs.Prelude.{◌≡◌, ℕ, Bool, true, List, Some, slice_get, length}
use Rattle.std.specs.List.{list_all, list_any}
use Rattle.pg_certificate.specs.declared.certificate.RuleClaim.{RuleClaim}
use Rattle.pg_grammar_form.specs.Forms.{Node}
use Rattle.pg_grammar_form.specs.declared.form.Form.TheVariants as form
use Rattle.pg_graph.specs.Marks.{is_marked}
use Rattle.pg_sets_nullable.specs.NodeMarks.{reads_nothing}
use Rattle.pg_grammar_value.specs.Grammar.{Grammar}
use Rattle.pg_certificate_verify.specs.Claimed.{claimed_nullable}

-- whether a node is nullable, from the claims about rules and the marks of its parts
abbrev pub nullable_by : List RuleClaim → (ℕ → Bool) → Node → Bool
nullable_by claims marked (form.Leaf leaf) = reads_nothing leaf
nullable_by claims marked (form.Seq parts) = list_all marked parts
nullable_by claims marked (form.Choice parts) = list_any marked parts
nullable_by claims marked (form.Many part) = true
nullable_by claims marked (form.Chain side used operand separator) = marked operand
nullable_by claims marked (form.Rule rule) = claimed_nullable claims rule
nullable_by claims marked (form.Expression builders term) = marked term
nullable_by claims marked (form.Around around part) = marked part

-- the mark of this node says whether the node is nullable by the claims
abbrev pub IsMarkedBy : Grammar → List RuleClaim → List Bool → ℕ → Type 0
IsMarkedBy g claims marks p = (n : Node) → slice_get g.nodes p ≡ Some n → is_marked marks p ≡ nullable_by claims (is_marked marks) n

-- there is a mark for each node, which says whether it is nullable by the claims
pub record AreNullableBy (g : Grammar) (claims : List RuleClaim) (marks : List Bool) : Type 0 where
  pub long : length marks ≡ length g.nodes
  pub each : (p : ℕ) → IsMarkedBy g claims marks p
