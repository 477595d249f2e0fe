-- The rank that a rule requires, above the claimed ranks of its heads.
use Rattle.std.specs.Prelude.{◌≡◌, ℕ, suc, max, Bool, List, [], ◌∷◌, Some, slice_get, length}
use Rattle.pg_certificate.specs.declared.certificate.RuleClaim.{RuleClaim}
use Rattle.pg_predict_costs.specs.Steps.{number_at}
use Rattle.pg_grammar_form.specs.Forms.{Node}
use Rattle.pg_grammar_form.specs.declared.form.Form.TheVariants as form
use Rattle.pg_sets_nullable.specs.Parts.{up_to_unmarked}
use Rattle.pg_grammar_value.specs.Grammar.{Grammar}
use Rattle.pg_certificate_verify.specs.Claimed.{claimed_rank}

-- the greatest of these nodes' numbers
abbrev pub greatest_of : (ℕ → ℕ) → List ℕ → ℕ
greatest_of number [] = 0
greatest_of number (p ∷ ps) = max (number p) (greatest_of number ps)

-- The rank that a node requires, from the ranks that its parts require and the marks of the nullable nodes: one above the claimed rank of a
-- rule that it uses, and 0 if it reaches none.
abbrev pub rank_by : List RuleClaim → List Bool → (ℕ → ℕ) → Node → ℕ
rank_by claims nullable rank (form.Leaf leaf) = 0
rank_by claims nullable rank (form.Seq parts) = greatest_of rank (up_to_unmarked nullable parts)
rank_by claims nullable rank (form.Choice parts) = greatest_of rank parts
rank_by claims nullable rank (form.Many part) = rank part
rank_by claims nullable rank (form.Chain side used operand separator) = greatest_of rank (up_to_unmarked nullable (operand ∷ separator ∷ []))
rank_by claims nullable rank (form.Rule rule) = suc (claimed_rank claims rule)
rank_by claims nullable rank (form.Expression builders term) = rank term
rank_by claims nullable rank (form.Around around part) = rank part

-- the number of this node is the rank that it requires
abbrev pub IsRankedBy : Grammar → List RuleClaim → List Bool → List ℕ → ℕ → Type 0
IsRankedBy g claims nullable ranks p = (n : Node) → slice_get g.nodes p ≡ Some n → number_at ranks p ≡ rank_by claims nullable (number_at ranks) n

-- there is a number for each node, and it is the rank that the node requires
pub record AreRanksBy (g : Grammar) (claims : List RuleClaim) (nullable : List Bool) (ranks : List ℕ) : Type 0 where
  pub long : length ranks ≡ length g.nodes
  pub each : (p : ℕ) → IsRankedBy g claims nullable ranks p
