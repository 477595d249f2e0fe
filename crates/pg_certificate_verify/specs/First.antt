-- What can begin what a node reads, by the claims of a certificate.
use Rattle.std.specs.Prelude.{◌≡◌, ℕ, Bool, true, List, Some, slice_get}
use Rattle.pg_certificate.specs.declared.certificate.RuleClaim.{RuleClaim}
use Rattle.pg_grammar_form.specs.Forms.{Node}
use Rattle.pg_grammar_form.specs.declared.form.Form.TheVariants as form
use Rattle.pg_graph.specs.Graphs.{has}
use Rattle.pg_sets_nullable.specs.Parts.{reached_parts}
use Rattle.pg_sets_own.specs.Own.{OwnListed}
use Rattle.pg_sets_own.specs.OwnStarts.{IsKeyTry}
use Rattle.pg_sets_own.specs.declared.listed.ListedStart.{ListedStart}
use Rattle.pg_grammar_value.specs.Grammar.{Grammar}
use Rattle.pg_certificate_verify.specs.Claimed.{claimed_first}
use Rattle.pg_certificate_verify.specs.Standing.{IsClaimedAs}

-- the start is among the first of the node, by the marks of the nullable nodes
pub data IsFirstBy (g : Grammar) (claims : List RuleClaim) (nullable : List Bool) (listed : ListedStart) : ℕ → Type 0 where
  -- what stands there gives the start by itself
  own : {p : ℕ} {n : Node} → slice_get g.nodes p ≡ Some n → OwnListed g n listed → IsFirstBy g claims nullable listed p
  -- the start is among the first of a part that is reached, unless a try that gives a key stands there
  part : {p q : ℕ} {n : Node} → slice_get g.nodes p ≡ Some n → (IsKeyTry g n → ⊥) → has (reached_parts nullable n) q ≡ true
      → IsFirstBy g claims nullable listed q → IsFirstBy g claims nullable listed p
  -- the start is claimed for the rule that is used
  used : {p r : ℕ} → slice_get g.nodes p ≡ Some (form.Rule r) → IsClaimedAs g (claimed_first claims r) listed → IsFirstBy g claims nullable listed p
