-- Where a start comes from: the sets that hold it by themselves, and not through another set.
use Rattle.std.specs.Prelude.{◌≡◌, ℕ, Some, slice_get, length}
use Rattle.pg_grammar_value.specs.Grammar.{Grammar}
use Rattle.pg_grammar_form.specs.Forms.{Node}
use Rattle.pg_grammar_form.specs.declared.form.Form.TheVariants as form
use Rattle.pg_grammar_value.specs.declared.grammar.Rule as declared
use Rattle.pg_grammar_form.specs.declared.used.OperatorBuilders.{OperatorBuilders}
use Rattle.pg_start.specs.declared.kind.StartKind.{StartKind}
use Rattle.pg_start.specs.declared.kind.StartKind.TheVariants.{End}
use Rattle.pg_sets.specs.Flows.{follow_of}
use Rattle.pg_sets_own.specs.OwnStarts.{OwnStart, IsOperatorStart}

-- the set with this number holds the start by itself: the first set of a node that gives it, the follow set of the start
-- rule's body, which has the end, or the follow set of an expression's term, which has the operators
pub data IsSource (g : Grammar) : StartKind → ℕ → Type 0 where
  own : {start : StartKind} {p : ℕ} {n : Node} → slice_get g.nodes p ≡ Some n → OwnStart g n start → IsSource g start p
  at_end : {v : ℕ} {named : declared.Rule} → slice_get g.rules g.start ≡ Some named → v ≡ follow_of (length g.nodes) named.body → IsSource g End v
  operator : {start : StartKind} (p : ℕ) {v term : ℕ} {builders : OperatorBuilders} → slice_get g.nodes p ≡ Some (form.Expression builders term)
      → IsOperatorStart g start → v ≡ follow_of (length g.nodes) term → IsSource g start v
