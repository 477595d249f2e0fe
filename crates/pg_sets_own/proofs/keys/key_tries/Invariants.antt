use Rattle.std.proofs.Common.{◌≡◌, ◌<◌, ℕ, true, Some, slice_get, length}
use Rattle.std.specs.Prelude.{◌↔◌}
use Rattle.pg_grammar_form.specs.Forms.{Node}
use Rattle.pg_graph.specs.Marks.{is_marked}
use Rattle.pg_sets_own.specs.OwnStarts.{IsKeyTry}
use Rattle.pg_sets_own.proofs.keys.key_tries.Given as goal

abbrev pub invariant-loop-node : goal.invariant-loop-node
invariant-loop-node l = record {
  long : length l.marks.items ≡ l.node-index;
  right : (p : ℕ) (n : Node) → p < l.node-index → slice_get l.grammar.nodes p ≡ Some n → (is_marked l.marks.items p ≡ true) ↔ IsKeyTry l.grammar n;
}
