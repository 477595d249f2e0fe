use Rattle.std.proofs.Common.{◌≡◌, ◌≤◌, [], length, drop}
use Rattle.pg_file_items.specs.Syntax.{written}
use Rattle.pg_file_print.specs.Canonical.{value_at}
use Rattle.pg_file_print.specs.Layout.{with_tokens}
use Rattle.pg_file_print.specs.Levels.{needed, coming, node_values, AreBodies}
use Rattle.pg_file_print.proofs.body.put_body.Given as goal

abbrev pub invariant-loop-node : goal.invariant-loop-node
invariant-loop-node l = record {
  bodies : AreBodies l.grammar l.rest;
  enough : needed l.levels.items ≤ length (node_values l.grammar l.rest);
  text : with_tokens l.out (coming written l.levels.items (node_values l.grammar l.rest)) ≡ with_tokens l.fn.out (written (value_at 0 (node_values l.grammar l.nodes)) []);
  after : drop (needed l.levels.items) (node_values l.grammar l.rest) ≡ drop 1 (node_values l.grammar l.nodes);
}

abbrev pub decreases-loop-node : goal.decreases-loop-node
decreases-loop-node l = length l.rest
