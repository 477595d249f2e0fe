use Rattle.std.proofs.Common.{◌≡◌, ◌-◌, ◌++◌, false}
use Rattle.pg_tree.specs.Written.{braces}
use Rattle.pg_tree_placed.specs.Written.{comma}
use Rattle.pg_tree_placed.specs.Writing.{Puts}
use Rattle.pg_tree_placed.proofs.openings.push_openings.Given as goal

abbrev pub invariant-loop : goal.invariant-loop
invariant-loop g l = record {
  well : l.writer.failed ≡ false;
  so : Puts (g.W.Write.contents l.fn.writer.inner) l.fn.block (g.W.Write.contents l.writer.inner) l.block (braces (l.count - l.counter)) (comma l.is_comma ++ braces l.count);
}
