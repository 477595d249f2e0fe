use Rattle.std.proofs.Common.{◌≡◌, length}
use Rattle.pg_file_print.specs.Layout.{with_tokens}
use Rattle.pg_file_print.specs.Levels.{ended, left_over}
use Rattle.pg_file_print.proofs.levels.put_end.Given as goal

abbrev pub invariant-loop-level : goal.invariant-loop-level
invariant-loop-level l = record {
  text : with_tokens l.out (ended l.levels.items) ≡ with_tokens l.fn.out (ended l.fn.levels.items);
  levels : left_over l.levels.items ≡ left_over l.fn.levels.items;
}

abbrev pub decreases-loop-level : goal.decreases-loop-level
decreases-loop-level l = length l.levels.items
