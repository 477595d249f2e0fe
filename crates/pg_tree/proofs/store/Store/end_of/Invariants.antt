use Rattle.std.proofs.Common.{◌≤◌}
use Rattle.pg_tree.specs.Stored.{kept_in, IsEndOf}
use Rattle.pg_tree.proofs.store.Store.end_of.Given as goal

abbrev pub invariant-loop-left : goal.invariant-loop-left
invariant-loop-left l = record {
  above : l.count ≤ l.left;
  ends : IsEndOf (kept_in l.self) l.left l.end;
}

abbrev pub decreases-loop-left : goal.decreases-loop-left
decreases-loop-left l = l.left
