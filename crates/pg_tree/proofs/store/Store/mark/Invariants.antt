use Rattle.std.proofs.Common.{◌≤◌, length}
use Rattle.pg_tree.specs.Stored.{kept_in, Keeps, IsEndOf}
use Rattle.pg_tree.proofs.Marking.{marked_after}
use Rattle.pg_tree.proofs.store.Store.mark.Given as goal

abbrev pub invariant-loop-left : goal.invariant-loop-left
invariant-loop-left l = record {
  above : l.count ≤ l.left;
  within : l.left ≤ length (kept_in l.fn.self);
  done : Keeps l.self (marked_after l.label l.left (kept_in l.fn.self));
  ends : IsEndOf (kept_in l.fn.self) l.left l.end;
}

abbrev pub decreases-loop-left : goal.decreases-loop-left
decreases-loop-left l = l.left
