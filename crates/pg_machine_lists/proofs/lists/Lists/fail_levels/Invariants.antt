use Rattle.std.proofs.Common.{◌≡◌, length}
use Rattle.pg_machine_lists.specs.TapeLevels.{on_failed}
use Rattle.pg_machine_lists.specs.ViewLevels.{failure_of}
use Rattle.pg_machine_lists.proofs.lists.Lists.fail_levels.Given as goal

abbrev pub invariant-loop-level : goal.invariant-loop-level
invariant-loop-level l = record {
  left : on_failed l.levels (failure_of l.failure l.self) ≡ on_failed l.fn.levels (failure_of l.fn.failure l.fn.self);
  forest : l.self.forest ≡ l.fn.self.forest;
  trail : l.self.trail ≡ l.fn.self.trail;
}

abbrev pub decreases-loop-level : goal.decreases-loop-level
decreases-loop-level l = length l.levels
