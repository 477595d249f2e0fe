use Rattle.std.proofs.Common.{length, drop, ◌+◌, ◌-◌, ◌≤◌, ◌↔◌}
use Rattle.pg_class.specs.Ranges.{IsWithin, IsClass}
use Rattle.pg_class.proofs.compare.is_within.Given as goal

abbrev pub invariant-loop-i : goal.invariant-loop-i
invariant-loop-i l = record {
  place : l.i ≤ length l.class;
  class : IsClass (drop l.i l.class);
  other : IsClass (drop l.j l.other);
  left : IsWithin (drop l.i l.class) (drop l.j l.other) ↔ IsWithin l.class l.other;
}

abbrev pub decreases-loop-i : goal.decreases-loop-i
decreases-loop-i l = (length l.class - l.i) + (length l.other - l.j)
