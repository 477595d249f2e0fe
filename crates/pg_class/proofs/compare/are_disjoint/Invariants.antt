use Rattle.std.proofs.Common.{length, drop, ◌+◌, ◌-◌, ◌↔◌}
use Rattle.pg_class.specs.Ranges.{AreDisjoint, IsClass}
use Rattle.pg_class.proofs.compare.are_disjoint.Given as goal

abbrev pub invariant-loop-i : goal.invariant-loop-i
invariant-loop-i l = record {
  class : IsClass (drop l.i l.class);
  other : IsClass (drop l.j l.other);
  left : AreDisjoint (drop l.i l.class) (drop l.j l.other) ↔ AreDisjoint l.class l.other;
}

abbrev pub decreases-loop-i : goal.decreases-loop-i
decreases-loop-i l = (length l.class - l.i) + (length l.other - l.j)
