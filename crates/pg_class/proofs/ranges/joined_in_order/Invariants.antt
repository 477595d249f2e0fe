use Rattle.std.proofs.Common.{◌≡◌, ℕ, take}
use Rattle.std.specs.Char.{IsScalar}
use Rattle.pg_class.specs.Ranges.{has, IsClass}
use Rattle.pg_class.proofs.Joins.{BeginBy}
use Rattle.pg_class.proofs.ranges.joined_in_order.Given as goal

abbrev pub invariant-loop-range : goal.invariant-loop-range
invariant-loop-range l = record {
  class : IsClass l.class.items;
  begin : BeginBy l.class.items l.ranges l.range-index;
  members : (c : ℕ) → IsScalar c → has l.class.items c ≡ has (take l.range-index l.ranges) c;
}
