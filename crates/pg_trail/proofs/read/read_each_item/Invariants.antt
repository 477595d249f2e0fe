use Rattle.std.proofs.Common.{length}
use Rattle.pg_trail.specs.TrailJson.{item_value}
use Rattle.pg_trail.proofs.Turns.{SoFar}
use Rattle.pg_trail.proofs.read.read_each_item.Given as goal

abbrev pub invariant-items : goal.invariant-items
invariant-items l = SoFar item_value 126 l.fn.reader l.reader l.trail

abbrev pub decreases-items : goal.decreases-items
decreases-items l = length l.reader
