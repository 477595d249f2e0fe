use Rattle.std.proofs.Common.{length}
use Rattle.pg_trail.specs.TrailJson.{operator_value}
use Rattle.pg_trail.proofs.Turns.{SoFar}
use Rattle.pg_trail.proofs.operators.read_each_operator.Given as goal

abbrev pub invariant-operators : goal.invariant-operators
invariant-operators l = SoFar operator_value 124 l.fn.reader l.reader l.operators

abbrev pub decreases-operators : goal.decreases-operators
decreases-operators l = length l.reader
