use Rattle.pg_machine_quick.specs.Landmarks.{ArePrefixes}
use Rattle.pg_machine_quick.proofs.passing.prefixes_at.Given as goal

-- so many prefix operators are read so far
abbrev pub invariant-loop-count : goal.invariant-loop-count
invariant-loop-count l = ArePrefixes l.plan l.pc l.count
