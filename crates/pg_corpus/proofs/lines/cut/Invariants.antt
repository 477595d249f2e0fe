use Rattle.std.proofs.Common.{◌-◌, length}
use Rattle.pg_corpus.proofs.Cutting.{IsReadTo}
use Rattle.pg_corpus.proofs.lines.cut.Given as goal

abbrev pub invariant-loop-read : goal.invariant-loop-read
invariant-loop-read l = IsReadTo l.part l.bytes l.read

abbrev pub decreases-loop-read : goal.decreases-loop-read
decreases-loop-read l = length l.bytes - l.read
