use Rattle.std.proofs.Common.{length}
use Rattle.pg_corpus.proofs.Reading.{AreRead}
use Rattle.pg_corpus.proofs.corpus.read_cases.Given as goal

abbrev pub invariant-loop-left : goal.invariant-loop-left
invariant-loop-left l = AreRead l.rest l.left l.cases.items

abbrev pub decreases-loop-left : goal.decreases-loop-left
decreases-loop-left l = length l.left
