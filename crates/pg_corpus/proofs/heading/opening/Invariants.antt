use Rattle.std.proofs.Common.{◌≤◌, length}
use Rattle.pg_corpus.proofs.heading.opening.Given as goal

abbrev pub invariant-loop-left : goal.invariant-loop-left
invariant-loop-left l = l.left ≤ length l.label

abbrev pub decreases-loop-left : goal.decreases-loop-left
decreases-loop-left l = l.left
