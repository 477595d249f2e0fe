use Rattle.std.proofs.Common.{◌≡◌, length}
use Rattle.pg_explain_witness.proofs.trails.are_same.Given as goal

abbrev pub invariant-loop-item : goal.invariant-loop-item
invariant-loop-item l = l.one ≡ l.other → l.rest ≡ l.others

abbrev pub decreases-loop-item : goal.decreases-loop-item
decreases-loop-item l = length l.rest
