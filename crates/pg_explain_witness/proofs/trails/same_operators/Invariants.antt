use Rattle.std.proofs.Common.{◌≡◌, length}
use Rattle.pg_explain_witness.proofs.trails.same_operators.Given as goal

abbrev pub invariant-loop-operator : goal.invariant-loop-operator
invariant-loop-operator l = l.one ≡ l.other → l.rest ≡ l.others

abbrev pub decreases-loop-operator : goal.decreases-loop-operator
decreases-loop-operator l = length l.rest
