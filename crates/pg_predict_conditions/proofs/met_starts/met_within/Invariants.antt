use Rattle.pg_predict_conditions.proofs.MetSets.{MetSoFar}
use Rattle.pg_predict_conditions.proofs.met_starts.met_within.Given as goal

abbrev pub invariant-loop-number : goal.invariant-loop-number
invariant-loop-number l = MetSoFar l.starts l.start l.number l.met
