use Rattle.pg_predict_conditions.proofs.Ends.{BoundsSoFar}
use Rattle.pg_predict_conditions.proofs.bounds.bounds_of_starts.Given as goal

abbrev pub invariant-loop-listed : goal.invariant-loop-listed
invariant-loop-listed l = BoundsSoFar l.starts l.listed-index l.bounds.items
