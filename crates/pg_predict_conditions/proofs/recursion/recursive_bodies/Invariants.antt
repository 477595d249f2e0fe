use Rattle.pg_predict_conditions.proofs.Chains.{MarksBelow}
use Rattle.pg_predict_conditions.proofs.recursion.recursive_bodies.Given as goal

abbrev pub invariant-loop-number : goal.invariant-loop-number
invariant-loop-number l = MarksBelow l.grammar l.number l.marks.items
