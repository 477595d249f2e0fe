use Rattle.pg_predict_conditions.proofs.Unsuspected.{HaveMarked}
use Rattle.pg_predict_conditions.proofs.suspects.suspects.Given as goal

abbrev pub invariant-loop-node : goal.invariant-loop-node
invariant-loop-node l = HaveMarked l.grammar l.sets l.meetings l.node-index l.marks.items
