use Rattle.pg_predict_conditions.proofs.Unsuspected.{HaveLooked}
use Rattle.pg_predict_conditions.proofs.suspects.mark_suspects.Given as goal

abbrev pub invariant-loop-next : goal.invariant-loop-next
invariant-loop-next l = HaveLooked l.sets l.meetings l.parts l.next l.initial.marks.items l.marks.items l.after

abbrev pub decreases-loop-next : goal.decreases-loop-next
decreases-loop-next l = l.next
