use Rattle.pg_certificate_verify.proofs.Looking.{HaveLooked}
use Rattle.pg_certificate_verify.proofs.alternatives.two_meet.Given as goal

abbrev pub invariant-loop-next : goal.invariant-loop-next
invariant-loop-next l = HaveLooked l.sets l.parts l.next l.later

abbrev pub decreases-loop-next : goal.decreases-loop-next
decreases-loop-next l = l.next
