use Rattle.pg_certificate_verify.specs.Judged.{said_by, AllHoldBefore}
use Rattle.pg_certificate_verify.proofs.verdict.first_fault.Given as goal

abbrev pub invariant-loop-number : goal.invariant-loop-number
invariant-loop-number l = AllHoldBefore l.grammar l.certificate (said_by l.facts) l.number
