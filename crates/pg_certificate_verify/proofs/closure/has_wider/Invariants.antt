use Rattle.pg_certificate_verify.proofs.Closing.{NoneWider}
use Rattle.pg_certificate_verify.proofs.closure.has_wider.Given as goal

abbrev pub invariant-loop-number : goal.invariant-loop-number
invariant-loop-number l = NoneWider l.starts l.claimed l.listed l.number
