use Rattle.std.proofs.Common.{◌<◌, ℕ}
use Rattle.pg_certificate_verify.specs.Closed.{NumberIsCovered}
use Rattle.pg_certificate_verify.proofs.closure.is_set_covered.Given as goal

abbrev pub invariant-loop-number : goal.invariant-loop-number
invariant-loop-number l = (k : ℕ) → k < l.number → NumberIsCovered l.starts l.claimed l.set k
