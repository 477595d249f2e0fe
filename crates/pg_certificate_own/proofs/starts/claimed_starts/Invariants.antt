use Rattle.std.proofs.Common.{◌≡◌, ◌++◌, drop}
use Rattle.pg_certificate_own.specs.Least.{claims_from, claimed_starts}
use Rattle.pg_certificate_own.proofs.starts.claimed_starts.Given as goal

abbrev pub invariant-loop-number : goal.invariant-loop-number
invariant-loop-number l = l.claimed ++ claims_from l.grammar l.number (drop l.number l.starts) l.set ≡ claimed_starts l.grammar l.starts l.set
