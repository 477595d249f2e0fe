use Rattle.std.proofs.Common.{◌-◌, length}
use Rattle.pg_certificate_verify.proofs.FirstPairs.{NoPairBelow}
use Rattle.pg_certificate_verify.proofs.pairs.is_pair.Given as goal

abbrev pub invariant-loop-number : goal.invariant-loop-number
invariant-loop-number l = NoPairBelow l.starts l.one l.other l.from

abbrev pub decreases-loop-number : goal.decreases-loop-number
decreases-loop-number l = length l.starts - l.from
