use Rattle.std.proofs.Common.{◌-◌, length}
use Rattle.pg_certificate_verify.proofs.FirstPairs.{NoneMetBelow}
use Rattle.pg_certificate_verify.proofs.pairs.first_met.Given as goal

abbrev pub invariant-loop-number : goal.invariant-loop-number
invariant-loop-number l = NoneMetBelow l.starts l.set l.start l.from

abbrev pub decreases-loop-number : goal.decreases-loop-number
decreases-loop-number l = length l.starts - l.from
