use Rattle.std.proofs.Common.{take}
use Rattle.pg_certificate_verify.specs.Standing.{ListsClaims}
use Rattle.pg_certificate_verify.proofs.starts.starts_of_claims.Given as goal

abbrev pub invariant-loop-one : goal.invariant-loop-one
invariant-loop-one l = ListsClaims l.basis.grammar.now (take l.one-index l.claimed) l.starts.items
