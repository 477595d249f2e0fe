use Rattle.pg_certificate_verify.specs.Breaking.{IsNullableBy}
use Rattle.pg_certificate_verify.proofs.Looking.{NoneOfFirst}
use Rattle.pg_certificate_verify.proofs.alternatives.is_empty_early.Given as goal

abbrev pub invariant-loop-place : goal.invariant-loop-place
invariant-loop-place l = NoneOfFirst l.parts (IsNullableBy l.sets) l.place
