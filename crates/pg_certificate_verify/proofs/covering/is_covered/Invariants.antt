use Rattle.std.proofs.Common.{take}
use Rattle.pg_certificate_verify.specs.Covering.{IsCovered}
use Rattle.pg_certificate_verify.proofs.covering.is_covered.Given as goal

abbrev pub invariant-loop-one : goal.invariant-loop-one
invariant-loop-one l = IsCovered (take l.one-index l.claimed) l.listed → ⊥
