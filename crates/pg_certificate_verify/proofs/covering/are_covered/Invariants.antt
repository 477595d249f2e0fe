use Rattle.std.proofs.Common.{take}
use Rattle.std.specs.List.{AllByRecursion}
use Rattle.pg_certificate_verify.specs.Covering.{IsCovered}
use Rattle.pg_certificate_verify.proofs.covering.are_covered.Given as goal

abbrev pub invariant-loop-listed : goal.invariant-loop-listed
invariant-loop-listed l = AllByRecursion (IsCovered l.claimed) (take l.listed-index l.starts)
