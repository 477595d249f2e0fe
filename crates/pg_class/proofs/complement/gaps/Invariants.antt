use Rattle.std.proofs.Common.{◌≡◌, ◌++◌, drop, unwrap_or}
use Rattle.pg_class.specs.Gaps.{gaps}
use Rattle.pg_class.proofs.complement.gaps.Given as goal

abbrev pub invariant-loop-range : goal.invariant-loop-range
invariant-loop-range l =
    l.gaps.items ++ gaps (unwrap_or l.low 0x110000) (drop l.range-index l.class) ≡ gaps 0 l.class
