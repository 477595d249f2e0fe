use Rattle.std.proofs.Common.{◌≡◌, ◌++◌, codes, drop, string_bytes}
use Rattle.std.specs.List.{flat_map, join_by}
use Rattle.pg_sets_own.specs.PrintedStarts.{range_text}
use Rattle.pg_sets_own.proofs.printed.push_ranges.Given as goal

abbrev pub invariant-loop-range : goal.invariant-loop-range
invariant-loop-range l =
    string_bytes l.text ++ flat_map (λ range. codes "," ++ range_text range) (drop l.range-index l.rest)
    ≡ string_bytes l.fn.text ++ join_by range_text (codes ",") l.ranges
