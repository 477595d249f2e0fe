use Rattle.std.proofs.Common.{◌≡◌, true, ◌++◌, map, drop}
use Rattle.serde_json.specs.Written.{items_text}
use Rattle.serde_json.specs.View.{items_of}
use Rattle.pg_certificate.specs.Values.{range_value}
use Rattle.pg_certificate.proofs.write_start.push_ranges.Given as goal

abbrev pub invariant-loop-range : goal.invariant-loop-range
invariant-loop-range l =
    l.text.items ++ items_text true (items_of (map range_value (drop l.range-index l.rest))) ≡ l.initial.text.items ++ items_text true (items_of (map range_value l.rest))
