use Rattle.std.proofs.Common.{◌≡◌, ◌++◌, ◌-◌, ◌≤◌}
use Rattle.std.specs.List.{filter, range_with_len}
use Rattle.pg_graph_bits.specs.Numbers.{contains}
use Rattle.pg_sets_page.proofs.page.members.Given as goal

abbrev pub invariant-loop-number : goal.invariant-loop-number
invariant-loop-number l =
    (l.number ≤ l.limit) ×
    (l.numbers.items ++ filter (contains l.set) (range_with_len l.number (l.limit - l.number)) ≡ filter (contains l.set) (range_with_len 0 l.limit))
