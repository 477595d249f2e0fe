use Rattle.std.proofs.Common.{◌≡◌, ◌+◌, ◌-◌, ◌≤◌, take, drop}
use Rattle.pg_file_items.specs.Sizes.{counted, sum_of}
use Rattle.pg_file_items.proofs.size.next_sum.Given as goal

abbrev pub invariant-loop : goal.invariant-loop
invariant-loop l = record {
  small : l.total ≤ 8193;
  sum : counted (l.total + sum_of (take (l.count - l.counter) l.waiting.items)) ≡ counted (sum_of (take l.count l.fn.waiting.items));
  rest : drop (l.count - l.counter) l.waiting.items ≡ drop l.count l.fn.waiting.items;
}
