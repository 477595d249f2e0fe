use Rattle.std.proofs.Common.{◌≡◌, drop}
use Rattle.pg_graph.specs.Graphs.{joined_each}
use Rattle.pg_graph.proofs.numbers.join_each.Given as goal

abbrev pub invariant-loop-list : goal.invariant-loop-list
invariant-loop-list l = joined_each l.lists (drop l.list-index l.at) l.number ≡ joined_each l.initial.lists l.at l.number
