use Rattle.std.proofs.Common.{◌≡◌, drop}
use Rattle.pg_graph.specs.Graphs.{joined_each}
use Rattle.pg_sets_nullable.specs.Parts.{up_to_unmarked}
use Rattle.pg_sets_nullable.proofs.parts.join_reached.Given as goal

abbrev pub invariant-loop-part : goal.invariant-loop-part
invariant-loop-part l =
    joined_each l.graph (up_to_unmarked l.nullable (drop l.part-index l.parts)) l.number ≡ joined_each l.initial.graph (up_to_unmarked l.nullable l.parts) l.number
