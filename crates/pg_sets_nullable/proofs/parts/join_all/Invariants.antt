use Rattle.std.proofs.Common.{◌≡◌, drop}
use Rattle.pg_graph.specs.Graphs.{joined_each}
use Rattle.pg_sets_nullable.proofs.parts.join_all.Given as goal

abbrev pub invariant-loop-part : goal.invariant-loop-part
invariant-loop-part l = joined_each l.graph (drop l.part-index l.parts) l.number ≡ joined_each l.initial.graph l.parts l.number
