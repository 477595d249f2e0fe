use Rattle.std.proofs.Common.{◌≡◌, drop}
use Rattle.pg_graph.specs.Walk.{with_all_met}
use Rattle.pg_graph.proofs.walk.meet_all.Given as goal

abbrev pub invariant-loop-vertex : goal.invariant-loop-vertex
invariant-loop-vertex l =
    with_all_met (drop l.vertex-index l.vertices) (record { marks = l.marks.items; met = l.met.items })
    ≡ with_all_met l.vertices (record { marks = l.initial.marks.items; met = l.initial.met.items })
