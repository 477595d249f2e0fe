use Rattle.std.proofs.Common.{◌≡◌, drop}
use Rattle.pg_graph.specs.Walk.{with_all_met}
use Rattle.pg_predict_conditions.proofs.recursion.meet_all.Given as goal

abbrev pub invariant-loop-rule : goal.invariant-loop-rule
invariant-loop-rule l =
    with_all_met (drop l.rule-index l.rules) (record { marks = l.marks.items; met = l.met.items })
    ≡ with_all_met l.rules (record { marks = l.initial.marks.items; met = l.initial.met.items })
