use Rattle.std.proofs.Common.{◌≡◌, ◌++◌, length}
use Rattle.pg_sets.specs.Flows.{with_flows, flows_of_some, flows_after_parts}
use Rattle.pg_sets.proofs.flows.join_seq.Given as goal

abbrev pub invariant-loop-part : goal.invariant-loop-part
invariant-loop-part l =
    with_flows l.graph (flows_after_parts l.nullable l.count l.number l.rest)
    ≡ with_flows l.fn.graph (flows_of_some l.nullable l.parts l.number ++ flows_after_parts l.nullable l.count l.number l.parts)

abbrev pub decreases-loop-part : goal.decreases-loop-part
decreases-loop-part l = length l.rest
