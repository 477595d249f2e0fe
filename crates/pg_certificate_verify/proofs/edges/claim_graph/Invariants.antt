use Rattle.std.proofs.Common.{◌≡◌, length, drop}
use Rattle.pg_sets.specs.Flows.{with_flows}
use Rattle.pg_certificate_verify.specs.Edges.{claim_flows, body_flows, flows_of_each}
use Rattle.pg_certificate_verify.proofs.edges.claim_graph.Given as goal

abbrev pub invariant-loop-number : goal.invariant-loop-number
invariant-loop-number l = with_flows l.graph.items (flows_of_each (claim_flows l.nullable l.keys l.count (length l.rules)) l.number (drop l.number l.nodes))
    ≡ with_flows l.initial.graph.items (flows_of_each (claim_flows l.nullable l.keys l.count (length l.rules)) 0 l.nodes)

abbrev pub invariant-loop-place : goal.invariant-loop-place
invariant-loop-place l = with_flows l.graph.items (flows_of_each (body_flows l.count (length l.rules)) l.place (drop l.place l.rules))
    ≡ with_flows l.initial.graph.items (flows_of_each (body_flows l.count (length l.rules)) 0 l.rules)
