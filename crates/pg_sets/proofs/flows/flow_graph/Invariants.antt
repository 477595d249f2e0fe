use Rattle.std.proofs.Common.{◌≡◌, drop}
use Rattle.pg_sets.specs.Flows.{with_flows, all_flows}
use Rattle.pg_sets.proofs.flows.flow_graph.Given as goal

abbrev pub invariant-loop-number : goal.invariant-loop-number
invariant-loop-number l = with_flows l.graph.items (all_flows l.rules l.nullable l.keys l.count l.number (drop l.number l.nodes)) ≡ with_flows l.initial.graph.items (all_flows l.rules l.nullable l.keys l.count 0 l.nodes)
