use Rattle.std.proofs.Common.{◌≡◌, drop}
use Rattle.pg_sets.specs.Flows.{with_flows, flows_of_alternatives}
use Rattle.pg_sets.proofs.flows.join_alternatives.Given as goal

abbrev pub invariant-loop-part : goal.invariant-loop-part
invariant-loop-part l = with_flows l.graph (flows_of_alternatives l.count l.number (drop l.part-index l.parts)) ≡ with_flows l.initial.graph (flows_of_alternatives l.count l.number l.parts)
