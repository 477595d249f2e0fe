use Rattle.std.proofs.Common.{◌≡◌, drop}
use Rattle.pg_sets.specs.Flows.{with_flows, flows_of_some}
use Rattle.pg_sets.proofs.flows.join_some.Given as goal

abbrev pub invariant-loop-part : goal.invariant-loop-part
invariant-loop-part l = with_flows l.graph (flows_of_some l.nullable (drop l.part-index l.parts) l.to) ≡ with_flows l.initial.graph (flows_of_some l.nullable l.parts l.to)
