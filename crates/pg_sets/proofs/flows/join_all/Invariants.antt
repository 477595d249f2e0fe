use Rattle.std.proofs.Common.{◌≡◌, drop}
use Rattle.pg_sets.specs.Flows.{with_flows, flows_of_all}
use Rattle.pg_sets.proofs.flows.join_all.Given as goal

abbrev pub invariant-loop-part : goal.invariant-loop-part
invariant-loop-part l = with_flows l.graph (flows_of_all l.nullable (drop l.part-index l.parts) l.after l.to) ≡ with_flows l.initial.graph (flows_of_all l.nullable l.parts l.after l.to)
