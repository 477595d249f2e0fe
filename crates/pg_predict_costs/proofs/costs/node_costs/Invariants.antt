use Rattle.std.proofs.Common.{◌≡◌, length}
use Rattle.pg_predict_costs.specs.Rounds.{AreLow, room}
use Rattle.pg_predict_costs.proofs.costs.node_costs.Given as goal

abbrev pub decreases-loop : goal.decreases-loop
decreases-loop l = room l.costs.items

abbrev pub invariant-loop : goal.invariant-loop
invariant-loop l = record {
  length : length l.costs.items ≡ length l.grammar.nodes;
  low : AreLow l.grammar l.sets.nullable l.costs.items;
}
