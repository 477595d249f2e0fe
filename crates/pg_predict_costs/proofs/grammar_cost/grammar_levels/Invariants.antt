use Rattle.std.proofs.Common.{◌≡◌, ◌≤◌, ◌+◌, drop}
use Rattle.std.specs.Prelude.{◌-◌, ◌^◌}
use Rattle.pg_predict_costs.specs.Steps.{cut_off}
use Rattle.pg_predict_costs.specs.StepCost.{levels_of_all, grammar_levels}
use Rattle.pg_predict_costs.proofs.grammar_cost.grammar_levels.Given as goal

abbrev pub invariant-loop-node : goal.invariant-loop-node
invariant-loop-node l = record {
  same : cut_off (l.levels + levels_of_all (drop l.node-index l.grammar.nodes)) ≡ cut_off (grammar_levels l.grammar);
  small : l.levels ≤ 2 ^ 64 - 1;
}
