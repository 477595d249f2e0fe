use Rattle.std.proofs.Common.{◌≡◌, ◌≤◌, ◌+◌, drop}
use Rattle.std.specs.Prelude.{◌-◌, ◌^◌}
use Rattle.pg_predict_costs.specs.Steps.{number_at, cut_off, steps_of_all}
use Rattle.pg_predict_costs.proofs.totals.steps_of_all.Given as goal

abbrev pub invariant-loop-part : goal.invariant-loop-part
invariant-loop-part l = record {
  same : cut_off (l.total + steps_of_all (number_at l.steps) (drop l.part-index l.parts)) ≡ cut_off (steps_of_all (number_at l.steps) l.parts);
  small : l.total ≤ 2 ^ 64 - 1;
}
