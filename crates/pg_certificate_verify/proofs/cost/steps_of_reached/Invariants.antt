use Rattle.std.proofs.Common.{◌≡◌, ◌≤◌, ◌+◌, drop}
use Rattle.std.specs.Prelude.{◌-◌, ◌^◌}
use Rattle.pg_sets_nullable.specs.Parts.{up_to_unmarked}
use Rattle.pg_predict_costs.specs.Steps.{number_at, cut_off, steps_of_all}
use Rattle.pg_certificate_verify.proofs.cost.steps_of_reached.Given as goal

abbrev pub invariant-loop-part : goal.invariant-loop-part
invariant-loop-part l = record {
  same : cut_off (l.total + steps_of_all (number_at l.steps) (up_to_unmarked l.nullable (drop l.part-index l.parts)))
      ≡ cut_off (steps_of_all (number_at l.steps) (up_to_unmarked l.nullable l.parts));
  small : l.total ≤ 2 ^ 64 - 1;
}
