use Rattle.std.proofs.Common.{◌≡◌, ◌<◌, ◌≤◌, ℕ, false}
use Rattle.std.specs.Bool.{OnTrue}
use Rattle.pg_predict_costs.specs.Rounds.{AreLow, IsSettled, room}
use Rattle.pg_predict_costs.proofs.costs.cost_round.Given as goal

abbrev pub invariant-loop-p : goal.invariant-loop-p
invariant-loop-p l = record {
  low : AreLow l.grammar l.sets.nullable l.costs;
  no_more : room l.costs ≤ room l.initial.costs;
  more : OnTrue l.grew (room l.costs < room l.initial.costs);
  settled : l.grew ≡ false → (p : ℕ) → l.p ≤ p → IsSettled l.grammar l.sets.nullable l.costs p;
}
