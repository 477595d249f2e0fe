use Rattle.std.proofs.Common.{ℕ, ◌<◌}
use Rattle.pg_machine_plan.specs.Columns.{next_at, Follows}
use Rattle.pg_machine_plan.specs.Judged.{HasArmsAt}
use Rattle.pg_machine_plan.proofs.judge_plans.has_all_arms.Given as goal

abbrev pub invariant-loop-slot : goal.invariant-loop-slot
invariant-loop-slot l = record {
  follows : Follows l.grammar l.last l.column.items;
  right : (k : ℕ) → k < l.slot → (pc : ℕ) → HasArmsAt l.grammar l.plan (next_at k) pc;
}
