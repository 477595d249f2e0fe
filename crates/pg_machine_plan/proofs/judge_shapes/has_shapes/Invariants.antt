use Rattle.std.proofs.Common.{ℕ, ◌<◌}
use Rattle.pg_machine_plan.specs.Judged.{HasShape}
use Rattle.pg_machine_plan.proofs.judge_shapes.has_shapes.Given as goal

abbrev pub invariant-loop-pc : goal.invariant-loop-pc
invariant-loop-pc l = (k : ℕ) → k < l.pc → HasShape l.grammar l.plan k
