use Rattle.std.proofs.Common.{ℕ, ◌<◌}
use Rattle.pg_machine_plan.specs.Judged.{HasArmsAt}
use Rattle.pg_machine_plan.proofs.judge_arms.has_arms.Given as goal

abbrev pub invariant-loop-pc : goal.invariant-loop-pc
invariant-loop-pc l = (k : ℕ) → k < l.pc → HasArmsAt l.grammar l.plan l.next k
