use Rattle.std.proofs.Common.{length}
use Rattle.pg_machine_plan.proofs.Alternatives.{TriesIf}
use Rattle.pg_machine_plan.proofs.judge_choices.tries.Given as goal

-- those that are left are tried at this arm
abbrev pub invariant-loop-first : goal.invariant-loop-first
invariant-loop-first l = TriesIf l.plan l.column l.next l.keep l.end l.fn.arm l.parts l.at l.rest

abbrev pub decreases-loop-first : goal.decreases-loop-first
decreases-loop-first l = length l.rest
