use Rattle.pg_machine_plan.proofs.OneMore.{when_true}
use Rattle.pg_machine_plan.proofs.RightPlans.{right_plan}
use Rattle.pg_machine_plan.proofs.judge_plans.judge.Goals as goal

pub returns-then-right : goal.returns-then-right
returns-then-right c =
    right_plan c.args.grammar.now c.args.plan.now c.if-not-begins_right.ensures c.if-not-has_shapes.ensures (when_true c.in_ok-right.right _ c.if-right.true c.in_ok-right.ensures)
