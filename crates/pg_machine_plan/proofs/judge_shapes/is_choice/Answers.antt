use Rattle.pg_machine_plan.proofs.Shapes.{choice_shaped}
use Rattle.pg_machine_plan.proofs.judge_shapes.is_choice.Goals as goal

pub returns : goal.returns
returns c = λ g stretch ps. choice_shaped g c.args.plan.now c.args.pc stretch ps _ c.in-Some.ensures
