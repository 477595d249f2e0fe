use Rattle.pg_machine_plan.proofs.OneMore.{on_true}
use Rattle.pg_machine_plan.proofs.Shapes.{leaf_shaped}
use Rattle.pg_machine_plan.proofs.judge_shapes.is_leaf.Goals as goal

pub returns-then-is_one : goal.returns-then-is_one
returns-then-is_one c =
    on_true c.stands.result _ _ (λ read. λ g l. leaf_shaped g c.args.plan.now c.args.pc c.args.stretch l c.if-is_one.ensures read) c.stands.ensures
