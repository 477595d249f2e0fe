use Rattle.pg_machine_plan.proofs.judge_shapes.is_chain.Goals as goal

pub returns-in-Left : goal.returns-in-Left
returns-in-Left c = rw c.in-Left.is c.is_left_chain.ensures

pub returns-in-Right : goal.returns-in-Right
returns-in-Right c = rw c.in-Right.is c.is_right_chain.ensures
