use Rattle.pg_machine_plan.proofs.OneMore.{on_true}
use Rattle.pg_machine_plan.proofs.judge_arms.has_side_arm.Goals as goal

pub returns-in-Left : goal.returns-in-Left
returns-in-Left c = rw c.in-Left.is (on_true c.has_chain_arm.result _ _ (λ right. λ g so used. right g so) c.has_chain_arm.ensures)

pub returns-in-Right : goal.returns-in-Right
returns-in-Right c = rw c.in-Right.is (on_true c.has_link_arm.result _ _ (λ right. λ g so used. right g so) c.has_link_arm.ensures)
