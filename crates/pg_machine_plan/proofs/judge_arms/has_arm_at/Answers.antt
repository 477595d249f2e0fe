use Rattle.std.proofs.Common.{◌≡◌, Some, slice_get, sym}
use Rattle.pg_machine_plan.proofs.OneMore.{on_true}
use Rattle.pg_machine_plan.proofs.LoopArms.{arms_at}
use Rattle.pg_machine_plan.proofs.judge_arms.has_arm_at.Goals as goal

pub returns-in-Some-node_at : goal.returns-in-Some-node_at
returns-in-Some-node_at c =
    let noted : slice_get c.args.plan.now.stretches c.args.pc ≡ Some (Some c.in-Some.stretch) = cc in
    on_true c.has_arm.result _ _
    (λ right. arms_at c.args.grammar.now c.args.plan.now c.args.column.now c.args.next c.args.pc c.in-Some.stretch c.in-Some-node_at.node.now noted (sym c.in-Some-node_at.ensures)
    c.requires.column right) c.has_arm.ensures
