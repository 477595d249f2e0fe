use Rattle.std.proofs.Common.{◌≡◌}
use Rattle.pg_grammar_form.specs.declared.form.Form.TheVariants as form
use Rattle.pg_machine_plan.proofs.OneMore.{on_true}
use Rattle.pg_machine_plan.proofs.LoopArms.{arm_as}
use Rattle.pg_machine_plan.proofs.judge_arms.has_arm.Goals as goal

pub returns-in-Choice : goal.returns-in-Choice
returns-in-Choice c =
    let is : c.args.node.now ≡ form.Choice c.as_slice.result.now = cc in
    arm_as c.args.plan.now c.args.column.now c.args.next c.args.pc c.args.stretch c.args.node.now (form.Choice c.as_slice.result.now) c.has_choice_arm.result is c.has_choice_arm.ensures

pub returns-in-Many : goal.returns-in-Many
returns-in-Many c =
    arm_as c.args.plan.now c.args.column.now c.args.next c.args.pc c.args.stretch c.args.node.now (form.Many c.in-Many.part) c.has_many_arm.result c.in-Many.is c.has_many_arm.ensures

pub returns-in-Chain : goal.returns-in-Chain
returns-in-Chain c =
    arm_as c.args.plan.now c.args.column.now c.args.next c.args.pc c.args.stretch c.args.node.now
    (form.Chain c.in-Chain.side c.in-Chain.field-1 c.in-Chain.operand c.in-Chain.separator) c.has_side_arm.result c.in-Chain.is
    (on_true c.has_side_arm.result _ _ (λ right. λ g so. right g so c.in-Chain.field-1) c.has_side_arm.ensures)
