use Rattle.std.proofs.Common.{◌≡◌, ◌+◌, Some, subst, slice_get, arith}
use Rattle.pg_machine_plan.specs.declared.instruction.Instruction.TheVariants.{Pick}
use Rattle.pg_machine_plan.proofs.OneMore.{on_true}
use Rattle.pg_machine_plan.proofs.Shapes.{many_shaped}
use Rattle.pg_machine_plan.proofs.judge_shapes.is_many.Goals as goal

pub returns : goal.returns
returns c =
    let next : c.in-Some.head ≡ c.args.pc + 1 = omega arith in
    on_true c.stands.result _ _
    (λ enter. λ g s p. many_shaped g c.args.plan.now c.args.pc s p c.in-Some-table.field-0 enter
    (subst (λ n. slice_get c.args.plan.now.code n ≡ Some (Pick c.in-Some-table.field-0)) next c.in-Some-table.ensures)) c.stands.ensures
