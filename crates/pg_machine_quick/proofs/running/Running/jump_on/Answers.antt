use Rattle.std.proofs.Common.{◌≡◌, List, Some, slice_get, subst}
use Rattle.pg_machine_plan.specs.declared.instruction.Instruction.{Instruction}
use Rattle.pg_machine_quick.specs.Running.{shown}
use Rattle.pg_machine_quick.proofs.Acts.{steps}
use Rattle.pg_machine_quick.proofs.running.Running.jump_on.Goals as goal

pub returns : goal.returns
returns c =
    let i : Instruction = c.in-Some-Jump.field-0.now in
    let at : slice_get c.args.context.plan.now.code c.args.self.now.pc ≡ Some i =
    subst (λ (code : List Instruction). slice_get code c.args.self.now.pc ≡ Some i) c.requires c.in-Some-Jump.ensures in
    steps c.args.context (shown c.args.self.now) (shown c.jump.new.self) i _ c.jump.result at c.in-Some-Jump.field-0-is (λ table. c.jump.ensures)
