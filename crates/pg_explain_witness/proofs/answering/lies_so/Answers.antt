use Rattle.std.proofs.Common.{◌≡◌, sym, ◌∙◌, true, length}
use Rattle.std.specs.Prelude.{◌==◌}
use Rattle.pg_machine_turns.specs.declared.frame.Reply.TheVariants as reply
use Rattle.pg_explain_witness.specs.Running.{IsSo}
use Rattle.pg_explain_witness.proofs.NodeRuns.{ok_lies, failed_lies}
use Rattle.pg_explain_witness.proofs.answering.lies_so.Goals as goal

pub returns-in-With-Succeeded : goal.returns-in-With-Succeeded
returns-in-With-Succeeded c =
    let m = c.args.machine.now in
    let none : (length m.frames == 0) ≡ true = sym c.is_empty.ensures ∙ c.if-not-is_empty.false in
    let in_arm = c.in-With-Succeeded in
    let is : in_arm.field-0 ≡ reply.Succeeded in_arm.consumed in_arm.field-0-1 in_arm.field-0-2 = cc in
    λ e. ok_lies (IsSo c.args.manner) m _ _ in_arm.consumed in_arm.field-0-1 in_arm.field-0-2 in_arm.is is none (c.is_ok_so.ensures _ _ _ _ e)

pub returns-in-With-Failed : goal.returns-in-With-Failed
returns-in-With-Failed c =
    let m = c.args.machine.now in
    let none : (length m.frames == 0) ≡ true = sym c.is_empty.ensures ∙ c.if-not-is_empty.false in
    let in_arm = c.in-With-Failed in
    let is : in_arm.field-0 ≡ reply.Failed in_arm.consumed in_arm.field-0-1 = cc in
    λ e. failed_lies (IsSo c.args.manner) m _ _ in_arm.consumed in_arm.field-0-1 in_arm.is is none (c.is_failed_so.ensures _ e)
