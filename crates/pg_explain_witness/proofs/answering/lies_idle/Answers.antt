use Rattle.std.proofs.Common.{◌≡◌, sym, ◌∙◌, true, length}
use Rattle.std.specs.Prelude.{◌==◌}
use Rattle.std.proofs.lemmas.Result.{IfOk-weaker}
use Rattle.pg_machine_turns.specs.declared.frame.Reply.TheVariants as reply
use Rattle.pg_explain_witness.proofs.NodeRuns.{idle_lies}
use Rattle.pg_explain_witness.proofs.answering.lies_idle.Goals as goal

pub returns-in-With-Succeeded : goal.returns-in-With-Succeeded
returns-in-With-Succeeded c =
    let m = c.args.machine.now in
    let none : (length m.frames == 0) ≡ true = sym c.is_empty.ensures ∙ c.if-not-is_empty.false in
    let in_arm = c.in-With-Succeeded in
    let is : in_arm.field-0 ≡ reply.Succeeded in_arm.consumed in_arm.end in_arm.field-0-2 = cc in
    IfOk-weaker c.idle_after.result _ _ (λ o h. idle_lies m _ _ in_arm.consumed in_arm.end in_arm.field-0-2 in_arm.is is none o h) c.idle_after.ensures
