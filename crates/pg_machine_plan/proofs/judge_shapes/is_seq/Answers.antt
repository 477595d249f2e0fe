use Rattle.std.proofs.Common.{◌+◌, subst}
use Rattle.pg_machine_plan.specs.Layout.{NotesAll}
use Rattle.pg_machine_plan.proofs.OneMore.{on_true}
use Rattle.pg_machine_plan.proofs.Shapes.{seq_shaped}
use Rattle.pg_machine_plan.proofs.judge_shapes.is_seq.Goals as goal

pub returns-then-end-stretch : goal.returns-then-end-stretch
returns-then-end-stretch c =
    on_true c.stands.result _ _
    (λ enter. λ g. seq_shaped g c.args.plan.now c.args.pc c.args.stretch c.args.parts.now enter
    (subst (NotesAll c.args.plan.now c.args.stretch.keep c.args.parts.now (c.args.pc + 1)) c.if-end-stretch.true c.in-Some.ensures)) c.stands.ensures
