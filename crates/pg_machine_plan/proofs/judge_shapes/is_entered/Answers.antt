use Rattle.std.proofs.Common.{◌≡◌, ◌∙◌, ◌+◌, subst}
use Rattle.pg_machine_plan.specs.Layout.{Notes}
use Rattle.pg_machine_plan.proofs.OneMore.{on_true}
use Rattle.pg_machine_plan.proofs.Shapes.{entered_shaped}
use Rattle.pg_machine_plan.proofs.judge_shapes.is_entered.Goals as goal

pub returns-then-end-stretch : goal.returns-then-end-stretch
returns-then-end-stretch c =
    on_true c.stands.result _ _
    (λ enter. λ g transparent. entered_shaped g c.args.plan.now c.args.pc c.args.stretch c.args.around.now c.args.part transparent enter
    (subst (λ keep. Notes c.args.plan.now keep c.args.part (c.args.pc + 1) c.args.stretch.end) c.keep_below.ensures
    (subst (Notes c.args.plan.now c.keep_below.result c.args.part (c.args.pc + 1)) c.if-end-stretch.true c.in-Some.ensures))) c.stands.ensures
