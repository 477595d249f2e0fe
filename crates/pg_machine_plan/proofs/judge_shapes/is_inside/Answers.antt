use Rattle.std.proofs.Common.{◌+◌, sym, subst}
use Rattle.pg_machine_plan.specs.Layout.{Notes}
use Rattle.pg_machine_plan.proofs.OneMore.{on_true}
use Rattle.pg_machine_plan.proofs.Shapes.{rule_inside_shaped}
use Rattle.pg_machine_plan.proofs.judge_shapes.is_inside.Goals as goal

pub returns-then-end-stretch : goal.returns-then-end-stretch
returns-then-end-stretch c =
    on_true c.stands.result _ _
    (λ enter. rule_inside_shaped c.args.grammar.now c.args.plan.now c.args.pc c.args.stretch c.args.rule c.in-Some.named.now (sym c.in-Some.ensures) enter
    (subst (Notes c.args.plan.now c.args.stretch.keep c.in-Some.named.now.body (c.args.pc + 1)) c.if-end-stretch.true c.in-Some-after.ensures)) c.stands.ensures
