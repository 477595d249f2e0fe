use Rattle.pg_machine_plan.proofs.OneMore.{on_true}
use Rattle.pg_machine_plan.proofs.Shapes.{enclosed_shaped}
use Rattle.pg_machine_plan.proofs.judge_shapes.is_enclosed.Goals as goal

pub returns-then-stands : goal.returns-then-stands
returns-then-stands c =
    on_true c.stands-then-stands.result _ _
    (λ closes. λ g. enclosed_shaped g c.args.plan.now c.args.pc c.args.stretch c.args.around.now c.args.part c.in-Some.exit c.keep_below.result c.counts.result
    c.keep_below.ensures c.counts.ensures c.if-is_one.ensures c.if-stands.ensures c.in-Some.ensures closes) c.stands-then-stands.ensures
