use Rattle.pg_machine_plan.proofs.OneMore.{on_true}
use Rattle.pg_machine_plan.proofs.Shapes.{span_shaped}
use Rattle.pg_machine_plan.proofs.judge_shapes.is_span_of.Goals as goal

pub returns-then-is_class : goal.returns-then-is_class
returns-then-is_class c =
    on_true c.stands.result _ _
    (λ span. span_shaped c.args.grammar.now c.args.plan.now c.args.pc c.args.stretch c.args.part c.if-is_class.ensures.0 c.if-is_one.ensures span c.if-is_class.ensures.1)
    c.stands.ensures
