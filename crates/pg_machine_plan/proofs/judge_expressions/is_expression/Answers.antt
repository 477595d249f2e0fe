use Rattle.std.proofs.Common.{◌≡◌, ◌+◌, subst, arith}
use Rattle.pg_machine_plan.specs.Layout.{AreRows}
use Rattle.pg_machine_plan.proofs.OneMore.{on_true}
use Rattle.pg_machine_plan.proofs.Shapes.{expression_shaped}
use Rattle.pg_machine_plan.proofs.judge_expressions.is_expression.Goals as goal

pub returns-then-is_one : goal.returns-then-is_one
returns-then-is_one c =
    let next : c.in-Some-checked_add.first ≡ c.args.pc + 1 = omega arith in
    let rows = subst (λ pc. AreRows c.args.plan.now c.args.stretch.keep c.args.stretch.node c.args.term c.in-Some.rows pc c.in-Some-after_rows.out) next c.in-Some-after_rows.ensures in
    on_true c.stands.result _ _
    (λ release. λ g builders. expression_shaped g c.args.plan.now c.args.pc c.args.stretch builders c.args.term c.in-Some.rows c.in-Some-after_rows.out
    c.if-is_one.ensures c.in-Some.ensures rows release) c.stands.ensures
