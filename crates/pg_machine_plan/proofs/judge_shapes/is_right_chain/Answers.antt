use Rattle.std.proofs.Common.{◌≡◌, ◌+◌, arith}
use Rattle.pg_machine_plan.proofs.OneMore.{on_true}
use Rattle.pg_machine_plan.proofs.Shapes.{right_chain_shaped}
use Rattle.pg_machine_plan.proofs.judge_shapes.is_right_chain.Goals as goal

pub returns-then-stands-2 : goal.returns-then-stands-2
returns-then-stands-2 c =
    let end : c.args.stretch.end ≡ c.in-Some-checked_sub.out + 2 = omega arith in
    on_true c.stands-then-stands-2.result _ _
    (λ release. λ g used separator. right_chain_shaped g c.args.plan.now c.args.pc c.args.stretch used c.args.operand separator c.in-Some.head c.in-Some-table.field-0
    c.in-Some-checked_sub.out end c.if-stands.ensures c.in-Some.ensures c.in-Some-table.ensures c.if-is_link.ensures c.if-stands-2.ensures release) c.stands-then-stands-2.ensures
