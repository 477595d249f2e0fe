use Rattle.std.proofs.Common.{◌≡◌, ◌+◌, arith}
use Rattle.pg_machine_plan.proofs.OneMore.{on_true}
use Rattle.pg_machine_plan.proofs.Shapes.{chain_shaped}
use Rattle.pg_machine_plan.proofs.judge_shapes.is_left_chain.Goals as goal

pub returns-then-stands : goal.returns-then-stands
returns-then-stands c =
    let end : c.args.stretch.end ≡ c.in-Some-checked_sub.out + 1 = omega arith in
    on_true c.stands-then-stands.result _ _
    (λ release. λ g used separator. chain_shaped g c.args.plan.now c.args.pc c.args.stretch used c.args.operand separator c.in-Some.head c.in-Some-table.field-0 c.in-Some-checked_sub.out
    end c.if-stands.ensures c.in-Some.ensures c.in-Some-table.ensures release) c.stands-then-stands.ensures
