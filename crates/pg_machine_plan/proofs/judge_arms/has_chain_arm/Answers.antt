use Rattle.std.proofs.Common.{◌≡◌, ◌+◌, arith}
use Rattle.pg_machine_plan.proofs.OneMore.{on_true}
use Rattle.pg_machine_plan.proofs.LoopArms.{chain_arm}
use Rattle.pg_machine_plan.proofs.judge_arms.has_chain_arm.Goals as goal

pub returns-in-Some-picked : goal.returns-in-Some-picked
returns-in-Some-picked c =
    let end : c.args.stretch.end ≡ c.in-Some-checked_sub.out + 1 = omega arith in
    on_true c.goes_round.result _ _
    (λ right. λ g so. chain_arm g c.args.plan.now c.args.column.now c.args.next c.args.pc c.in-Some.head c.in-Some-checked_sub.out c.args.stretch c.args.operand c.args.separator
    c.in-Some-picked.arm c.on-verdict.result c.on-verdict.ensures c.in-Some.ensures end c.in-Some-picked.ensures right so) c.goes_round.ensures
