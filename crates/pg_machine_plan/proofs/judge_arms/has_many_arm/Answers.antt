use Rattle.std.proofs.Common.{◌≡◌, ◌+◌, arith}
use Rattle.pg_machine_plan.proofs.OneMore.{on_true}
use Rattle.pg_machine_plan.proofs.LoopArms.{many_arm}
use Rattle.pg_machine_plan.proofs.judge_arms.has_many_arm.Goals as goal

pub returns-in-Some-picked : goal.returns-in-Some-picked
returns-in-Some-picked c =
    let next : c.in-Some.head ≡ c.args.pc + 1 = omega arith in
    on_true c.goes_round.result _ _
    (λ right. λ g so. many_arm g c.args.plan.now c.args.column.now c.args.next c.args.pc c.in-Some.head c.args.stretch c.args.part c.in-Some-picked.arm c.on-verdict.result next
    c.on-verdict.ensures c.in-Some-picked.ensures right so) c.goes_round.ensures
