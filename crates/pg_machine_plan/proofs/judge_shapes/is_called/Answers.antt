use Rattle.std.proofs.Common.{sym}
use Rattle.pg_machine_plan.proofs.OneMore.{on_true}
use Rattle.pg_machine_plan.proofs.Shapes.{rule_shaped}
use Rattle.pg_machine_plan.proofs.judge_shapes.is_called.Goals as goal

pub returns-then-is_one : goal.returns-then-is_one
returns-then-is_one c =
    on_true c.is_body.result _ _
    (λ body. rule_shaped c.args.grammar.now c.args.plan.now c.args.pc c.args.stretch c.args.rule c.args.target c.in-Some.named.now c.if-is_one.ensures
    (sym c.in-Some.ensures) c.requires body) c.is_body.ensures
