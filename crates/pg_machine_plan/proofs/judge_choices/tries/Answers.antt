use Rattle.std.proofs.lemmas.List.{nil_from_length}
use Rattle.pg_machine_plan.proofs.OneMore.{on_true}
use Rattle.pg_machine_plan.proofs.Alternatives.{none_left_to_try}
use Rattle.pg_machine_plan.proofs.judge_choices.tries.Goals as goal

pub returns-then-at-eq0 : goal.returns-then-at-eq0
returns-then-at-eq0 c =
    on_true c.stands.result _ _
    (λ fail. none_left_to_try c.args.plan.now c.args.column.now c.args.next c.args.keep c.args.end c.args.arm c.loop-first.at c.args.parts.now c.loop-first.rest.now
    (nil_from_length c.loop-first.rest.now c.in_default.ensures.cases) c.if-at-eq0.true fail c.loop-first.invariant) c.stands.ensures
