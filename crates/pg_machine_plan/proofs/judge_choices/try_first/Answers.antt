use Rattle.std.proofs.Common.{inl, inr, sym, subst}
use Rattle.pg_machine_plan.specs.Judged.{TriesFirst}
use Rattle.pg_machine_plan.proofs.Alternatives.{passed_if, last_entered, sure_entered}
use Rattle.pg_machine_plan.proofs.judge_choices.try_first.Goals as goal

pub returns-in-Fails : goal.returns-in-Fails
returns-in-Fails c = λ ps last.
    subst (TriesFirst c.args.plan.now c.args.column.now c.args.next c.args.keep c.args.end c.args.arm c.args.part ps) (sym c.goes_on.ensures)
    (passed_if c.args.plan.now c.args.column.now c.args.next c.args.keep c.args.end c.args.arm c.args.part c.in-Fails.nodes ps c.passed_by.result (sym c.in-Fails.ensures) c.passed_by.ensures)

pub returns-in-Takes : goal.returns-in-Takes
returns-in-Takes c = λ ps last.
    sure_entered c.args.plan.now c.args.column.now c.args.next c.args.keep c.args.end c.args.arm c.args.part ps c.enter.result (inl (sym c.in-Takes.ensures)) c.enter.ensures

pub returns-in-Empty : goal.returns-in-Empty
returns-in-Empty c = λ ps last.
    sure_entered c.args.plan.now c.args.column.now c.args.next c.args.keep c.args.end c.args.arm c.args.part ps c.enter-in-Empty.result (inr (_, sym c.in-Empty.ensures))
    c.enter-in-Empty.ensures

pub returns-in-Unknown : goal.returns-in-Unknown
returns-in-Unknown c = λ ps last.
    last_entered c.args.plan.now c.args.column.now c.args.next c.args.keep c.args.end c.args.arm c.args.part ps c.args.is_last c.enter-in-Unknown.result last
    c.enter-in-Unknown.ensures
