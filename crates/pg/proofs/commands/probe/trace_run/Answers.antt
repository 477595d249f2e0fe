use Rattle.std.proofs.lemmas.Result.{IfOk-weaker}
use Rattle.pg.proofs.Statuses.{unusable_status, traced_status, text_unread_status}
use Rattle.pg.proofs.commands.probe.trace_run.Goals as goal

pub returns-then-not-is_empty : goal.returns-then-not-is_empty
returns-then-not-is_empty g c = IfOk-weaker c.tell_nearest.result _ _ (λ status is. unusable_status _ _ status is) c.tell_nearest.ensures

pub returns-in-Ok : goal.returns-in-Ok
returns-in-Ok g c =
    IfOk-weaker c.trace_probe-status.result _ _ (λ status is. traced_status _ _ _ _ _ _ status c.in-Ok.ensures.ok is) c.trace_probe-status.ensures

pub returns-in-Err : goal.returns-in-Err
returns-in-Err g c = IfOk-weaker c.print_text_fault.result _ _ (λ status is. text_unread_status _ _ _ _ _ c.in-Err.fault status c.in-Err.ensures.err is) c.print_text_fault.ensures
