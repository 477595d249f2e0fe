use Rattle.std.proofs.lemmas.Result.{IfOk-weaker}
use Rattle.pg.proofs.Statuses.{run_status, unread_status}
use Rattle.pg.proofs.commands.probe.trace_text.Goals as goal

pub returns-in-Ok : goal.returns-in-Ok
returns-in-Ok g c =
    IfOk-weaker c.trace_run-status.result _ _ (λ status is. run_status _ _ _ _ _ _ _ status c.in-Ok.ensures.ok is) c.trace_run-status.ensures

pub returns-in-Err : goal.returns-in-Err
returns-in-Err g c = IfOk-weaker c.print_report.result _ _ (λ status is. unread_status _ _ c.in-Err.fault status c.in-Err.ensures.err is) c.print_report.ensures
