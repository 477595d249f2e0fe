use Rattle.std.proofs.lemmas.Result.{IfOk-weaker}
use Rattle.pg.proofs.Statuses.{ok_traced_status, other_traced_status, told_status, traced_fault_status}
use Rattle.pg.proofs.commands.probe.trace_probe.Goals as goal

pub returns-in-Ok-true : goal.returns-in-Ok-true
returns-in-Ok-true g c =
    told_status _ _ _ _ _ 0 _ (ok_traced_status _ _ _ _ _ _ _ (rw c.in-Ok-true.field-0-test at c.in-Ok-true.ensures.ok)) c.told.ensures

pub returns-in-Ok-false : goal.returns-in-Ok-false
returns-in-Ok-false g c =
    told_status _ _ _ _ _ 1 _ (other_traced_status _ _ _ _ _ _ _ (rw c.in-Ok-false.field-0-test at c.in-Ok-false.ensures.ok)) c.told-in-Ok-false.ensures

pub returns-in-Err : goal.returns-in-Err
returns-in-Err g c = IfOk-weaker c.print_report.result _ _ (λ status is. traced_fault_status _ _ _ _ _ c.in-Err.fault status c.in-Err.ensures.err is) c.print_report.ensures
