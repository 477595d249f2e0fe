use Rattle.std.proofs.lemmas.Result.{IfOk-weaker}
use Rattle.pg.proofs.Statuses.{placed_status, write_fault_status}
use Rattle.pg.proofs.commands.cost.tell_placed.Goals as goal

pub returns-in-Ok : goal.returns-in-Ok
returns-in-Ok g c = placed_status _ _ _ c.in-Ok.is_accepted _ c.in-Ok.ensures.ok c.status_of_check.ensures

pub returns-in-Err : goal.returns-in-Err
returns-in-Err g c = IfOk-weaker c.print_report.result _ _ (λ status is. write_fault_status _ c.in-Err.fault status c.in-Err.ensures.err is) c.print_report.ensures
