use Rattle.std.proofs.lemmas.Result.{IfOk-weaker}
use Rattle.pg.proofs.Statuses.{listed_none_status, listed_some_status, write_fault_status}
use Rattle.pg.proofs.commands.listing.list_told.Goals as goal

pub returns-in-Ok-false : goal.returns-in-Ok-false
returns-in-Ok-false g c = listed_some_status _ _ _ (rw c.in-Ok-false.field-0-test at c.in-Ok-false.ensures.ok)

pub returns-in-Ok-true : goal.returns-in-Ok-true
returns-in-Ok-true g c = IfOk-weaker c.list_notes.result _ _ (λ status is. listed_none_status _ _ _ status (rw c.in-Ok-true.field-0-test at c.in-Ok-true.ensures.ok) is) c.list_notes.ensures

pub returns-in-Err : goal.returns-in-Err
returns-in-Err g c = IfOk-weaker c.print_report.result _ _ (λ status is. write_fault_status _ c.in-Err.fault status c.in-Err.ensures.err is) c.print_report.ensures
