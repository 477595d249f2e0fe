use Rattle.std.proofs.lemmas.Result.{IfOk-weaker}
use Rattle.pg_pred.specs.Offer.{offer_of}
use Rattle.pg.proofs.Statuses.{placed_yes_status, placed_no_status, check_fault_status}
use Rattle.pg.proofs.commands.check.check_placed.Goals as goal

pub returns-in-Ok-true : goal.returns-in-Ok-true
returns-in-Ok-true g c = placed_yes_status _ _ _ _ _ (rw c.in-Ok-true.field-0-test at c.in-Ok-true.ensures.ok)

pub returns-in-Ok-false : goal.returns-in-Ok-false
returns-in-Ok-false g c = placed_no_status _ _ _ _ _ (rw c.in-Ok-false.field-0-test at c.in-Ok-false.ensures.ok)

pub returns-in-Err : goal.returns-in-Err
returns-in-Err g c =
    IfOk-weaker c.print_report.result _ _
    (λ status is. check_fault_status (offer_of c.args.registry.now) c.args.bytes.now c.in-Err.fault status c.in-Err.ensures.err is) c.print_report.ensures
