use Rattle.std.proofs.lemmas.Result.{IfOk-weaker}
use Rattle.pg_pred.specs.Offer.{offer_of}
use Rattle.pg.proofs.Statuses.{judged_status, file_fault_status}
use Rattle.pg.proofs.commands.cost.check_with_cost.Goals as goal

pub returns-in-Ok : goal.returns-in-Ok
returns-in-Ok g c =
    IfOk-weaker c.tell_loaded-status.result _ _
    (λ status is. judged_status (offer_of c.args.registry.now) c.args.bytes.now c.in-Ok.loaded status c.in-Ok.ensures.ok is) c.tell_loaded-status.ensures

pub returns-in-Err : goal.returns-in-Err
returns-in-Err g c =
    IfOk-weaker c.print_report.result _ _
    (λ status is. file_fault_status (offer_of c.args.registry.now) c.args.bytes.now c.in-Err.fault status c.in-Err.ensures.err is) c.print_report.ensures
