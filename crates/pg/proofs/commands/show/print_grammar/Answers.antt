use Rattle.std.proofs.lemmas.Result.{IfOk-weaker}
use Rattle.pg_pred.specs.Offer.{offer_of}
use Rattle.pg.proofs.Statuses.{printed_status, print_fault_status}
use Rattle.pg.proofs.commands.show.print_grammar.Goals as goal

pub returns-in-Ok : goal.returns-in-Ok
returns-in-Ok g c = printed_status _ _ _ _ c.in-Ok.ensures.ok

pub returns-in-Err : goal.returns-in-Err
returns-in-Err g c =
    IfOk-weaker c.print_report.result _ _
    (λ status is. print_fault_status (offer_of c.args.registry.now) c.args.bytes.now c.in-Err.fault status c.in-Err.ensures.err is) c.print_report.ensures
