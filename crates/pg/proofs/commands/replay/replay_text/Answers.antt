use Rattle.std.proofs.Common.{subst}
use Rattle.std.proofs.lemmas.Result.{IfOk-weaker}
use Rattle.pg_pred.specs.Offer.{offer_of}
use Rattle.pg.specs.Status.{IsReplayStatus}
use Rattle.pg.proofs.Statuses.{led_status, stopped_status, shown_fault_status}
use Rattle.pg.proofs.commands.replay.replay_text.Goals as goal

pub returns-in-Ok-true : goal.returns-in-Ok-true
returns-in-Ok-true g c =
    subst (λ file. IsReplayStatus (offer_of c.args.registry.now) c.args.bytes.now (g.F.Read.remaining file) c.args.names.text.now c.args.items.now 0) c.new-reader.ensures.inner
    (led_status _ _ _ _ _ _ _ _ (rw c.in-Ok-true.field-0-test at c.in-Ok-true.ensures.ok))

pub returns-in-Ok-false : goal.returns-in-Ok-false
returns-in-Ok-false g c =
    subst (λ file. IsReplayStatus (offer_of c.args.registry.now) c.args.bytes.now (g.F.Read.remaining file) c.args.names.text.now c.args.items.now 1) c.new-reader.ensures.inner
    (stopped_status _ _ _ _ _ _ _ _ (rw c.in-Ok-false.field-0-test at c.in-Ok-false.ensures.ok))

pub returns : goal.returns
returns g c =
    IfOk-weaker c.print_report.result _ _
    (λ status is. shown_fault_status _ _ c.in-Err.fault status c.in-Err.ensures.unchecked c.in-Err.ensures.parsed c.in-Err.ensures.no_certificate is) c.print_report.ensures
