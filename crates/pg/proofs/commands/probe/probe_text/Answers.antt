use Rattle.std.proofs.Common.{subst}
use Rattle.std.proofs.lemmas.Result.{IfOk-weaker}
use Rattle.pg_pred.specs.Offer.{offer_of}
use Rattle.pg.specs.Status.{IsProbeStatus}
use Rattle.pg.proofs.Statuses.{ok_status, other_status, shown_fault_status}
use Rattle.pg.proofs.commands.probe.probe_text.Goals as goal

pub returns-in-Ok-true : goal.returns-in-Ok-true
returns-in-Ok-true g c =
    subst (λ file. IsProbeStatus (offer_of c.args.registry.now) c.args.bytes.now (g.F.Read.remaining file) c.args.names.text.now c.args.probing.max_steps c.args.probing.reading 0) c.new-reader.ensures.inner
    (ok_status _ _ _ _ _ _ _ _ _ (rw c.in-Ok-true.field-0-test at c.in-Ok-true.ensures.ok))

pub returns-in-Ok-false : goal.returns-in-Ok-false
returns-in-Ok-false g c =
    subst (λ file. IsProbeStatus (offer_of c.args.registry.now) c.args.bytes.now (g.F.Read.remaining file) c.args.names.text.now c.args.probing.max_steps c.args.probing.reading 1) c.new-reader.ensures.inner
    (other_status _ _ _ _ _ _ _ _ _ (rw c.in-Ok-false.field-0-test at c.in-Ok-false.ensures.ok))

pub returns : goal.returns
returns g c =
    IfOk-weaker c.print_report.result _ _
    (λ status is. shown_fault_status _ _ c.in-Err.fault status c.in-Err.ensures.unchecked c.in-Err.ensures.parsed c.in-Err.ensures.no_certificate is) c.print_report.ensures
