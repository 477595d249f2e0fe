use Rattle.std.proofs.Common.{subst}
use Rattle.std.proofs.lemmas.Result.{IfOk-weaker}
use Rattle.pg.specs.Status.{IsTextStatus}
use Rattle.pg.proofs.Statuses.{outlined_status, text_fault_status}
use Rattle.pg.proofs.commands.places.places_text.Goals as goal

pub returns-in-Ok : goal.returns-in-Ok
returns-in-Ok g c =
    IfOk-weaker c.print_places.result _ _
    (λ status is. subst (λ file. IsTextStatus c.args.accepted.now.checked.grammar (g.F.Read.remaining file) status) c.new-reader.ensures.inner
    (outlined_status _ _ _ _ _ _ status c.in-Ok.ensures.ok is)) c.print_places.ensures

pub returns : goal.returns
returns g c =
    IfOk-weaker c.print_report.result _ _
    (λ status is. subst (λ file. IsTextStatus c.args.accepted.now.checked.grammar (g.F.Read.remaining file) status) c.new-reader.ensures.inner
    (text_fault_status _ _ _ _ _ c.in-Err.fault status c.in-Err.ensures.err is)) c.print_report.ensures
