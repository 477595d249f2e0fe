use Rattle.std.proofs.Common.{subst}
use Rattle.std.proofs.lemmas.Result.{IfOk-weaker}
use Rattle.pg.specs.Status.{IsTextStatus}
use Rattle.pg.proofs.Statuses.{derived_status, text_fault_status}
use Rattle.pg.proofs.commands.parse.parse_quietly.Goals as goal

pub returns-in-Ok : goal.returns-in-Ok
returns-in-Ok g c =
    subst (λ file. IsTextStatus c.args.accepted.now.checked.grammar (g.F.Read.remaining file) 0) c.new-reader.ensures.inner
    (derived_status _ _ _ _ c.in-Ok.ensures.ok)

pub returns : goal.returns
returns g c =
    IfOk-weaker c.print_report.result _ _
    (λ status is. subst (λ file. IsTextStatus c.args.accepted.now.checked.grammar (g.F.Read.remaining file) status) c.new-reader.ensures.inner
    (text_fault_status _ _ _ _ _ c.in-Err.fault status c.in-Err.ensures.err is)) c.print_report.ensures
