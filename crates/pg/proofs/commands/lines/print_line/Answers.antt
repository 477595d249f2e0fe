use Rattle.std.proofs.Common.{subst}
use Rattle.std.proofs.lemmas.Result.{IfOk-weaker}
use Rattle.pg.specs.Status.{IsTextStatus}
use Rattle.pg.proofs.Statuses.{lined_status, line_fault_status}
use Rattle.pg.proofs.commands.lines.print_line.Goals as goal

pub returns-in-Ok : goal.returns-in-Ok
returns-in-Ok g c =
    subst (λ file. IsTextStatus c.args.accepted.now.checked.grammar (g.F.Read.remaining file) 0) c.new-reader.ensures.inner
    (lined_status _ _ _ _ _ _ _ c.in-Ok.ensures.ok)

pub returns : goal.returns
returns g c =
    IfOk-weaker c.print_line_fault.result _ _
    (λ status is. subst (λ file. IsTextStatus c.args.accepted.now.checked.grammar (g.F.Read.remaining file) status) c.new-reader.ensures.inner
    (line_fault_status _ _ _ _ _ c.in-Err.fault status c.in-Err.ensures.err is)) c.print_line_fault.ensures
