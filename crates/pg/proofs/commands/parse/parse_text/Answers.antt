use Rattle.std.proofs.lemmas.Result.{IfOk-weaker}
use Rattle.pg.proofs.Statuses.{loaded_status, not_loaded_status}
use Rattle.pg.proofs.commands.parse.parse_text.Goals as goal

pub returns-in-Ok-Ok : goal.returns-in-Ok-Ok
returns-in-Ok-Ok g c =
    IfOk-weaker c.parse_loaded-status.result _ _
    (λ status is. loaded_status _ _ _ _ status (rw c.in-Ok-Ok.field-0-is at c.in-Ok-Ok.ensures) is) c.parse_loaded-status.ensures

pub returns-in-Ok-Err : goal.returns-in-Ok-Err
returns-in-Ok-Err g c = not_loaded_status _ _ _ _ (rw c.in-Ok-Err.field-0-is at c.in-Ok-Err.ensures)
