-- What is printed of a forest, or of a stop, is what comes of the trail.
use Rattle.std.proofs.Common.{sym}
use Rattle.std.proofs.lemmas.Result.{IfOk-weaker}
use Rattle.pg_bench.proofs.Replayed.{leads_there, halts_there}
use Rattle.pg_bench.proofs.replay.shown_along.Goals as goal

pub returns-in-Ok-clause-ok : goal.returns-in-Ok-clause-ok
returns-in-Ok-clause-ok c = IfOk-weaker c.shown_forest.result _ _ (λ shown h. leads_there _ _ _ _ _ _ _ _ c.in-Ok.ensures.ok h.0 h.1) c.shown_forest.ensures.ok

pub returns-in-Err-Stopped-clause-ok : goal.returns-in-Err-Stopped-clause-ok
returns-in-Err-Stopped-clause-ok c =
    IfOk-weaker c.shown_stop.result _ _
    (λ shown h. halts_there _ _ _ _ _ c.in-Err-Stopped.stop _ _ _ c.in-Err-Stopped.ensures.err c.in-Err-Stopped.field-0-is h.0
    (rw (sym c.items.ensures) h.1)) c.shown_stop.ensures.ok
