use Rattle.std.proofs.Common.{◌<◌, ◌+◌, length, refl, sym, subst, arith}
use Rattle.std.proofs.lemmas.Option.{slice_get_read}
use Rattle.pg_predict_conditions.proofs.MetSets.{MeetingsSoFar, meetings_more, meetings_all}
use Rattle.pg_predict_conditions.proofs.met_starts.met_starts.Goals as goal

pub loop-listed-preserved : goal.loop-listed-preserved
loop-listed-preserved c =
    let starts = c.args.starts.now in
    let k = c.loop-listed.listed-index in
    let one = c.listed-item.result in
    let inside : k < length starts = omega arith in
    let there = slice_get_read starts (length starts) k one refl inside c.listed-item.is in
    subst (MeetingsSoFar starts (k + 1)) (sym c.in_ok-push.ensures.items)
    (meetings_more starts k one c.in_ok-met_within.field-0 c.loop-listed.meetings.items c.loop-listed.invariant there c.in_ok-met_within.ensures)

pub returns : goal.returns
returns c = meetings_all c.args.starts.now c.loop-listed.listed-index c.loop-listed.meetings.items c.loop-listed.invariant (omega arith)
