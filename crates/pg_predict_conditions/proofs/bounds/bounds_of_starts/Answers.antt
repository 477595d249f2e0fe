use Rattle.std.proofs.Common.{◌<◌, ◌+◌, length, refl, sym, subst, arith}
use Rattle.std.proofs.lemmas.Option.{slice_get_read}
use Rattle.pg_predict_conditions.proofs.Ends.{BoundsSoFar, bounds_more, bounds_all}
use Rattle.pg_predict_conditions.proofs.bounds.bounds_of_starts.Goals as goal

pub loop-listed-preserved : goal.loop-listed-preserved
loop-listed-preserved c =
    let starts = c.args.starts.now in
    let k = c.loop-listed.listed-index in
    let one = c.listed-item.result in
    let inside : k < length starts = omega arith in
    let there = slice_get_read starts (length starts) k one refl inside c.listed-item.is in
    subst (BoundsSoFar starts (k + 1)) (sym c.in_ok-push.ensures.items)
    (bounds_more starts k one c.bounds_of.result c.loop-listed.bounds.items c.loop-listed.invariant there c.bounds_of.ensures)

pub returns : goal.returns
returns c = bounds_all c.args.starts.now c.loop-listed.listed-index c.loop-listed.bounds.items c.loop-listed.invariant (omega arith)
