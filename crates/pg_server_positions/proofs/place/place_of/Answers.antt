use Rattle.std.proofs.Common.{◌+◌, ◌∙◌, ap, arith, cond}
use Rattle.pg_server_positions.specs.Positions.{is_past, position_at, shown}
use Rattle.pg_server_positions.proofs.Leading.{split}
use Rattle.pg_server_positions.proofs.Stepping.{Kept, kept, stepped}
use Rattle.pg_server_positions.proofs.place.place_of.Goals as goal

pub loop-place-preserved : goal.loop-place-preserved
loop-place-preserved c =
    let place = c.loop-place.place in
    let so = stepped c.args.encoding c.args.text.now place c.index-text-place.result c.loop-place.cursor c.behind-cursor.result c.loop-place-test.true c.index-text-place.is c.loop-place.invariant.so_far
    c.behind-cursor.ensures.value in
    let found : Kept (λ k. is_past (position_at c.args.encoding c.args.text.now k) c.args.position) place c.reached-found.result =
    kept (λ k. is_past (position_at c.args.encoding c.args.text.now k) c.args.position) place c.loop-place.found c.reached-found.result
    (c.reached-found.ensures ∙ ap (λ x. cond (is_past (shown x) c.args.position) c.loop-place.found (place + 1)) so)
    c.loop-place.invariant.within c.loop-place.invariant.reached c.loop-place.invariant.last (split _) in
    record {
      line = omega arith;
      unit = omega arith;
      so_far = so;
      within = found.within;
      reached = found.reached;
      last = found.last;
    }
