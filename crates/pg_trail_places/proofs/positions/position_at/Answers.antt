use Rattle.std.proofs.Common.{◌≡◌, ◌+◌, length, ap, ◌∙◌, arith}
use Rattle.pg_trail_places.specs.Positions.{positions_of}
use Rattle.pg_trail_places.proofs.Places.{length-positions, position_within, position_past}
use Rattle.pg_trail_places.proofs.positions.position_at.Goals as goal

pub bounds-positions-place : goal.bounds-positions-place
bounds-positions-place c = omega (arith, ap length c.requires, length-positions c.args.text.now, c.len.ensures.count, c.if-place-len.true)

pub bounds-positions-len : goal.bounds-positions-len
bounds-positions-len c = omega (arith, ap length c.requires, length-positions c.args.text.now)

pub returns-then-place-len : goal.returns-then-place-len
returns-then-place-len c = position_within c.args.text.now c.args.positions.now _ c.args.place c.requires (omega (arith, c.if-place-len.true))

pub returns-else-place-len : goal.returns-else-place-len
returns-else-place-len c = position_past c.args.text.now c.args.positions.now _ c.args.place _ c.requires (omega arith) (omega (arith, c.if-place-len.false))
