-- All lie in order if those that are left do.
use Rattle.std.proofs.Common.{[], drop}
use Rattle.std.specs.Prelude.{reverse}
use Rattle.pg_trail_places.specs.Pieces.{parts_of}
use Rattle.pg_trail_places.specs.Order.{LieFrom}
use Rattle.pg_trail_places.proofs.order.lie_in_order.Given as goal

abbrev pub invariant-loop-piece : goal.invariant-loop-piece
invariant-loop-piece l = LieFrom l.text l.order.at (reverse l.order.ends.items) (parts_of (drop l.piece-index l.pieces)) → LieFrom l.text 0 [] (parts_of l.pieces)
