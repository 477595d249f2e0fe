-- What was printed, and what is left to be.
use Rattle.std.proofs.Common.{◌≡◌, ◌++◌, false, drop}
use Rattle.pg_trail_places.specs.Pieces.{parts_of, parts_json}
use Rattle.pg_trail_places.proofs.page.push_pieces.Given as goal

abbrev pub invariant-loop-piece : goal.invariant-loop-piece
invariant-loop-piece l =
    l.page.items ++ parts_json l.text l.later (parts_of (drop l.piece-index l.pieces)) ≡ l.initial.page.items ++ parts_json l.text false (parts_of l.pieces)
