-- The positions so far, and those of what is left.
use Rattle.std.proofs.Common.{◌≡◌, ◌+◌, ◌*◌, ◌≤◌, ◌++◌, drop}
use Rattle.pg_trail_places.specs.Positions.{positions_after, positions_of}
use Rattle.pg_trail_places.proofs.positions.positions.Given as goal

abbrev pub invariant-loop-c : goal.invariant-loop-c
invariant-loop-c l = record {
  line : l.position.line ≤ 1 + l.c-index;
  column : l.position.column ≤ 1 + 8 * l.c-index;
  so_far : l.positions.items ++ positions_after l.position (drop l.c-index l.c-items) ≡ positions_of l.c-items;
}
