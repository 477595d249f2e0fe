use Rattle.std.proofs.Common.{◌≡◌, ◌≤◌, ◌<◌, ◌*◌, ℕ, true, false}
use Rattle.pg_server_positions.specs.Positions.{cursor_at, is_past, position_at}
use Rattle.pg_server_positions.proofs.place.place_of.Given as goal

abbrev pub invariant-loop-place : goal.invariant-loop-place
invariant-loop-place l = record {
  line : l.cursor.line ≤ l.place;
  unit : l.cursor.unit ≤ 4 * l.place;
  so_far : l.cursor ≡ cursor_at l.encoding l.text l.place;
  within : l.found ≤ l.place;
  reached : is_past (position_at l.encoding l.text l.found) l.position ≡ false;
  last : (other : ℕ) → l.found < other → other ≤ l.place → is_past (position_at l.encoding l.text other) l.position ≡ true;
}
