use Rattle.std.proofs.Common.{◌≡◌, ◌≤◌, ◌<◌, ◌*◌, ℕ, length, slice_get, Some}
use Rattle.pg_server_positions.specs.Positions.{cursor_at, position_at}
use Rattle.pg_server_positions.proofs.positions.positions_of.Given as goal

abbrev pub invariant-loop-c : goal.invariant-loop-c
invariant-loop-c l = record {
  line : l.cursor.line ≤ l.c-index;
  unit : l.cursor.unit ≤ 4 * l.c-index;
  so_far : l.cursor ≡ cursor_at l.encoding l.text l.c-index;
  all : length l.found.items ≡ l.c-index;
  each : (place : ℕ) → place < l.c-index → slice_get l.found.items place ≡ Some (position_at l.encoding l.text place);
}
