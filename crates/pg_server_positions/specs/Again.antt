-- The place to which the position of a place leads back.
use Rattle.std.specs.Prelude.{ℕ, ◌+◌, ◌==◌, ◌&&◌, Bool, List, slice_index, if◌then◌else◌}
use Rattle.pg_server_positions.specs.declared.position.Encoding.{Encoding}
use Rattle.pg_server_positions.specs.Positions.{cursor_at}

-- whether a place is between a carriage return and its line feed
abbrev pub parts_line_end : Encoding → List ℕ → ℕ → Bool
parts_line_end encoding text place = (cursor_at encoding text place).after_return && (slice_index text place == 10)

-- the place, or the one behind the line feed
abbrev pub settled : Encoding → List ℕ → ℕ → ℕ
settled encoding text place = if parts_line_end encoding text place then place + 1 else place
