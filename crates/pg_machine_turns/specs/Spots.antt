-- Places under a table.
use Rattle.std.specs.Prelude.{ℕ}
use Rattle.pg_table.specs.Tables.{Table}
use Rattle.pg_language.specs.Derives.{Spot}

-- the place, under a table
abbrev pub spot_at : Table → ℕ → Spot
spot_at table place = record { place = place; table = table }
