-- Lines and columns, by the rule of Text.Parsec.Pos.
use Rattle.std.specs.Prelude.{ℕ, ◌+◌, ◌-◌, ◌%◌, ◌==◌, List, fold, take, if◌then◌else◌}
use Rattle.pg_text.specs.declared.position.Pos.{Pos}

-- the position after a character that stands at this one; 10 is a line feed, and 9 a tab
abbrev pub advance : Pos → ℕ → Pos
advance position c = if c == 10 then record { line = position.line + 1; column = 1 } else
    if c == 9 then record { line = position.line; column = position.column + 8 - ((position.column - 1) % 8) } else
    record { line = position.line; column = position.column + 1 }

-- the position where a text begins
abbrev pub start : Pos
start = record { line = 1; column = 1 }

-- the position of a place, after all the characters before it
abbrev pub position_of : List ℕ → ℕ → Pos
position_of characters place = fold advance start (take place characters)
