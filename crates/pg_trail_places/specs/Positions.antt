-- The positions of all places of a text.
use Rattle.std.specs.Prelude.{ℕ, List, [], ◌∷◌}
use Rattle.pg_text.specs.declared.position.Pos.{Pos}
use Rattle.pg_text.specs.Position.{advance, start}

-- the positions after each of some characters, of which the first stands at this position
abbrev pub positions_after : Pos → List ℕ → List Pos
positions_after at [] = []
positions_after at (c ∷ cs) = advance at c ∷ positions_after (advance at c) cs

-- the position of each place of a text, from its start to its end
abbrev pub positions_of : List ℕ → List Pos
positions_of characters = start ∷ positions_after start characters
