-- Parts lie in a text as trees do.
use Rattle.std.specs.Prelude.{◌≡◌, ◌≤◌, ℕ, List, [], ◌∷◌, length}
use Rattle.pg_trail_places.specs.Pieces.{Part, leaf_part, open_part, close_part}
use Rattle.pg_trail_places.specs.PlacedTrees.{IsTextBetween}

-- from a place on, with the ends of the nodes that are open, the innermost first
abbrev pub LieFrom : List ℕ → ℕ → List ℕ → List Part → Type 0
LieFrom text at ends [] = at ≤ length text
LieFrom text at ends (leaf_part own s ∷ ps) = (at ≤ s.start) × ((s.start ≤ s.end) × (IsTextBetween text s own × LieFrom text s.end ends ps))
LieFrom text at ends (open_part label s ∷ ps) = (at ≤ s.start) × LieFrom text s.start (s.end ∷ ends) ps
LieFrom text at [] (close_part ∷ ps) = ⊥
LieFrom text at (end ∷ ends) (close_part ∷ ps) = (at ≤ end) × LieFrom text end ends ps
