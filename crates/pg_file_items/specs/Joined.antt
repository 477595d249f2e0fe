-- Joining lists, one after another.
use Rattle.std.specs.Prelude.{List, [], ◌∷◌, ◌++◌}

abbrev pub joined : {A : Type 0} → List (List A) → List A
joined [] = []
joined (xs ∷ lists) = xs ++ joined lists
