-- The innermost levels stand last in the code.
use Rattle.std.proofs.Common.{◌≡◌, List, [], ◌∷◌, ◌++◌, refl}
use Rattle.pg_machine_lists.specs.TapeLevels.{OnLevel}
use Rattle.pg_machine_lists.specs.ViewLevels.{stored_on, levels_on, levels_of}
use Rattle.pg_machine_lists.specs.declared.levels.Stored.{Stored}

pub level_stored : (ls : List Stored) (l : Stored) → levels_of (ls ++ l ∷ []) ≡ stored_on l (levels_of ls)
level_stored ls l = go ls []
  where
    go : (ls : List Stored) (below : List OnLevel) → levels_on below (ls ++ l ∷ []) ≡ stored_on l (levels_on below ls)
    go [] below = refl
    go (x ∷ ls) below = go ls (stored_on x below)
