-- Marks on numbered things: a list with one mark for each.
use Rattle.std.specs.Prelude.{ℕ, Bool, false, List, slice_index_or}

-- whether a number is marked; one past the end isn't
abbrev pub is_marked : List Bool → ℕ → Bool
is_marked marks k = slice_index_or marks k false
