-- How far a walk over a graph has come.
use Rattle.std.specs.Prelude.{ℕ, Bool, true, not, if◌then◌else◌, List, [], ◌∷◌, ◌++◌, slice_set, slice_index_or}

-- the vertices that were met, as marks and as a list in the order in which they were met
pub record Met : Type 0 where
  pub marks : List Bool
  pub met : List ℕ

-- whether this is a vertex without a mark
abbrev pub is_new : List Bool → ℕ → Bool
is_new marks v = not (slice_index_or marks v true)

-- meets one vertex
abbrev pub with_met : ℕ → Met → Met
with_met v m = if is_new m.marks v then record { marks = slice_set m.marks v true; met = m.met ++ v ∷ [] } else m

-- meets these vertices, one after another
abbrev pub with_all_met : List ℕ → Met → Met
with_all_met [] m = m
with_all_met (v ∷ vs) m = with_all_met vs (with_met v m)
