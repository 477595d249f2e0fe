-- The bytes that went through a reader or a writer, where they are known.
use Rattle.std.specs.Prelude.{ℕ, ◌<◌, List, length, take, Option}
use Rattle.std.specs.Io.KnownBytes.{Appends, Consumes}

-- the writer's bytes grew by a prefix of these, perhaps by none or by all
abbrev pub AppendsPrefix : Option (List ℕ) → Option (List ℕ) → List ℕ → Type 0
AppendsPrefix old new bytes = (n : ℕ) × Appends old new (take n bytes)

-- the reader gave more than `limit` bytes
abbrev pub IsPast : ℕ → Option (List ℕ) → Option (List ℕ) → Type 0
IsPast limit old new = (bytes : List ℕ) × (limit < length bytes) × Consumes old new bytes
