-- What is read from a file.
use Rattle.std.specs.Prelude.{ℕ, List, Option}
use Rattle.std.specs.Io.KnownBytes.{Consumes, IsAtEnd}

-- these are all the bytes that a reader had left, up to its end
abbrev pub IsAllOf : Option (List ℕ) → List ℕ → Type 0
IsAllOf reader bytes = (left : Option (List ℕ)) × Consumes reader left bytes × IsAtEnd left
