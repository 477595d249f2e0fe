-- What is written about findings.
use Rattle.std.specs.Prelude.{ℕ, List, Option}
use Rattle.std.specs.Io.KnownBytes.{Appends}
use Rattle.pg_tree.specs.Bytes.{AppendsPrefix}
use Rattle.pg_text_pieces.specs.Writing.{Puts}

-- some page was written
abbrev pub WritesPage : Option (List ℕ) → Option (List ℕ) → Type 0
WritesPage writer held = (page : List ℕ) × Appends writer held page

-- some page was written, or a prefix of one
abbrev pub WritesPartOfPage : Option (List ℕ) → Option (List ℕ) → Type 0
WritesPartOfPage writer held = (page : List ℕ) × AppendsPrefix writer held page

-- some lines were put into the buffer after those that it held
abbrev pub PutsLines : Option (List ℕ) → List ℕ → Option (List ℕ) → List ℕ → Type 0
PutsLines before held after holds = (lines : List ℕ) × Puts before held after holds lines
