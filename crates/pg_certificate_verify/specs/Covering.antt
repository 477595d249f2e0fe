-- When a start is covered by claimed starts.
use Rattle.std.specs.Prelude.{◌≡◌, ◌⊎◌, ℕ, List, [], ◌∷◌}
use Rattle.pg_class.specs.Ranges.{IsWithin}
use Rattle.pg_sets_own.specs.declared.listed.ListedStart.{ListedStart}
use Rattle.pg_start.specs.Starts.{MatchesAt}
use Rattle.pg_start.specs.declared.kind.StartKind.{StartKind}
use Rattle.pg_start.specs.declared.kind.StartKind.TheVariants.{Class}

-- both are classes, and the first contains the second
abbrev pub IsWiderClass : StartKind → StartKind → Type 0
IsWiderClass (Class wider) (Class class) = IsWithin class wider
IsWiderClass _ _ = ⊥

-- a class covers each class that it contains, and every start covers itself
abbrev pub CoversStart : ListedStart → ListedStart → Type 0
CoversStart claimed listed = IsWiderClass claimed.start listed.start ⊎ (claimed ≡ listed)

-- one of the claimed starts covers the start
abbrev pub IsCovered : List ListedStart → ListedStart → Type 0
IsCovered [] listed = ⊥
IsCovered (one ∷ claimed) listed = CoversStart one listed ⊎ IsCovered claimed listed

-- one of the starts matches at the place
abbrev pub SomeMatchesAt : List ListedStart → List ℕ → ℕ → Type 0
SomeMatchesAt [] text place = ⊥
SomeMatchesAt (one ∷ starts) text place = MatchesAt one.start text place ⊎ SomeMatchesAt starts text place
