-- When the starts of sets by claims are enough for true starts.
use Rattle.std.specs.Prelude.{◌≡◌, ◌⊎◌}
use Rattle.pg_start.specs.declared.kind.StartKind.{StartKind}
use Rattle.pg_sets_own.specs.declared.listed.ListedStart.{ListedStart}
use Rattle.pg_certificate_verify.specs.Covering.{IsWiderClass}

-- the first is a class that contains the other, or the same start
abbrev pub CoversKind : StartKind → StartKind → Type 0
CoversKind one start = IsWiderClass one start ⊎ (one ≡ start)

-- one of some listed starts covers the start
abbrev pub HasCovering : (ListedStart → Type 0) → StartKind → Type 0
HasCovering Held start = (listed : ListedStart) × Held listed × CoversKind listed.start start
