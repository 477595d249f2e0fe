use Rattle.std.proofs.Common.{◌≡◌, ℕ, ◌⊎◌}
use Rattle.std.specs.Prelude.{◌↔◌}
use Rattle.pg_sets.specs.Origins.{HoldsIt, IsThere}
use Rattle.pg_sets_own.specs.Own.{IsAmong}
use Rattle.pg_sets_own.specs.declared.listed.ListedStart.{ListedStart}
use Rattle.pg_sets.proofs.origins.add_own.Given as goal

abbrev pub invariant-loop-listed : goal.invariant-loop-listed
invariant-loop-listed l = record {
  held : (other : ListedStart) (v : ℕ) → HoldsIt l.origins other v ↔ (HoldsIt l.initial.origins other v ⊎ (IsAmong l.yielded other × (l.set ≡ v)));
  there : (other : ListedStart) → IsThere l.origins other → IsThere l.initial.origins other ⊎ IsAmong l.yielded other;
}
