use Rattle.std.proofs.Common.{◌⊎◌, ℕ}
use Rattle.std.specs.Prelude.{◌↔◌}
use Rattle.pg_sets_own.specs.Listed.{IsListed}
use Rattle.pg_sets_own.specs.declared.listed.ListedStart.{ListedStart}
use Rattle.pg_sets.specs.Origins.{HoldsIt, IsThere}
use Rattle.pg_certificate_verify.specs.SetsBy.{ClaimsBelow}
use Rattle.pg_certificate_verify.proofs.origins.add_claims.Given as goal

abbrev pub invariant-loop-rule : goal.invariant-loop-rule
invariant-loop-rule l = record {
  held : (other : ListedStart) (v : ℕ) → HoldsIt l.origins other v ↔ (HoldsIt l.initial.origins other v ⊎ ClaimsBelow l.basis.grammar.now l.claims l.rule other v);
  there : (other : ListedStart) → IsThere l.origins other → IsThere l.initial.origins other ⊎ IsListed l.basis.grammar.now other;
}
