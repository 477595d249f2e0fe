use Rattle.std.proofs.Common.{◌≤◌, ℕ}
use Rattle.pg_certificate_verify.specs.Rank.{IsRankedBy}
use Rattle.pg_certificate_verify.proofs.rank.fill_ranks.Given as goal

abbrev pub invariant-loop-p : goal.invariant-loop-p
invariant-loop-p l = record {
  each : (p : ℕ) → l.p ≤ p → IsRankedBy l.grammar l.claims l.nullable l.ranks p;
}
