use Rattle.std.proofs.Common.{◌≤◌, ℕ}
use Rattle.pg_certificate_verify.specs.Nullable.{IsMarkedBy}
use Rattle.pg_certificate_verify.proofs.nullable.fill_marks.Given as goal

abbrev pub invariant-loop-p : goal.invariant-loop-p
invariant-loop-p l = record {
  each : (p : ℕ) → l.p ≤ p → IsMarkedBy l.grammar l.claims l.marks p;
}
