use Rattle.std.proofs.Common.{◌≤◌, ℕ}
use Rattle.pg_certificate_verify.specs.Cost.{IsCostBy}
use Rattle.pg_certificate_verify.proofs.cost.fill_costs.Given as goal

abbrev pub invariant-loop-p : goal.invariant-loop-p
invariant-loop-p l = record {
  each : (p : ℕ) → l.p ≤ p → IsCostBy l.grammar l.claims l.nullable l.costs p;
}
