use Rattle.std.proofs.Common.{◌≤◌, ℕ}
use Rattle.pg_predict_costs.specs.Rounds.{IsSized}
use Rattle.pg_predict_costs.proofs.sizes.fill_sizes.Given as goal

abbrev pub invariant-loop-p : goal.invariant-loop-p
invariant-loop-p l = record {
  sized : (p : ℕ) → l.p ≤ p → IsSized l.grammar l.costs l.sizes p;
}
