use Rattle.std.proofs.Common.{◌≡◌, ◌≤◌, ◌||◌, ℕ, All, drop}
use Rattle.std.specs.Char.{IsScalar}
use Rattle.pg_class.specs.Ranges.{has}
use Rattle.pg_pred_program.proofs.categories.char_ranges.Given as goal

abbrev pub invariant-loop-r : goal.invariant-loop-r
invariant-loop-r l = record {
  ascend : All (λ r. r.0 ≤ r.1) l.out.items;
  members : (c : ℕ) → IsScalar c → (has l.out.items c || has (drop l.r-index l.ranges) c) ≡ has l.ranges c;
}
