-- Violations: broken conditions, with the numbers of their nodes.
use Rattle.std.specs.Prelude.{◌-◌, ◌^◌, ℕ, min, List, length, map}
use Rattle.pg_predict_conditions.specs.declared.violation.ViolationKind.{ViolationKind}

-- how a condition is broken, and at which node
pub record Violation (S : Type 0) : Type 0 where
  pub node : ℕ
  pub kind : ViolationKind S

-- how they are broken
abbrev pub kinds_of : List (Violation ℕ) → List (ViolationKind ℕ)
kinds_of = map (λ v. v.kind)

-- how many there are, in a machine's numbers
abbrev pub counted : {A : Type 0} → List A → ℕ
counted xs = min (length xs) (2 ^ 64 - 1)
