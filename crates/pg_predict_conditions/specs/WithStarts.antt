-- Violations with starts in place of their numbers: while a grammar is judged, a start is known by its number.
use Rattle.std.specs.Prelude.{ℕ, List, slice_index_or}
use Rattle.pg_sets_own.specs.declared.listed.ListedStart.{ListedStart}
use Rattle.pg_predict_conditions.specs.Violations.{Violation}
use Rattle.pg_predict_conditions.specs.declared.violation.ViolationKind.{ViolationKind}
use Rattle.pg_predict_conditions.specs.declared.violation.ViolationKind.TheVariants.{LeftRecursion, EmptyRound, EmptyAlternative, AlternativesMeet, AlternativeMeetsFollow, RoundMeetsFollow, EmptyOperand, OperandMeetsOperators, FollowMeetsOperators, GapMeets, StepCostOver}

-- the starts of the sets, and the operator start, which needn't be one of them
pub record Starts : Type 0 where
  pub listed : List ListedStart
  pub own : ListedStart

-- the start with this number; the operator start if no start of the sets has it
abbrev pub start_at : Starts → ℕ → ListedStart
start_at starts s = slice_index_or starts.listed s starts.own

-- the kind, with starts in place of their numbers
abbrev pub kind_with_starts : Starts → ViolationKind ℕ → ViolationKind ListedStart
kind_with_starts starts LeftRecursion = LeftRecursion
kind_with_starts starts EmptyRound = EmptyRound
kind_with_starts starts (EmptyAlternative k) = EmptyAlternative k
kind_with_starts starts (AlternativesMeet j k s t) = AlternativesMeet j k (start_at starts s) (start_at starts t)
kind_with_starts starts (AlternativeMeetsFollow k s t) = AlternativeMeetsFollow k (start_at starts s) (start_at starts t)
kind_with_starts starts (RoundMeetsFollow s t) = RoundMeetsFollow (start_at starts s) (start_at starts t)
kind_with_starts starts EmptyOperand = EmptyOperand
kind_with_starts starts (OperandMeetsOperators s) = OperandMeetsOperators (start_at starts s)
kind_with_starts starts (FollowMeetsOperators s) = FollowMeetsOperators (start_at starts s)
kind_with_starts starts (GapMeets s) = GapMeets (start_at starts s)
kind_with_starts starts StepCostOver = StepCostOver

-- the violation, with starts in place of their numbers
abbrev pub with_starts : Starts → Violation ℕ → Violation ListedStart
with_starts starts violation = record { node = violation.node; kind = kind_with_starts starts violation.kind }
