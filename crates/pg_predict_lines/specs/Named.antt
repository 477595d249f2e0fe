-- What a finding names.
use Rattle.std.specs.Prelude.{ℕ, List, [], ◌∷◌, Bool, true, false}
use Rattle.pg_predict_conditions.specs.declared.violation.ViolationKind.{ViolationKind}
use Rattle.pg_predict_conditions.specs.declared.violation.ViolationKind.TheVariants.{LeftRecursion, EmptyRound, EmptyAlternative, AlternativesMeet, AlternativeMeetsFollow, RoundMeetsFollow, EmptyOperand, OperandMeetsOperators, FollowMeetsOperators, GapMeets, StepCostOver}
use Rattle.pg_predict_lines.specs.declared.named.Named.{Named}
use Rattle.pg_predict_lines.specs.declared.named.Named.TheVariants.{Nothing, One, Two}

-- none, one or two numbers
abbrev pub numbers : Named → List ℕ
numbers Nothing = []
numbers (One n) = n ∷ []
numbers (Two m n) = m ∷ n ∷ []

-- the alternatives that a finding names
abbrev pub named_alternatives : ViolationKind ℕ → List ℕ
named_alternatives LeftRecursion = []
named_alternatives EmptyRound = []
named_alternatives (EmptyAlternative k) = k ∷ []
named_alternatives (AlternativesMeet j k s t) = j ∷ k ∷ []
named_alternatives (AlternativeMeetsFollow k s t) = k ∷ []
named_alternatives (RoundMeetsFollow s t) = []
named_alternatives EmptyOperand = []
named_alternatives (OperandMeetsOperators s) = []
named_alternatives (FollowMeetsOperators s) = []
named_alternatives (GapMeets s) = []
named_alternatives StepCostOver = []

-- the starts that meet, or the one that meets operators or a gap
abbrev pub named_starts : ViolationKind ℕ → List ℕ
named_starts LeftRecursion = []
named_starts EmptyRound = []
named_starts (EmptyAlternative k) = []
named_starts (AlternativesMeet j k s t) = s ∷ t ∷ []
named_starts (AlternativeMeetsFollow k s t) = s ∷ t ∷ []
named_starts (RoundMeetsFollow s t) = s ∷ t ∷ []
named_starts EmptyOperand = []
named_starts (OperandMeetsOperators s) = s ∷ []
named_starts (FollowMeetsOperators s) = s ∷ []
named_starts (GapMeets s) = s ∷ []
named_starts StepCostOver = []

-- the finding is about the cost of a parse, and not about any text
abbrev pub is_about_no_text : ViolationKind ℕ → Bool
is_about_no_text StepCostOver = true
is_about_no_text _ = false
