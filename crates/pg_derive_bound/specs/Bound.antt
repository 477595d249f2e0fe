-- The bound on the steps of a run, as one fact each: if the relation enters m nodes, a run takes 2 * m - 1 steps.
use Rattle.std.specs.Prelude.{◌≡◌, ◌≤◌, ◌+◌, ◌-◌, ◌*◌, ℕ, Bool, List, length}
use Rattle.pg_predict_costs.specs.StepCost.{IsStepCost}
use Rattle.pg_predict_costs.specs.Steps.{cut_off}
use Rattle.pg_predict.specs.Conditions.{IsFaultless}
use Rattle.pg_grammar_value.specs.Grammar.{Grammar, IsGrammar}
use Rattle.pg_derive.specs.Accepted.{Accepts}
use Rattle.pg_derive.specs.ClosedSets.{NodeSets}
use Rattle.pg_derive.specs.PredictiveLaws.{Predicts}
use Rattle.pg_graph.specs.Marks.{is_marked}
use Rattle.pg_language.specs.Answers.{Given, AnswersStart}
use Rattle.pg_language.specs.Outcomes.{Outcome, ok, failed, empty_round}
use Rattle.pg_language.specs.WholeTexts.{AnswersText}
use Rattle.pg_sets.specs.Sets.{Sets, AreSets}
use Rattle.pg_table.specs.Tables.{Table, ComesFrom}

-- under each table that comes from the grammar, every answer of the start rule to a text of n characters takes at most
-- k * (n + 1) steps
abbrev pub StartIsAnsweredWithin : Given → ℕ → Type 0
StartIsAnsweredWithin G k = (table : Table) → ComesFrom G.grammar table → (o : Outcome) (m : ℕ) → AnswersStart G table o m → 2 * m ≤ k * (length G.text + 1)

-- as `StartIsAnsweredWithin`, for the start rule with the end of the text after it
abbrev pub TextIsAnsweredWithin : Given → ℕ → Type 0
TextIsAnsweredWithin G k = (table : Table) → ComesFrom G.grammar table → (o : Outcome) (m : ℕ) → AnswersText G table o m → 2 * m ≤ k * (length G.text + 1)

-- ---- predictive grammars, by any sets that show them to be so

-- the marks are on the nodes that the sets claim to be nullable, and the number is the grammar's step cost by them
pub record HasClaimedStepCost (G : Given) (sets : NodeSets) (k : ℕ) : Type 0 where
  pub nullable : List Bool
  pub marks : (p : ℕ) → is_marked nullable p ≡ sets.nullable p
  pub cost : IsStepCost G.grammar nullable k

abbrev pub PredictiveStartsAreAnsweredInTime : Type 0
PredictiveStartsAreAnsweredInTime = (G : Given) (sets : NodeSets) → Predicts G sets → (k : ℕ) → HasClaimedStepCost G sets k → StartIsAnsweredWithin G k

abbrev pub PredictiveTextsAreAnsweredInTime : Type 0
PredictiveTextsAreAnsweredInTime = (G : Given) (sets : NodeSets) → Predicts G sets → (k : ℕ) → HasClaimedStepCost G sets k → TextIsAnsweredWithin G k

-- ---- accepted grammars, by their least sets

-- there is a step cost
abbrev pub AcceptedGrammarsHaveAStepCost : Type 0
AcceptedGrammarsHaveAStepCost = (g : Grammar) (sets : Sets) → IsGrammar g → AreSets g sets → IsFaultless g → (k : ℕ) × IsStepCost g sets.nullable k

abbrev pub AcceptedStartsAreAnsweredInTime : Type 0
AcceptedStartsAreAnsweredInTime = (G : Given) (sets : Sets) → Accepts G sets → (k : ℕ) → IsStepCost G.grammar sets.nullable k → StartIsAnsweredWithin G k

abbrev pub AcceptedTextsAreAnsweredInTime : Type 0
AcceptedTextsAreAnsweredInTime = (G : Given) (sets : Sets) → Accepts G sets → (k : ℕ) → IsStepCost G.grammar sets.nullable k → TextIsAnsweredWithin G k

-- the outcome is an answer, and not an empty round of a repetition
abbrev pub IsAnswer : Outcome → Type 0
IsAnswer (ok c b v t e) = Unit {0}
IsAnswer (failed c e) = Unit {0}
IsAnswer empty_round = ⊥

-- a run of the start rule that may take at least this many steps reaches an answer
abbrev pub AcceptedStartsComeToAnswers : Type 0
AcceptedStartsComeToAnswers = (G : Given) (sets : Sets) → Accepts G sets → (k : ℕ) → IsStepCost G.grammar sets.nullable k → (table : Table) → ComesFrom G.grammar table →
    (most : ℕ) → k * (length G.text + 1) ≤ most → (o : Outcome) × (m : ℕ) × AnswersStart G table o m × (2 * m ≤ most) × IsAnswer o

-- ---- numbers of 64 bits

-- the number is the step cost, or the greatest number if that is greater
abbrev pub IsLimitedStepCost : Grammar → List Bool → ℕ → Type 0
IsLimitedStepCost g nullable cost = (k : ℕ) → IsStepCost g nullable k → cost ≡ cut_off k

-- the steps of a run, counted up to the greatest number, are at most that number times n + 1
abbrev pub AcceptedRunsTakeFewSteps : Type 0
AcceptedRunsTakeFewSteps = (G : Given) (sets : Sets) → Accepts G sets → (cost : ℕ) → IsLimitedStepCost G.grammar sets.nullable cost → (table : Table) → ComesFrom G.grammar table →
    (o : Outcome) (m : ℕ) → AnswersText G table o m → cut_off (2 * m - 1) ≤ cost * (length G.text + 1)
