-- Laws of runs, as one fact each.
use Rattle.std.specs.Prelude.{◌≡◌, ◌+◌, ◌*◌, ◌≤◌, ℕ, length}
use Rattle.pg_predict_costs.specs.StepCost.{IsStepCost}
use Rattle.pg_derive.specs.Accepted.{Accepts}
use Rattle.pg_derive.specs.PredictiveLaws.{as_read}
use Rattle.pg_language.specs.Answers.{Given}
use Rattle.pg_language.specs.declared.reading.Reading.{Reading}
use Rattle.pg_machine.specs.Outcomes.{IsOutcome}
use Rattle.pg_machine.specs.declared.answer.Answer.{Answer}
use Rattle.pg_machine.specs.declared.answer.Outcome as ended
use Rattle.pg_machine.specs.declared.answer.Outcome.TheVariants.{Answered}
use Rattle.pg_sets.specs.Sets.{Sets}
use Rattle.pg_table.specs.Tables.{Table, ComesFrom}

-- a run of an accepted grammar that may take at least its step cost for each character of the text, and for the end, ends with an
-- answer: its steps aren't used up, and it meets no empty round
abbrev pub AcceptedProbesAnswer : Type 0
AcceptedProbesAnswer = (G : Given) (sets : Sets) → Accepts G sets → (k : ℕ) → IsStepCost G.grammar sets.nullable k → (table : Table) → ComesFrom G.grammar table →
    (most : ℕ) → k * (length G.text + 1) ≤ most → (o : ended.Outcome) → IsOutcome G table most o → (a : Answer) × (o ≡ Answered a)

-- ---- both readings of choice

-- runs of an accepted grammar in two readings, within the same number of steps, have one outcome: the same answer after as many steps, with
-- the same error, place, table, trees and trail, or steps used up in both
abbrev pub ReadingsHaveOneOutcome : Type 0
ReadingsHaveOneOutcome = (G : Given) (sets : Sets) → Accepts G sets → (table : Table) → ComesFrom G.grammar table → (most : ℕ) → (one other : Reading) →
    (o q : ended.Outcome) → IsOutcome (as_read one G) table most o → IsOutcome (as_read other G) table most q → o ≡ q

-- if they may take at least the step cost for each character of the text, and for the end, both end with one answer
abbrev pub ReadingsComeToOneAnswer : Type 0
ReadingsComeToOneAnswer = (G : Given) (sets : Sets) → Accepts G sets → (k : ℕ) → IsStepCost G.grammar sets.nullable k → (table : Table) → ComesFrom G.grammar table →
    (most : ℕ) → k * (length G.text + 1) ≤ most → (one other : Reading) → (o q : ended.Outcome) →
    IsOutcome (as_read one G) table most o → IsOutcome (as_read other G) table most q → (a : Answer) × (o ≡ Answered a) × (q ≡ Answered a)
