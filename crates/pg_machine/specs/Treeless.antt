-- Runs that make no trees.
use Rattle.std.specs.Prelude.{◌≡◌, ◌≤◌, ◌+◌, ◌-◌, ◌*◌, ◌^◌, ℕ, []}
use Rattle.pg_text.specs.Position.{position_of}
use Rattle.pg_table.specs.Tables.{Table}
use Rattle.pg_language.specs.Answers.{Given, AnswersStart}
use Rattle.pg_language.specs.Outcomes.{Outcome, ok, failed, empty_round}
use Rattle.pg_machine.specs.Outcomes.{outcome_of}
use Rattle.pg_machine.specs.declared.answer.Outcome as ended
use Rattle.pg_machine.specs.declared.answer.Outcome.TheVariants.{Answered, StepsUsed, EmptyRound}

-- an outcome without its trees
abbrev pub treeless : Outcome → Outcome
treeless (ok c b v t e) = ok c b [] t e
treeless (failed c e) = failed c e
treeless empty_round = empty_round

-- a run has ended with this outcome but for its trees, after two turns for each of so many nodes but one for the first
abbrev pub EndsTreeless : Given → Outcome → ℕ → ended.Outcome → Type 0
EndsTreeless G o m (Answered a) = (outcome_of a ≡ treeless o) × (a.error.position ≡ position_of G.text a.error.place) × (a.steps + 1 ≡ 2 * m)
EndsTreeless G o m StepsUsed = ⊥
EndsTreeless G o m EmptyRound = o ≡ empty_round

-- it is the outcome that the start rule has, if that takes no more turns than can be counted
abbrev pub IsTreeless : Given → Table → ended.Outcome → Type 0
IsTreeless G table ends = (o : Outcome) (m : ℕ) → AnswersStart G table o m → 2 * m ≤ 2 ^ 64 - 1 → EndsTreeless G o m ends
