-- An accepted grammar's probe that may take enough steps ends with an answer.
use Rattle.std.proofs.Common.{◌≡◌, ◌≤◌, ◌*◌, ℕ, refl, subst, arith}
use Rattle.pg_derive_bound.specs.Bound.{AcceptedStartsComeToAnswers, IsAnswer}
use Rattle.pg_language.specs.Answers.{Given, Answers, AnswersStart}
use Rattle.pg_language.specs.Outcomes as outcome
use Rattle.pg_language.specs.Outcomes.{Outcome}
use Rattle.pg_language.proofs.Unique.{same}
use Rattle.pg_machine.specs.Laws.{AcceptedProbesAnswer}
use Rattle.pg_machine.specs.Outcomes.{IsOutcome}
use Rattle.pg_machine.specs.declared.answer.Answer.{Answer}
use Rattle.pg_machine.specs.declared.answer.Outcome as ended
use Rattle.pg_machine.specs.declared.answer.Outcome.TheVariants.{Answered, StepsUsed, EmptyRound}
use Rattle.pg_table.specs.Tables.{Table}
use Rattle.pg_grammar_value.specs.declared.grammar.Rule as declared

-- the start rule has one outcome
one_start : {G : Given} {table : Table} {o q : Outcome} {m n : ℕ} → AnswersStart G table o m → AnswersStart G table q n → o ≡ q
one_start {G = G} {table = table} {q = q} {n = n} one other =
    let rule : other.start ≡ one.start = cc in
    let body = subst (λ (r : declared.Rule). Answers G r.body (record { place = 0; table = table }) q n) rule other.body in
    (same one.body body).outcome

no_answer : (o : Outcome) → IsAnswer o → o ≡ outcome.empty_round → ⊥
no_answer o is empty = subst IsAnswer empty is

module _ (G : Given) (table : Table) (most m : ℕ) (o : Outcome) (answers : AnswersStart G table o m) (few : 2 * m ≤ most) (is : IsAnswer o) where
  pub probed : (ends : ended.Outcome) → IsOutcome G table most ends → (a : Answer) × (ends ≡ Answered a)
  probed (Answered a) h = (a, refl)
  probed StepsUsed h = absurd (let more = h o m answers in omega arith)
  probed EmptyRound h = absurd (no_answer o is (one_start answers h.1))

pub accepted_probed : AcceptedStartsComeToAnswers → AcceptedProbesAnswer
accepted_probed come G sets accepts k cost table comes most within ends h =
    let found = come G sets accepts k cost table comes most within in
    probed G table most found.1 found.0 found.2 found.3 found.4 ends h
