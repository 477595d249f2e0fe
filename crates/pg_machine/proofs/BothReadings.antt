-- Both readings of choice give a run of an accepted grammar one outcome.
use Rattle.std.proofs.Common.{◌≡◌, ◌<◌, ◌≤◌, ◌+◌, ◌*◌, ℕ, length, List, Bool, false, refl, sym, ap, ◌∙◌, subst, arith}
use Rattle.std.specs.Prelude.{Option, Some, None}
use Rattle.pg_text.specs.Position.{position_of}
use Rattle.pg_text.specs.declared.position.Pos.{Pos}
use Rattle.pg_message.specs.declared.error.ParseError.{ParseError}
use Rattle.pg_derive.specs.Accepted.{Accepts}
use Rattle.pg_derive.specs.LeastSets.{node_sets}
use Rattle.pg_derive.specs.PredictiveLaws.{Predicts, as_read}
use Rattle.pg_derive.proofs.AcceptedTexts.{predicts}
use Rattle.pg_derive.proofs.Readings.{readings_agree}
use Rattle.pg_derive_bound.proofs.Nodes.{is_node}
use Rattle.pg_grammar_value.specs.declared.grammar.Rule as declared
use Rattle.pg_language.specs.Answers.{Given, Answers, AnswersStart}
use Rattle.pg_language.specs.Derives.{Spot}
use Rattle.pg_language.specs.Errors.{Error, in_text, no_messages_at, without_position}
use Rattle.pg_language.specs.Outcomes as outcome
use Rattle.pg_language.specs.Outcomes.{Outcome}
use Rattle.pg_language.specs.declared.reading.Reading.{Reading}
use Rattle.pg_language.proofs.Unique.{Same, same}
use Rattle.pg_machine.specs.Laws.{AcceptedProbesAnswer, ReadingsHaveOneOutcome, ReadingsComeToOneAnswer}
use Rattle.pg_machine.specs.Outcomes.{outcome_of, outcome_with, IsAnswer, IsOutcome}
use Rattle.pg_machine.specs.declared.answer.Answer.{Answer}
use Rattle.pg_machine.specs.declared.answer.Outcome as ended
use Rattle.pg_machine.specs.declared.answer.Outcome.TheVariants.{Answered, StepsUsed, EmptyRound}
use Rattle.pg_machine.specs.declared.answer.Success.{Success}
use Rattle.pg_sets.specs.Sets.{Sets}
use Rattle.pg_table.specs.Tables.{Table, ComesFrom}

-- ---- an answer is known by its outcome and its steps

-- the answer with this outcome and these steps; an empty round has none
answer_in : List ℕ → Outcome → ℕ → Answer
answer_in text (outcome.ok c b v t e) k =
    record { consumed = c; error = in_text text e; steps = k; success = Some (record { place = b.place; table = b.table; forest = v; trail = t }) }
answer_in text (outcome.failed c e) k = record { consumed = c; error = in_text text e; steps = k; success = None }
answer_in text outcome.empty_round k = record { consumed = false; error = in_text text (no_messages_at 0); steps = k; success = None }

known : (text : List ℕ) (c : Bool) (e : ParseError) (k : ℕ) (s : Option Success) → e.position ≡ position_of text e.place
    → answer_in text (outcome_with c (without_position e) s) k ≡ record { consumed = c; error = e; steps = k; success = s }
unfolding answer_in
known text c e k None h =
    let at : Pos → Answer = λ (p : Pos). record { consumed = c; error = record { place = e.place; position = p; messages = e.messages }; steps = k; success = None } in ap at (sym h)
known text c e k (Some s) h =
    let at : Pos → Answer = λ (p : Pos). record { consumed = c; error = record { place = e.place; position = p; messages = e.messages }; steps = k; success = Some s } in ap at (sym h)

one_answer : (text : List ℕ) (a b : Answer) → a.error.position ≡ position_of text a.error.place → b.error.position ≡ position_of text b.error.place
    → outcome_of a ≡ outcome_of b → a.steps ≡ b.steps → a ≡ b
one_answer text a b at other same steps =
    let first : answer_in text (outcome_of a) a.steps ≡ a = known text a.consumed a.error a.steps a.success at in
    let second : answer_in text (outcome_of b) b.steps ≡ b = known text b.consumed b.error b.steps b.success other in
    let outcomes : answer_in text (outcome_of a) a.steps ≡ answer_in text (outcome_of b) a.steps = ap (λ (o : Outcome). answer_in text o a.steps) same in
    let counts : answer_in text (outcome_of b) a.steps ≡ answer_in text (outcome_of b) b.steps = ap (answer_in text (outcome_of b)) steps in
    sym first ∙ outcomes ∙ counts ∙ second

no_round : (c : Bool) (e : Error) (s : Option Success) → outcome_with c e s ≡ outcome.empty_round → ⊥
no_round c e None h = absurd cc
no_round c e (Some s) h = absurd cc

-- ---- runs of the start rule

same_start : {G : Given} {table : Table} {o q : Outcome} {m n : ℕ} → AnswersStart G table o m → AnswersStart G table q n → Same o q m n
same_start {G = G} {table = table} {q = q} {n = n} one other =
    let rule : other.start ≡ one.start = cc in
    same one.body (subst (λ (r : declared.Rule). Answers G r.body (record { place = 0; table = table }) q n) rule other.body)

read_as : (reading : Reading) (G : Given) (sets : Sets) → Accepts G sets → Accepts (as_read reading G) sets
read_as reading G sets h = record { grammar = h.grammar; least = h.least; faultless = h.faultless; text = h.text }

module _ (G : Given) (sets : Sets) (accepts : Accepts G sets) (table : Table) (from : ComesFrom G.grammar table) (most : ℕ) where
  start_read : (one other : Reading) (o : Outcome) (m : ℕ) → AnswersStart (as_read one G) table o m → AnswersStart (as_read other G) table o m
  start_read one other o m d =
      let a : Spot = record { place = 0; table = table } in
      let inside = is_node (as_read one G) (node_sets G.grammar sets) (predicts (as_read one G) sets (read_as one G sets accepts)) d.body in
      record {
        start = d.start;
        is_start = d.is_start;
        body = readings_agree G (node_sets G.grammar sets) (predicts G sets accepts) one other d.start.body inside a o m from (omega arith) d.body;
      }

  both : (one other : Reading) (o q : ended.Outcome) → IsOutcome (as_read one G) table most o → IsOutcome (as_read other G) table most q → o ≡ q
  both one other (Answered a) (Answered b) (h, few) (r, low) =
      let s = same_start (start_read one other (outcome_of a) h.entered h.answers) r.answers in
      let count = s.count in
      let taken = h.steps in
      let took = r.steps in
      let steps : a.steps ≡ b.steps = omega arith in
      ap Answered (one_answer G.text a b h.position r.position s.outcome steps)
  both one other (Answered a) StepsUsed (h, few) r =
      let more = r (outcome_of a) h.entered (start_read one other (outcome_of a) h.entered h.answers) in
      let taken = h.steps in
      absurd (omega arith)
  both one other (Answered a) EmptyRound (h, few) r =
      absurd (no_round a.consumed (without_position a.error) a.success (same_start (start_read one other (outcome_of a) h.entered h.answers) r.1).outcome)
  both one other StepsUsed (Answered b) h (r, low) =
      let more = h (outcome_of b) r.entered (start_read other one (outcome_of b) r.entered r.answers) in
      let taken = r.steps in
      absurd (omega arith)
  both one other StepsUsed StepsUsed h r = refl
  both one other StepsUsed EmptyRound h r =
      let more = h outcome.empty_round r.0 (start_read other one outcome.empty_round r.0 r.1) in
      let few = r.2 in
      absurd (omega arith)
  both one other EmptyRound (Answered b) h (r, low) =
      absurd (no_round b.consumed (without_position b.error) b.success (same_start (start_read other one (outcome_of b) r.entered r.answers) h.1).outcome)
  both one other EmptyRound StepsUsed h r =
      let more = r outcome.empty_round h.0 (start_read one other outcome.empty_round h.0 h.1) in
      let few = h.2 in
      absurd (omega arith)
  both one other EmptyRound EmptyRound h r = refl

pub one_outcome : ReadingsHaveOneOutcome
one_outcome G sets accepts table from most one other o q h r = both G sets accepts table from most one other o q h r

pub come_to_one : AcceptedProbesAnswer → ReadingsComeToOneAnswer
come_to_one law G sets accepts k cost table from most enough one other o q h r =
    let found = law (as_read one G) sets (read_as one G sets accepts) k cost table from most enough o h in
    (found.0, found.1, sym (both G sets accepts table from most one other o q h r) ∙ found.1)
