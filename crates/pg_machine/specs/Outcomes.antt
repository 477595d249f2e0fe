-- The outcomes of a run.
use Rattle.std.specs.Prelude.{◌≡◌, ◌<◌, ◌≤◌, ◌+◌, ◌*◌, ℕ, List, [], ◌∷◌, Bool, Option, Some, None, drop}
use Rattle.pg_text.specs.Position.{position_of}
use Rattle.pg_language.specs.Derives.{Spot, Derives}
use Rattle.pg_table.specs.Tables.{Table}
use Rattle.pg_language.specs.Answers.{Given, AnswersStart}
use Rattle.pg_language.specs.Errors.{Error, without_position}
use Rattle.pg_language.specs.Outcomes as outcome
use Rattle.pg_language.specs.Outcomes.{Outcome}
use Rattle.pg_message_tape.specs.Messages.{error_of}
use Rattle.pg_machine_turns.specs.Spots.{spot_at}
use Rattle.pg_machine_turns.specs.Tape.{Tape, tape_at, tape_with, tape_endless}
use Rattle.pg_machine.specs.declared.answer.Answer.{Answer}
use Rattle.pg_machine.specs.declared.answer.Success.{Success}
use Rattle.pg_machine.specs.declared.answer.Outcome as ended
use Rattle.pg_machine.specs.declared.answer.Outcome.TheVariants.{Answered, StepsUsed, EmptyRound}
use Rattle.pg_machine_turns.specs.declared.frame.Reply.{Reply}
use Rattle.pg_machine_turns.specs.declared.frame.Reply.TheVariants as reply
use Rattle.pg_machine_turns.specs.declared.machine.Machine.{Machine}

-- the outcome of an answer with these parts, without its error's position
abbrev pub outcome_with : Bool → Error → Option Success → Outcome
outcome_with consumed e None = outcome.failed consumed e
outcome_with consumed e (Some s) = outcome.ok consumed (spot_at s.table s.place) s.forest s.trail e

-- an answer of the machine as an outcome of the relation
abbrev pub outcome_of : Answer → Outcome
outcome_of a = outcome_with a.consumed (without_position a.error) a.success

-- an ok outcome of a node is a derivation
abbrev pub IsDerived : Given → ℕ → Spot → Outcome → Type 0
IsDerived G p a (outcome.ok c b v t e) = Derives G.grammar G.text p a b v t
IsDerived G p a (outcome.failed c e) = Unit {0}
IsDerived G p a outcome.empty_round = Unit {0}

-- an answer of the start rule: the relation's, with its error's position, after two turns for each node but one for the first
pub record IsAnswer (G : Given) (table : Table) (a : Answer) : Type 0 where
  pub entered : ℕ
  pub answers : AnswersStart G table (outcome_of a) entered
  pub position : a.error.position ≡ position_of G.text a.error.place
  pub steps : a.steps + 1 ≡ 2 * entered
  pub derived : IsDerived G answers.start.body (spot_at table 0) (outcome_of a)

-- a run of the start rule within this many steps: it gives the relation's outcome exactly if that takes no more
abbrev pub IsOutcome : Given → Table → ℕ → ended.Outcome → Type 0
IsOutcome G table most (Answered a) = IsAnswer G table a × (a.steps ≤ most)
IsOutcome G table most StepsUsed = (o : Outcome) (m : ℕ) → AnswersStart G table o m → most + 1 < 2 * m
IsOutcome G table most EmptyRound = (m : ℕ) × AnswersStart G table outcome.empty_round m × (2 * m ≤ most + 1)

-- ---- the end of the machine's run

-- the outcome on the tape, if no frame is left
abbrev pub outcome_on : Tape → Option Outcome
outcome_on (tape_at p i fs v t x T) = None
outcome_on (tape_with r (f ∷ fs) v t x T) = None
outcome_on (tape_with (reply.Succeeded c j error) [] v t x T) = Some (outcome.ok c (spot_at T j) v.kept t (error_of error.place (drop error.from x)))
outcome_on (tape_with (reply.Failed c error) [] v t x T) = Some (outcome.failed c (error_of error.place (drop error.from x)))
outcome_on (tape_with reply.EmptyRound [] v t x T) = Some outcome.empty_round
outcome_on tape_endless = None

-- the tape with a reply for which no frame waits
abbrev pub last_tape : Reply → Machine → Tape
last_tape r m = tape_with r [] m.lists.forest m.lists.trail.items m.lists.messages m.table

-- the answer is the one on the tape
pub record IsAnswerOn (text : List ℕ) (tape : Tape) (taken : ℕ) (a : Answer) : Type 0 where
  pub outcome : outcome_on tape ≡ Some (outcome_of a)
  pub position : a.error.position ≡ position_of text a.error.place
  pub steps : a.steps ≡ taken

-- the outcome of a run whose machine has this tape after this many steps
abbrev pub Ends : List ℕ → Tape → ℕ → ended.Outcome → Type 0
Ends text tape steps (Answered a) = IsAnswerOn text tape steps a
Ends text tape steps StepsUsed = outcome_on tape ≡ None
Ends text tape steps EmptyRound = outcome_on tape ≡ Some outcome.empty_round
