-- What a run does at a node: where it enters it, and what the node answers there.
use Rattle.std.specs.Prelude.{◌≡◌, ◌<◌, ◌⊎◌, ℕ, List, [], Bool, true, false, Some, slice_get}
use Rattle.pg_grammar_value.specs.declared.grammar.Rule as declared
use Rattle.pg_grammar_value.specs.declared.trail.TrailItem.{TrailItem}
use Rattle.pg_table.specs.Tables.{Table}
use Rattle.pg_language.specs.Derives.{Spot}
use Rattle.pg_language.specs.Answers.{Given, Answers}
use Rattle.pg_language.specs.Outcomes.{Outcome, ok, failed, empty_round}
use Rattle.pg_machine.specs.Outcomes.{outcome_on}
use Rattle.pg_message_tape.specs.Messages.{TapeMessage}
use Rattle.pg_machine_lists.specs.RunTrees.{RunTrees, no_run_trees}
use Rattle.pg_machine_turns.specs.Tape.{OnFrame, Tape, tape_at}
use Rattle.pg_machine_turns.specs.TapeRuns.{IsAfter}
use Rattle.pg_explain_witness.specs.declared.answering.Manner.{Manner}
use Rattle.pg_explain_witness.specs.declared.answering.Manner.TheVariants.{ForGood, Taking, Idle}

-- the tape at the start of a run of the node by itself, from a place on, under a table
abbrev pub alone : (node place : ℕ) → Table → Tape
alone node place under = tape_at node place [] no_run_trees [] [] under

-- the run of the start rule enters the node at the place, under this table in force
pub record IsEntered (G : Given) (table : Table) (node place : ℕ) (under : Table) : Type 0 where
  pub start : declared.Rule
  pub is_start : slice_get G.grammar.rules G.grammar.start ≡ Some start
  pub turns : ℕ
  pub frames : List OnFrame
  pub forest : RunTrees
  pub trail : List TrailItem
  pub messages : List TapeMessage
  pub entered : IsAfter G (alone start.body 0 table) turns (tape_at node place frames forest trail messages under)

-- for good: ok, or failed and consumed, so that a choice tries no other alternative; taking: consumed; idle: ok without having consumed
abbrev pub IsSo : Manner → Outcome → Type 0
IsSo ForGood (ok consumed end forest trail error) = Unit {0}
IsSo ForGood (failed consumed error) = consumed ≡ true
IsSo ForGood empty_round = ⊥
IsSo Taking (ok consumed end forest trail error) = consumed ≡ true
IsSo Taking (failed consumed error) = consumed ≡ true
IsSo Taking empty_round = ⊥
IsSo Idle (ok consumed end forest trail error) = consumed ≡ false
IsSo Idle (failed consumed error) = ⊥
IsSo Idle empty_round = ⊥

-- an error, or ok with another item first in its trail
abbrev pub IsOther : TrailItem → Outcome → Type 0
IsOther item (ok consumed end forest trail error) = slice_get trail 0 ≡ Some item → ⊥
IsOther item (failed consumed error) = Unit {0}
IsOther item empty_round = ⊥

-- ok without having consumed, ending at this spot
abbrev pub IsIdleTo : Spot → Outcome → Type 0
IsIdleTo there (ok consumed end forest trail error) = (consumed ≡ false) × (end ≡ there)
IsIdleTo there (failed consumed error) = ⊥
IsIdleTo there empty_round = ⊥

-- the tape holds an outcome with this property, and no frame waits for it
pub record Lies (P : Outcome → Type 0) (x : Tape) : Type 0 where
  pub outcome : Outcome
  pub lies : outcome_on x ≡ Some outcome
  pub is : P outcome

-- the node has such an outcome there
pub record AnswersAs (G : Given) (P : Outcome → Type 0) (node : ℕ) (from : Spot) : Type 0 where
  pub outcome : Outcome
  pub nodes : ℕ
  pub answers : Answers G node from outcome nodes
  pub is : P outcome

-- the separator is ok there without consuming, and the operand after it answers in this manner
pub record OperandAnswers (G : Given) (m : Manner) (operand separator : ℕ) (from : Spot) : Type 0 where
  pub after : Spot
  pub passes : AnswersAs G (IsIdleTo after) separator from
  pub answers : AnswersAs G (IsSo m) operand after

-- a link of a chain consumes something there: its separator does, or the operand after a separator that doesn't
abbrev pub LinkTakes : Given → (operand separator : ℕ) → Spot → Type 0
LinkTakes G operand separator from = AnswersAs G (IsSo Taking) separator from ⊎ OperandAnswers G Taking operand separator from

-- running the node there enters the node again, at the same place
pub record ComesAgain (G : Given) (node place : ℕ) (under : Table) : Type 0 where
  pub turns : ℕ
  pub some : 0 < turns
  pub frames : List OnFrame
  pub forest : RunTrees
  pub trail : List TrailItem
  pub messages : List TapeMessage
  pub after : Table
  pub again : IsAfter G (alone node place under) turns (tape_at node place frames forest trail messages after)
