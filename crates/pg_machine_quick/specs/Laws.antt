-- What a run that stops has answered.
use Rattle.std.specs.Prelude.{◌≡◌, ℕ, zero, List, [], ◌∷◌, Bool, false, Some}
use Rattle.pg_grammar_value.specs.declared.trail.TrailItem.{TrailItem}
use Rattle.pg_language.specs.Errors.{Error}
use Rattle.pg_language.specs.Outcomes.{ok}
use Rattle.pg_language.specs.WholeTexts.{beginning, AnswersText}
use Rattle.pg_table.specs.Tables.{Table}
use Rattle.pg_machine_plan.specs.Layout.{IsForTexts}
use Rattle.pg_machine_quick.specs.Tape.{Tape, spot_at, first_tape, tape_run}
use Rattle.pg_machine_plan.specs.Plans.{Program}
use Rattle.pg_machine_quick.specs.Turns.{State, state, returns, run}

-- the state in which a run over a whole text begins, with a table of operators
abbrev pub first_state : Program → Table → State
first_state P table = state P.plan.entry (beginning table) (returns zero ∷ []) [] zero false

-- for some trail, consumption and error, the text is answered ok with just this spot, this forest and so many nodes
pub record HasAnswered (P : Program) (table : Table) (s : State) : Type 0 where
  pub consumed : Bool
  pub trail : List TrailItem
  pub error : Error
  pub so : AnswersText P.given table (ok consumed s.spot s.forest trail error) s.nodes

-- a run that stops has answered
abbrev pub StopsWithAnswers : Type 0
StopsWithAnswers = (P : Program) → IsForTexts P → (table : Table) (n : ℕ) (s : State) → run P n (first_state P table) ≡ Some s → HasAnswered P table s

-- the same of a run whose trees are in one list
pub record TapeHasAnswered (P : Program) (table : Table) (s : Tape) : Type 0 where
  pub consumed : Bool
  pub trail : List TrailItem
  pub error : Error
  pub so : AnswersText P.given table (ok consumed (spot_at table s.place) s.trees trail error) s.nodes

abbrev pub TapesAnswer : Type 0
TapesAnswer = (P : Program) → IsForTexts P → (table : Table) (n : ℕ) (s : Tape) → tape_run P table n (first_tape P) ≡ Some s → TapeHasAnswered P table s
