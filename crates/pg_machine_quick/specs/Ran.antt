-- Where some turns lead.
use Rattle.std.specs.Prelude.{◌≡◌, ◌+◌, ℕ, Some}
use Rattle.pg_machine_plan.specs.Plans.{Program}
use Rattle.pg_machine_quick.specs.Tape.{Tape, tape_run}
use Rattle.pg_machine_quick.specs.declared.step.Step.{Step}
use Rattle.pg_machine_quick.specs.declared.step.Step.TheVariants.{GoesOn, GivesUp, Stops}
use Rattle.pg_table.specs.Tables.{Table}

-- after so many turns the run from s is at z
pub record LeadsTo (P : Program) (table : Table) (s z : Tape) : Type 0 where
  pub turns : ℕ
  pub so : (m : ℕ) (t : Tape) → tape_run P table m z ≡ Some t → tape_run P table (turns + m) s ≡ Some t

-- the run from s stops at z
abbrev pub StopsAt : Program → Table → Tape → Tape → Type 0
StopsAt P table s z = (n : ℕ) × (tape_run P table n s ≡ Some z)

-- some turns came to this tape; of a run that gives up nothing is said
abbrev pub Makes : Program → Table → Tape → Step → Tape → Type 0
Makes P table s GoesOn z = LeadsTo P table s z
Makes P table s Stops z = StopsAt P table s z
Makes P table s GivesUp z = Unit {0}
