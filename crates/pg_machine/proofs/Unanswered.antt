-- Whether an answer is the last one: whether some frame still waits for it.
use Rattle.std.proofs.Common.{◌≡◌, List, [], ◌∷◌, ◌∙◌, length, true, false, sym, refl}
use Rattle.std.proofs.Math.Dec.{eqb-suc-zero}
use Rattle.std.proofs.lemmas.Bool.{false≢true}
use Rattle.std.specs.Prelude.{◌==◌, None}
use Rattle.pg_machine_lists.specs.RunTrees.{RunTrees}
use Rattle.pg_grammar_value.specs.declared.trail.TrailItem.{TrailItem}
use Rattle.pg_table.specs.Tables.{Table}
use Rattle.pg_message_tape.specs.Messages.{TapeMessage}
use Rattle.pg_machine_turns.specs.Tape.{OnFrame, tape_with}
use Rattle.pg_machine_turns.specs.declared.frame.Reply.{Reply}
use Rattle.pg_machine.specs.Outcomes.{outcome_on}

pub none_on : (reply : Reply) (fs : List OnFrame) (v : RunTrees) (t : List TrailItem) (x : List TapeMessage) (T : Table) → (length fs == 0) ≡ false → outcome_on (tape_with reply fs v t x T) ≡ None
none_on reply [] v t x T h = absurd (false≢true (sym h))
none_on reply (f ∷ fs) v t x T h = refl

pub last_on : (reply : Reply) (fs : List OnFrame) (v : RunTrees) (t : List TrailItem) (x : List TapeMessage) (T : Table) → (length fs == 0) ≡ true
    → tape_with reply fs v t x T ≡ tape_with reply [] v t x T
last_on reply [] v t x T h = refl
last_on reply (f ∷ fs) v t x T h = absurd (false≢true (sym (eqb-suc-zero (length fs)) ∙ h))
