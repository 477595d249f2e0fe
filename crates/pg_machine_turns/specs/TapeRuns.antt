-- Several turns of the machine.
use Rattle.std.specs.Prelude.{◌≡◌, ◌≤◌, ◌+◌, ◌-◌, ◌^◌, ℕ, zero, suc, false}
use Rattle.pg_pred.specs.Offer.{Offer}
use Rattle.pg_grammar_value.specs.Grammar.{Grammar}
use Rattle.pg_language.specs.Answers.{Given}
use Rattle.pg_machine_turns.specs.Ready.{IsTapeReady}
use Rattle.pg_machine_turns.specs.Tape.{Tape, tape_turn, tape_is_last}

-- the second tape is the first after this number of turns, none of which was past the end
abbrev pub IsAfter : Given → Tape → ℕ → Tape → Type 0
IsAfter G x zero y = y ≡ x
IsAfter G x (suc n) y = (z : Tape) × IsAfter G x n z × (tape_is_last z ≡ false) × (y ≡ tape_turn G z)

-- the frames are ready for this number of turns
abbrev pub IsTapeReadyFor : Offer → Grammar → ℕ → Tape → Type 0
IsTapeReadyFor offer g turns x = (room : ℕ) × IsTapeReady offer g (suc room) x × (room + turns ≤ 2 ^ 64 - 1)
