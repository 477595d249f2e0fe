-- What is printed of the machine's outcome is what the relation shows.
use Rattle.std.proofs.Common.{◌≡◌, ◌≤◌, ◌+◌, ◌*◌, ℕ, List, Bool, false, Option, Some, None, arith, refl, sym, subst, subst₂}
use Rattle.pg_text.specs.Position.{position_of}
use Rattle.pg_message.specs.Printed.{printed}
use Rattle.pg_message.specs.declared.error.ParseError.{ParseError}
use Rattle.pg_grammar_value.specs.Grammar.{Grammar}
use Rattle.pg_table.specs.Tables.{Table, initial, whole}
use Rattle.pg_language.specs.Answers.{Given, given, AnswersStart}
use Rattle.pg_language.specs.declared.reading.Reading.{Reading}
use Rattle.pg_language.specs.Errors.{in_text, without_position}
use Rattle.pg_machine.specs.Outcomes.{IsOutcome, outcome_with}
use Rattle.pg_machine.specs.declared.answer.Success.{Success}
use Rattle.pg_machine.specs.declared.answer.Outcome as ended
use Rattle.pg_machine.specs.declared.answer.Outcome.TheVariants.{Answered, StepsUsed, EmptyRound}
use Rattle.pg_bench.specs.Probing.{IsShownOfText, Shows, is_ok, is_error, is_stuck, is_used_up, error_text, answer_text, outcome_text, is_some, is_ok_outcome}

stands : (text : List ℕ) (e : ParseError) → e.position ≡ position_of text e.place → in_text text (without_position e) ≡ e
stands text e at = subst (λ p. record { place = e.place; position = p; messages = e.messages } ≡ e) at refl

answered : (G : Given) (table : Table) (name : List ℕ) (most : ℕ) (c : Bool) (e : ParseError) (s : Option Success)
    → e.position ≡ position_of G.text e.place → (m : ℕ) → AnswersStart G table (outcome_with c (without_position e) s) m
    → 2 * m ≤ most + 1 → Shows G table name most (is_some s) (answer_text c e s name)
answered G table name most c e None at m h within =
    subst (λ x. Shows G table name most false (error_text c (printed x name))) (stands G.text e at) (is_error h within)
answered G table name most c e (Some s) at m h within = is_ok h within

pub shows : (G : Given) (table : Table) (name : List ℕ) (most : ℕ) (o : ended.Outcome) → IsOutcome G table most o
    → Shows G table name most (is_ok_outcome o) (outcome_text o name)
shows G table name most (Answered a) h =
    let steps = h.0.steps in
    let few = h.1 in
    answered G table name most a.consumed a.error a.success h.0.position h.0.entered h.0.answers (omega arith)
shows G table name most StepsUsed h = is_used_up h
shows G table name most EmptyRound h = is_stuck h.1 h.2

-- so it is of a run on a text
pub shown_text : (g : Grammar) (name : List ℕ) (most : ℕ) (reading : Reading) (text : List ℕ) (table : Table) (o : ended.Outcome) (accepted : Bool)
    (said : List ℕ) → initial g ≡ whole table → IsOutcome (given reading g text) table most o → accepted ≡ is_ok_outcome o → said ≡ outcome_text o name
    → IsShownOfText g name most reading text accepted said
shown_text g name most reading text table o accepted said initially h ok page =
    record {
      table = table;
      is_table = initially;
      shows = subst₂ (Shows (given reading g text) table name most) (sym ok) (sym page) (shows (given reading g text) table name most o h);
    }
