-- What is said of an answer, where the grammar derives the text, is shown.
use Rattle.std.proofs.Common.{◌≡◌, ℕ, List, Bool, sym, subst, length}
use Rattle.std.specs.Prelude.{Option, Some, None, IfSome, Result, Ok, Err, IfOk, true}
use Rattle.pg_tree.specs.Trees.{Tree}
use Rattle.pg_grammar_value.specs.declared.trail.TrailItem.{TrailItem}
use Rattle.pg_table.specs.Tables.{Table}
use Rattle.pg_language.specs.Derives.{Derives}
use Rattle.pg_language.specs.Answers.{Given, AnswersStart}
use Rattle.pg_language.specs.Errors.{without_position}
use Rattle.pg_message.specs.declared.error.ParseError.{ParseError}
use Rattle.pg_machine.specs.Outcomes as machine
use Rattle.pg_machine.specs.Outcomes.{IsAnswer, outcome_with}
use Rattle.pg_machine.specs.declared.answer.Answer.{Answer}
use Rattle.pg_machine.specs.declared.answer.Success.{Success}
use Rattle.pg_trail_replay.specs.Ends.{IsDerived}
use Rattle.pg_machine_turns.specs.Spots.{spot_at}
use Rattle.pg_explain_witness.specs.Losing.{LosesAt, PartAt}
use Rattle.pg_explain_witness.specs.Shown.{IsDerivedAlong, IsReadSo, IsSaid, StopsAt, IsLostAt, IsKeptApart, IsShownBy}
use Rattle.pg_explain_witness.specs.declared.judging.Shown.{Shown}
use Rattle.pg_explain_witness.specs.declared.judging.Shown.TheVariants.{Lost, LeftOver, TwoReadings, EmptyRound, NoAnswer}

module _ (G : Given) (table : Table) (trail : List TrailItem) (forest : List Tree) (derived : IsDerived G.grammar G.text table trail forest) (node place : ℕ) (loses : LosesAt G table trail node place) where
  along : IsDerivedAlong G table trail
  along = record { forest = forest; derived = derived }

  lost : IsLostAt G table node place
  lost = record { trail = trail; derived = along; loses = loses }

  of_success : (consumed : Bool) (error : ParseError) (s : Success) (entered : ℕ) (shown : Shown) (a : AnswersStart G table (outcome_with consumed (without_position error) (Some s)) entered) →
      Derives G.grammar G.text a.start.body (spot_at table 0) (spot_at s.table s.place) s.forest s.trail → IsKeptApart G table node trail (Some s) → IsReadSo G.text trail s shown → IsShownBy G table node place shown
  of_success consumed error s entered (Lost c e) a made kept said = absurd said
  of_success consumed error s entered (LeftOver end) a made kept said =
      let stops : StopsAt G table s.place = record {
        after = s.table;
        consumed = consumed;
        forest = s.forest;
        trail = s.trail;
        error = without_position error;
        stops = record { nodes = entered; answers = a };
        short = said.1;
      } in
      ((record { trail = trail; derived = along }, subst (λ (n : ℕ). StopsAt G table n) (sym said.0) stops), lost)
  of_success consumed error s entered (TwoReadings apart) a made kept said =
      let whole = subst (λ (n : ℕ). Derives G.grammar G.text a.start.body (spot_at table 0) (spot_at s.table n) s.forest s.trail) said.0 made in
      let other : IsDerivedAlong G table s.trail = record { forest = s.forest; derived = record { after = s.table; derived = record { start = a.start; is_start = a.is_start; body = whole } } } in (
        record { one = trail; other = s.trail; by_one = along; by_other = other; differ = said.1 },
        record { one = trail; other = s.trail; by_one = along; by_other = other; loses = loses; part = kept said.0 },
      )
  of_success consumed error s entered EmptyRound a made kept said = absurd said
  of_success consumed error s entered (NoAnswer steps) a made kept said = absurd said

  of_answer : (consumed : Bool) (error : ParseError) (success : Option Success) (entered : ℕ) (shown : Shown) (a : AnswersStart G table (outcome_with consumed (without_position error) success) entered) →
      machine.IsDerived G a.start.body (spot_at table 0) (outcome_with consumed (without_position error) success) → IsKeptApart G table node trail success → IsSaid G.text trail consumed error success shown →
      IsShownBy G table node place shown
  of_answer consumed error None entered shown a made kept said =
      subst (λ (s : Shown). IsShownBy G table node place s) (sym said) ((record { trail = trail; derived = along }, record { nodes = entered; answers = a }), lost)
  of_answer consumed error (Some s) entered shown a made kept said = of_success consumed error s entered shown a made kept said

  -- the same of what may be said, where the node loses the derivation
  pub all_said_shown : (a : Answer) (o : Option Shown) → IsAnswer G table a → IsKeptApart G table node trail a.success → IfSome o (IsSaid G.text trail a.consumed a.error a.success) →
      IfSome o (IsShownBy G table node place)
  all_said_shown a None is kept said = tt
  all_said_shown a (Some shown) is kept said = of_answer a.consumed a.error a.success is.entered shown is.answers is.derived kept said

-- what is so of a reading is so of what an answer kept
pub kept_if : {E : Type 0} (G : Given) (table : Table) (node : ℕ) (trail : List TrailItem) (r : Result Bool E) (o : Option Success) (s : Success) → o ≡ Some s →
    IfOk r (λ (b : Bool). b ≡ true → PartAt G table trail s.trail node) → IfOk r (λ (b : Bool). b ≡ true → IsKeptApart G table node trail o)
kept_if G table node trail (Ok b) o s e h = λ y. subst (λ (x : Option Success). IsKeptApart G table node trail x) (sym e) (λ q. h y)
kept_if G table node trail (Err x) o s e h = tt
