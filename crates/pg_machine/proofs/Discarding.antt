-- A run under a `skip` comes to the start rule's outcome without its trees.
use Rattle.std.proofs.Common.{◌≡◌, ◌≤◌, ◌<◌, ◌+◌, ◌-◌, ◌*◌, ◌^◌, ◌⊎◌, inl, inr, ℕ, zero, suc, List, [], ◌∷◌, length, Bool, true, false, refl, sym, ap, subst, ◌∙◌, arith}
use Rattle.std.specs.Prelude.{Option, Some, None, slice_get, option_map}
use Rattle.pg_pred.specs.Offer.{Offer}
use Rattle.pg_grammar_form.specs.declared.form.Around.{Around}
use Rattle.pg_grammar_form.specs.declared.form.Around.TheVariants.{Skip}
use Rattle.pg_grammar_value.specs.Grammar.{Grammar, rule_body}
use Rattle.pg_grammar_value.specs.declared.grammar.Rule as declared
use Rattle.pg_grammar_value.specs.declared.trail.TrailItem.{TrailItem}
use Rattle.pg_table.specs.Tables.{Table}
use Rattle.pg_language.specs.Derives.{Spot}
use Rattle.pg_language.specs.Answers.{Given, Answers, AnswersStart, entered}
use Rattle.pg_language.specs.Outcomes as outcome
use Rattle.pg_language.specs.Outcomes.{Outcome}
use Rattle.pg_language.specs.Reactions.{surrounded}
use Rattle.pg_machine_turns.specs.Spots.{spot_at}
use Rattle.pg_machine_turns.specs.Frames.{in_around}
use Rattle.pg_machine_turns.specs.Finishes.{Finishes, entering, over, gives_around, returned}
use Rattle.pg_machine_turns.specs.Shows.{no_frames, stands_around, Means, Shows, shows_at}
use Rattle.pg_machine_turns.specs.Ready.{AreReady}
use Rattle.pg_machine_turns.specs.Tape.{OnFrame, on_around, Tape, tape_at, tape_turn, tape_is_last}
use Rattle.pg_machine_turns.specs.TapeRuns.{IsAfter}
use Rattle.pg_machine_turns.specs.Turns.{State, at_node, with_outcome, endless, turn, is_last}
use Rattle.pg_machine_turns.proofs.Runs.{Nears, nears_turn, nears_shorter, nears_end}
use Rattle.pg_machine_turns.proofs.Turned.{turn_shown, last_shown}
use Rattle.pg_machine_lists.specs.RunTrees.{RunTrees, no_run_trees, with_hiding}
use Rattle.pg_message_tape.specs.Messages.{TapeMessage}
use Rattle.pg_machine.specs.Outcomes.{outcome_of, outcome_on, Ends}
use Rattle.pg_machine.specs.Treeless.{treeless, EndsTreeless, IsTreeless}
use Rattle.pg_machine.specs.declared.answer.Outcome as ended
use Rattle.pg_machine.specs.declared.answer.Outcome.TheVariants.{Answered, StepsUsed, EmptyRound}
use Rattle.pg_machine.proofs.Running.{outcome_shown, endless_shown}

-- a `skip` leaves out the trees, and nothing else
skipped : (text : List ℕ) (a : Spot) (o : Outcome) → surrounded Skip text a o ≡ treeless o
skipped text a (outcome.ok c b v t e) = refl
skipped text a (outcome.failed c e) = refl
skipped text a outcome.empty_round = refl

-- the frames at the beginning
abbrev pub skip_waits : Table → List OnFrame
skip_waits T = on_around Skip 0 0 (length T.operators) ∷ []

pub skip_ready : (offer : Offer) (g : Grammar) (most : ℕ) (T : Table) → AreReady offer g most (skip_waits T)
skip_ready offer g most T = (tt, tt)

none_hidden : (T : Table) → Means (skip_waits T) (with_hiding no_run_trees) []
none_hidden T = record { count = refl; trees = (omega arith, omega arith, refl, refl) }

module _ (G : Given) (T : Table) (o : Outcome) (m : ℕ) where
  -- the machine has this tape after so many turns of a run that makes no trees
  pub record Discarding (steps : ℕ) (x : Tape) : Type 0 where
    pub state : State
    pub shows : Shows G state x
    pub nears : Nears G (treeless o) m 1 steps state

  discarding_start : (rule : declared.Rule) → Answers G rule.body (spot_at T 0) o m → Discarding 0 (tape_at rule.body 0 (skip_waits T) (with_hiding no_run_trees) [] [] T)
  discarding_start rule d =
      let first : Finishes G (at_node rule.body (spot_at T 0) (in_around Skip (spot_at T 0) ∷ [])) (surrounded Skip G.text (spot_at T 0) o) (m + (0 + 0)) = entering d (over gives_around returned) in
      let none : Finishes G (at_node rule.body (spot_at T 0) (in_around Skip (spot_at T 0) ∷ [])) (treeless o) (m + (0 + 0)) =
      subst (λ (q : Outcome). Finishes G (at_node rule.body (spot_at T 0) (in_around Skip (spot_at T 0) ∷ [])) q (m + (0 + 0))) (skipped G.text (spot_at T 0) o) first in
      record {
        state = at_node rule.body (spot_at T 0) (in_around Skip (spot_at T 0) ∷ []);
        shows = shows_at (stands_around no_frames) (none_hidden T);
        nears = record { entered = 0; pending = 1; still = record { nodes = m + (0 + 0); finishes = none; count = omega arith }; has_pending = refl; counted = refl };
      }

  -- the same of the body that the start rule has, and of these lists
  pub discarding_begins : (body : ℕ) (fs : List OnFrame) (v : RunTrees) (t : List TrailItem) (x : List TapeMessage) (U : Table) → option_map rule_body (slice_get G.grammar.rules G.grammar.start) ≡ Some body
      → fs ≡ skip_waits U → v ≡ with_hiding no_run_trees → t ≡ [] → x ≡ [] → U ≡ T → AnswersStart G T o m → Discarding 0 (tape_at body 0 fs v t x U)
  discarding_begins body fs v t x U h e f i k l a =
      let there : option_map rule_body (Some a.start) ≡ Some body = subst (λ (o : Option declared.Rule). option_map rule_body o ≡ Some body) a.is_start h in
      let same : a.start.body ≡ body = cc in
      let frames : fs ≡ skip_waits T = subst (λ (V : Table). fs ≡ skip_waits V) l e in
      let q : tape_at a.start.body 0 (skip_waits T) (with_hiding no_run_trees) [] [] T ≡ tape_at body 0 fs v t x U = cc in
      subst (Discarding 0) q (discarding_start a.start a.body)

  discarding_turn : (n : ℕ) (x y : Tape) → Discarding n x → tape_is_last x ≡ false → y ≡ tape_turn G x → Discarding (suc n) y
  discarding_turn n x y r f e =
      let going : is_last r.state ≡ false = last_shown r.shows ∙ f in
      let next : Discarding (suc n) (tape_turn G x) = record { state = turn G r.state; shows = turn_shown G r.shows going; nears = nears_turn G (treeless o) m 1 n r.state going r.nears } in
      subst (Discarding (suc n)) (sym e) next

  pub discarding_after : (n : ℕ) (x y : Tape) → Discarding 0 x → IsAfter G x n y → Discarding n y
  discarding_after zero x y r h = subst (Discarding 0) (sym h) r
  discarding_after (suc n) x y r h = discarding_turn n h.0 y (discarding_after n x h.0 r h.1) h.2 h.3

  -- ---- how it ends

  same_outcome : {p q : Outcome} {st : State} → st ≡ with_outcome p [] → st ≡ with_outcome q [] → p ≡ q
  same_outcome e f = cc

  never_endless : {p : Outcome} {st : State} → st ≡ with_outcome p [] → st ≡ endless → ⊥
  never_endless e f = absurd cc

  only_empty : (p : Outcome) → treeless p ≡ outcome.empty_round → p ≡ outcome.empty_round
  only_empty (outcome.ok c b v t e) h = cc
  only_empty (outcome.failed c e) h = cc
  only_empty outcome.empty_round h = refl

  -- so few turns are enough
  is_over : (n : ℕ) (y : Tape) → Discarding n y → 2 * m ≤ 2 ^ 64 - 1 → (2 ^ 64 - 1 ≤ n) ⊎ (tape_is_last y ≡ true) → (b : Bool) → tape_is_last y ≡ b → tape_is_last y ≡ true
  is_over n y r few h true last = last
  is_over n y r few (inr last) false going = last
  is_over n y r few (inl long) false going =
      let shorter = nears_shorter G (treeless o) m 1 n r.state (last_shown r.shows ∙ going) r.nears in absurd (omega arith)

  ends_so : (n k : ℕ) (y : Tape) (e : ended.Outcome) → 0 < m → Discarding n y → tape_is_last y ≡ true → k ≡ n - 1 → Ends G.text y k e → EndsTreeless G o m e
  ends_so n k y (Answered a) some r last less h =
      let is = nears_end G (treeless o) m 1 n r.state (last_shown r.shows ∙ last) r.nears in
      let count = is.1 in
      let steps = h.steps in
      (same_outcome (outcome_shown r.shows h.outcome) is.0, h.position, omega arith)
  ends_so n k y StepsUsed some r last less h =
      let is = nears_end G (treeless o) m 1 n r.state (last_shown r.shows ∙ last) r.nears in never_endless is.0 (endless_shown r.shows h last)
  ends_so n k y EmptyRound some r last less h =
      let is = nears_end G (treeless o) m 1 n r.state (last_shown r.shows ∙ last) r.nears in only_empty o (same_outcome is.0 (outcome_shown r.shows h))

  pub discarding_ends : (n k : ℕ) (y : Tape) (e : ended.Outcome) → 0 < m → Discarding n y → 2 * m ≤ 2 ^ 64 - 1 → (2 ^ 64 - 1 ≤ n) ⊎ (tape_is_last y ≡ true) → k ≡ n - 1 → Ends G.text y k e → EndsTreeless G o m e
  discarding_ends n k y e some r few h less ends = ends_so n k y e some r (is_over n y r few h (tape_is_last y) refl) less ends
