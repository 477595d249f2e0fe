-- What holds of a run from the start rule, turn by turn, and how it ends.
use Rattle.std.proofs.Common.{◌≡◌, ℕ, zero, suc, ◌+◌, ◌*◌, ◌≤◌, ◌<◌, ◌-◌, ◌⊎◌, inl, inr, List, [], ◌∷◌, ◌++◌, length, Bool, true, false, refl, sym, ap, subst, ◌∙◌, arith, drop}
use Rattle.std.specs.Prelude.{Option, Some, None, slice_get, option_map}
use Rattle.pg_pred.specs.Offer.{Offer}
use Rattle.pg_grammar_value.specs.Fits.{Fits}
use Rattle.pg_grammar_value.specs.Grammar.{rule_body}
use Rattle.pg_grammar_value.specs.declared.grammar.Rule as declared
use Rattle.pg_grammar_value.specs.declared.trail.TrailItem.{TrailItem}
use Rattle.pg_table.specs.Tables.{Table}
use Rattle.pg_language.specs.Derives.{Spot}
use Rattle.pg_language.specs.Answers.{Given, Answers, AnswersStart}
use Rattle.pg_language.specs.Errors.{Error}
use Rattle.pg_language.specs.Outcomes as outcome
use Rattle.pg_language.specs.Outcomes.{Outcome}
use Rattle.pg_language.proofs.Sound.{sound}
use Rattle.pg_machine_turns.specs.Spots.{spot_at}
use Rattle.pg_machine_turns.specs.Frames.{Frame}
use Rattle.pg_message_tape.specs.Messages.{TapeMessage, error_of}
use Rattle.pg_machine.specs.Outcomes.{outcome_of, IsDerived, IsOutcome, outcome_on, Ends}
use Rattle.pg_machine_turns.specs.Shows.{no_frames, stands_parts, Shows, shows_at, shows_succeeded, shows_failed, shows_stuck, shows_endless}
use Rattle.pg_machine_turns.specs.Tape.{OnFrame, Tape, tape_at, tape_turn, tape_is_last}
use Rattle.pg_machine_turns.specs.Ready.{IsTapeReady}
use Rattle.pg_machine_turns.specs.TapeRuns.{IsAfter}
use Rattle.pg_machine_lists.specs.RunTrees.{RunTrees, no_run_trees}
use Rattle.pg_machine_turns.specs.Turns.{State, at_node, with_outcome, endless, turn, is_last}
use Rattle.pg_message_tape.specs.TapeErrors.{Says, says}
use Rattle.pg_machine.specs.declared.answer.Outcome as ended
use Rattle.pg_machine.specs.declared.answer.Outcome.TheVariants.{Answered, StepsUsed, EmptyRound}
use Rattle.pg_message_tape.specs.declared.message_tape.TapeError.{TapeError}
use Rattle.pg_message_tape.proofs.Merged.{drop_seam}
use Rattle.pg_machine_turns.proofs.Hiding.{none_mean, all_kept}
use Rattle.pg_machine_turns.proofs.Ready.{turn_ready}
use Rattle.pg_machine_turns.proofs.Runs.{Run, run_start, run_turn, run_answer, run_shorter, run_endless}
use Rattle.pg_machine_turns.proofs.Turned.{turn_shown, last_shown}

-- the machine has this tape after `steps` turns, of at most `most`, from the start rule at the start of the text
pub record Running (offer : Offer) (G : Given) (T : Table) (most steps : ℕ) (x : Tape) : Type 0 where
  pub rule : declared.Rule
  pub is_start : slice_get G.grammar.rules G.grammar.start ≡ Some rule
  pub state : State
  pub shows : Shows G state x
  pub run : Run G rule.body (spot_at T 0) steps state
  pub ready : IsTapeReady offer G.grammar (suc steps) x
  pub within : steps ≤ most

pub running_start : (offer : Offer) (G : Given) (T : Table) (most : ℕ) (rule : declared.Rule) (fs : List OnFrame) (v : RunTrees) (t : List TrailItem) (x : List TapeMessage) (U : Table) → slice_get G.grammar.rules G.grammar.start ≡ Some rule →
    fs ≡ [] → v ≡ no_run_trees → t ≡ [] → x ≡ [] → U ≡ T → Running offer G T most 0 (tape_at rule.body 0 fs v t x U)
running_start offer G T most rule fs v t x U there e f h k l =
    let z : 0 ≤ most = omega arith in
    let r : Running offer G T most 0 (tape_at rule.body 0 [] no_run_trees [] [] T) =
    record { rule = rule; is_start = there; state = at_node rule.body (spot_at T 0) []; shows = shows_at no_frames none_mean; run = run_start G rule.body (spot_at T 0); ready = tt; within = z } in
    let q : tape_at rule.body 0 [] no_run_trees [] [] T ≡ tape_at rule.body 0 fs v t x U = cc in
    subst (Running offer G T most 0) q r

-- the same of the body that the start rule has
pub running_begins : (offer : Offer) (G : Given) (T : Table) (most body : ℕ) (fs : List OnFrame) (v : RunTrees) (t : List TrailItem) (x : List TapeMessage) (U : Table) → option_map rule_body (slice_get G.grammar.rules G.grammar.start) ≡ Some body →
    fs ≡ [] → v ≡ no_run_trees → t ≡ [] → x ≡ [] → U ≡ T → Running offer G T most 0 (tape_at body 0 fs v t x U)
running_begins offer G T most body fs v t x U h e f i k l = of_rule (slice_get G.grammar.rules G.grammar.start) refl h
  where
    of_rule : (o : Option declared.Rule) → slice_get G.grammar.rules G.grammar.start ≡ o → option_map rule_body o ≡ Some body → Running offer G T most 0 (tape_at body 0 fs v t x U)
    of_rule None there h = cc
    of_rule (Some rule) there h =
        let same : rule.body ≡ body = cc in
        subst (λ n. Running offer G T most 0 (tape_at n 0 fs v t x U)) same (running_start offer G T most rule fs v t x U there e f i k l)

pub running_turn : (offer : Offer) (G : Given) (T : Table) (most n : ℕ) (x y : Tape) → Fits offer G.grammar → Running offer G T most n x → n < most → tape_is_last x ≡ false → y ≡ tape_turn G x →
    Running offer G T most (n + 1) y
running_turn offer G T most n x y fits r l f e =
    let more : suc n ≤ most = omega arith in
    let positive : 0 < suc n = omega arith in
    let one : suc n ≡ n + 1 = omega arith in
    let going : is_last r.state ≡ false = last_shown r.shows ∙ f in
    let next : Running offer G T most (suc n) (tape_turn G x) = record {
      rule = r.rule;
      is_start = r.is_start;
      state = turn G r.state;
      shows = turn_shown G r.shows going;
      run = run_turn G r.rule.body (spot_at T 0) n r.state going r.run;
      ready = turn_ready offer G.grammar (suc n) G x refl fits positive r.ready;
      within = more;
    } in
    subst (λ k. Running offer G T most k y) one (subst (Running offer G T most (suc n)) (sym e) next)

pub running_after : (offer : Offer) (G : Given) (T : Table) (most n : ℕ) (x y : Tape) → Fits offer G.grammar → Running offer G T most 0 x → IsAfter G x n y → n ≤ most → Running offer G T most n y
running_after offer G T most zero x y fits r h l = subst (Running offer G T most 0) (sym h) r
running_after offer G T most (suc n) x y fits r h l =
    let before = running_after offer G T most n x h.0 fits r h.1 (omega arith) in
    let one : n + 1 ≡ suc n = omega arith in
    subst (λ k. Running offer G T most k y) one (running_turn offer G T most n h.0 y fits before (omega arith) h.2 h.3)

-- ---- how it ends

-- the error is what lies after its place
messages_are_there : {x y : List TapeMessage} {error : TapeError} {e : Error} → Says x error e y → error_of error.place (drop error.from y) ≡ e
messages_are_there {x = x} (says {place = p} g m) = ap (error_of p) (drop_seam (x ++ g) m)

none_left : (fs : List Frame) → length fs ≡ 0 → fs ≡ []
none_left [] e = refl
none_left (f ∷ fs) e = cc

no_answer : {o : Outcome} → None ≡ Some o → ⊥
no_answer e = absurd cc

-- an outcome on the tape is that of the state
pub outcome_shown : {G : Given} {st : State} {x : Tape} {o : Outcome} → Shows G st x → outcome_on x ≡ Some o → st ≡ with_outcome o []
outcome_shown (shows_at h g) e = absurd (no_answer e)
outcome_shown {o = o} (shows_succeeded {w = w} {u = u} {U = U} {c = c} {j = j} no_frames k s d) e =
    let f = messages_are_there s in
    let all = all_kept k in
    let g : outcome.ok c (spot_at U j) w u _ ≡ o = cc in
    ap (λ (o : Outcome). with_outcome o []) g
outcome_shown {o = o} (shows_failed {c = c} w u no_frames k s d) e =
    let f = messages_are_there s in
    let g : outcome.failed c _ ≡ o = cc in
    ap (λ (o : Outcome). with_outcome o []) g
outcome_shown (shows_succeeded (stands_parts h k) m s d) e = absurd (no_answer e)
outcome_shown (shows_succeeded _ m s d) e = absurd (no_answer e)
outcome_shown (shows_failed w u (stands_parts h k) m s d) e = absurd (no_answer e)
outcome_shown (shows_failed w u _ m s d) e = absurd (no_answer e)
outcome_shown {o = o} (shows_stuck {fs = fs} {gs = []} same) e =
    let g : outcome.empty_round ≡ o = cc in
    ap (with_outcome outcome.empty_round) (none_left fs same) ∙ ap (λ (o : Outcome). with_outcome o []) g
outcome_shown (shows_stuck {gs = g ∷ gs} same) e = absurd (no_answer e)
outcome_shown shows_endless e = absurd (no_answer e)

-- the last tape without an outcome is the one without an end
pub endless_shown : {G : Given} {st : State} {x : Tape} → Shows G st x → outcome_on x ≡ None → tape_is_last x ≡ true → st ≡ endless
endless_shown (shows_at h m) e l = cc
endless_shown (shows_succeeded no_frames m s d) e l = absurd (no_answer (sym e))
endless_shown (shows_failed w u no_frames m s d) e l = absurd (no_answer (sym e))
endless_shown (shows_succeeded (stands_parts h k) m s d) e l = cc
endless_shown (shows_succeeded _ m s d) e l = cc
endless_shown (shows_failed w u (stands_parts h k) m s d) e l = cc
endless_shown (shows_failed w u _ m s d) e l = cc
endless_shown (shows_stuck {gs = []} same) e l = absurd (no_answer (sym e))
endless_shown (shows_stuck {gs = g ∷ gs} same) e l = cc
endless_shown shows_endless e l = refl

derived : {G : Given} {p : ℕ} {a : Spot} {m : ℕ} (o : Outcome) → Answers G p a o m → IsDerived G p a o
derived (outcome.ok c b v t e) d = sound d
derived (outcome.failed c e) d = tt
derived outcome.empty_round d = tt

-- the start rule's body is the node that was run
started : {G : Given} {T : Table} {o : Outcome} {m : ℕ} (rule : declared.Rule) → slice_get G.grammar.rules G.grammar.start ≡ Some rule → AnswersStart G T o m → Answers G rule.body (spot_at T 0) o m
started {G = G} {T = T} {o = o} {m = m} rule e a =
    let same : a.start ≡ rule = cc in subst (λ (r : declared.Rule). Answers G r.body (spot_at T 0) o m) same a.body

-- an outcome of a run that has none yet takes more turns than it may
unanswered : (offer : Offer) (G : Given) (T : Table) (most n : ℕ) (x : Tape) → Running offer G T most n x → outcome_on x ≡ None → (most ≤ n) ⊎ (tape_is_last x ≡ true) → (b : Bool) → tape_is_last x ≡ b →
    (o : Outcome) (m : ℕ) → AnswersStart G T o m → most + 1 < 2 * m
unanswered offer G T most n x r e h true last o m a =
    let s = endless_shown r.shows e last in
    absurd (run_endless G r.rule.body (spot_at T 0) n (subst (Run G r.rule.body (spot_at T 0) n) s r.run) o m (started r.rule r.is_start a))
unanswered offer G T most n x r e (inl l) false going o m a =
    let y = run_shorter G r.rule.body (spot_at T 0) n r.state (last_shown r.shows ∙ going) r.run o m (started r.rule r.is_start a) in omega arith
unanswered offer G T most n x r e (inr last) false going o m a = absurd cc

pub running_ends : (offer : Offer) (G : Given) (T : Table) (most n : ℕ) (x : Tape) (o : ended.Outcome) → Running offer G T most n x →
    Ends G.text x n o → (most ≤ n) ⊎ (tape_is_last x ≡ true) → IsOutcome G T most o
running_ends offer G T most n x (Answered a) r e h =
    let i = outcome_shown r.shows e.outcome in
    let w = run_answer G r.rule.body (spot_at T 0) n (outcome_of a) (subst (Run G r.rule.body (spot_at T 0) n) i r.run) in
    let c = w.count in
    let d = e.steps in
    let y = r.within in (
      record {
        entered = w.entered;
        answers = record { start = r.rule; is_start = r.is_start; body = w.answers };
        position = e.position;
        steps = omega arith;
        derived = derived (outcome_of a) w.answers;
      },
      omega arith,
    )
running_ends offer G T most n x StepsUsed r e h = unanswered offer G T most n x r e h (tape_is_last x) refl
running_ends offer G T most n x EmptyRound r e h =
    let i = outcome_shown r.shows e in
    let w = run_answer G r.rule.body (spot_at T 0) n outcome.empty_round (subst (Run G r.rule.body (spot_at T 0) n) i r.run) in
    let c = w.count in
    let y = r.within in
    (w.entered, record { start = r.rule; is_start = r.is_start; body = w.answers }, omega arith)
