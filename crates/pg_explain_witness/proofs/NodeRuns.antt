-- A run of a node by itself, and what it answers.
use Rattle.std.proofs.Common.{◌≡◌, ◌≤◌, ◌<◌, ◌-◌, ℕ, zero, suc, List, [], ◌∷◌, length, Bool, true, false, refl, sym, ap, subst, ◌∙◌, drop, arith}
use Rattle.std.proofs.Math.Dec.{eqb-suc-zero}
use Rattle.std.proofs.lemmas.Bool.{false≢true}
use Rattle.std.specs.Prelude.{◌==◌, ◌^◌, Option, Some, None, IfSome, option_map, slice_get}
use Rattle.pg_pred.specs.Offer.{Offer}
use Rattle.pg_grammar_value.specs.Grammar.{Grammar, rule_body}
use Rattle.pg_grammar_value.specs.declared.grammar.Rule as declared
use Rattle.pg_grammar_value.specs.declared.trail.TrailItem.{TrailItem}
use Rattle.pg_message_tape.specs.Messages.{TapeMessage, error_of}
use Rattle.pg_message_tape.specs.declared.message_tape.TapeError.{TapeError}
use Rattle.pg_machine_turns.specs.Ready.{AreReady}
use Rattle.pg_machine_turns.specs.declared.frame.Reply.{Reply}
use Rattle.pg_machine_turns.specs.declared.frame.Reply.TheVariants as reply
use Rattle.pg_table.specs.Tables.{Table}
use Rattle.pg_language.specs.Answers.{Given, Answers}
use Rattle.pg_language.specs.Errors.{Error}
use Rattle.pg_language.specs.Outcomes.{Outcome, ok, failed, empty_round}
use Rattle.pg_machine_lists.specs.RunTrees.{RunTrees, no_run_trees}
use Rattle.pg_machine.proofs.Running.{outcome_shown}
use Rattle.pg_machine.specs.Outcomes.{outcome_on}
use Rattle.pg_machine_turns.proofs.Hiding.{none_mean}
use Rattle.pg_machine_turns.proofs.Runs.{Run, run_start, run_turn, run_answer}
use Rattle.pg_machine_turns.proofs.Turned.{turn_shown, last_shown}
use Rattle.pg_machine_turns.specs.Shows.{no_frames, Shows, shows_at}
use Rattle.pg_machine_turns.specs.Spots.{spot_at}
use Rattle.pg_machine_turns.specs.Tape.{OnFrame, Tape, tape_at, tape_with, tape_turn, tape_is_last}
use Rattle.pg_machine_turns.specs.TapeRuns.{IsAfter, IsTapeReadyFor}
use Rattle.pg_machine_turns.specs.View.{tape_of}
use Rattle.pg_machine_turns.specs.declared.frame.Mode.{Mode}
use Rattle.pg_machine_turns.specs.declared.frame.Mode.TheVariants.{At, With}
use Rattle.pg_machine_turns.specs.declared.machine.Machine.{Machine}
use Rattle.pg_machine_turns.specs.Turns.{State, at_node, with_outcome, turn}
use Rattle.pg_explain_witness.specs.Running.{alone, AnswersAs, ComesAgain, IsEntered, IsIdleTo, IsSo, Lies}
use Rattle.pg_explain_witness.specs.declared.answering.After.{After}
use Rattle.pg_explain_witness.specs.declared.answering.Manner.{Manner}
use Rattle.pg_explain_witness.specs.declared.answering.Manner.TheVariants.{ForGood, Taking, Idle}

-- the machine has this tape after so many turns from the node at the place
record NodeRun (G : Given) (T : Table) (p i steps : ℕ) (x : Tape) : Type 0 where
  state : State
  shows : Shows G state x
  run : Run G p (spot_at T i) steps state

begins : (G : Given) (T : Table) (p i : ℕ) → NodeRun G T p i 0 (alone p i T)
begins G T p i = record { state = at_node p (spot_at T i) []; shows = shows_at no_frames none_mean; run = run_start G p (spot_at T i) }

next : (G : Given) (T : Table) (p i n : ℕ) (x y : Tape) → NodeRun G T p i n x → tape_is_last x ≡ false → y ≡ tape_turn G x → NodeRun G T p i (suc n) y
next G T p i n x y r f e =
    let going = last_shown r.shows ∙ f in
    let one : NodeRun G T p i (suc n) (tape_turn G x) = record { state = turn G r.state; shows = turn_shown G r.shows going; run = run_turn G p (spot_at T i) n r.state going r.run } in
    subst (NodeRun G T p i (suc n)) (sym e) one

after : (G : Given) (T : Table) (p i n : ℕ) (y : Tape) → IsAfter G (alone p i T) n y → NodeRun G T p i n y
after G T p i zero y h = subst (NodeRun G T p i 0) (sym h) (begins G T p i)
after G T p i (suc n) y h = next G T p i n h.0 y (after G T p i n h.0 h.1) h.2 h.3

-- the outcome that lies on the tape is what the node answers
answers_alone : (G : Given) (P : Outcome → Type 0) (T : Table) (p i n : ℕ) (y : Tape) → IsAfter G (alone p i T) n y → Lies P y → AnswersAs G P p (spot_at T i)
answers_alone G P T p i n y h l =
    let r = after G T p i n y h in
    let is = outcome_shown r.shows l.lies in
    let w = run_answer G p (spot_at T i) n l.outcome (subst (Run G p (spot_at T i) n) is r.run) in
    record { outcome = l.outcome; nodes = w.entered; answers = w.answers; is = l.is }

-- ---- the same of a machine of which it is known that nothing lies on it

abbrev pub IsFresh : Table → List OnFrame → RunTrees → List TrailItem → List TapeMessage → Table → Type 0
IsFresh T fs v t x U = (fs ≡ []) × (v ≡ no_run_trees) × (t ≡ []) × (x ≡ []) × (U ≡ T)

fresh_alone : (T : Table) (p i : ℕ) (fs : List OnFrame) (v : RunTrees) (t : List TrailItem) (x : List TapeMessage) (U : Table) → IsFresh T fs v t x U → tape_at p i fs v t x U ≡ alone p i T
fresh_alone T p i fs v t x U f = let e = f.0 in let g = f.1 in let h = f.2 in let k = f.3 in let l = f.4 in cc

pub answers_as : (G : Given) (P : Outcome → Type 0) (T : Table) (p i n : ℕ) (fs : List OnFrame) (v : RunTrees) (t : List TrailItem) (x : List TapeMessage) (U : Table) (y : Tape) →
    IsFresh T fs v t x U → IsAfter G (tape_at p i fs v t x U) n y → Lies P y → AnswersAs G P p (spot_at T i)
answers_as G P T p i n fs v t x U y fresh came lies = answers_alone G P T p i n y (subst (λ (z : Tape). IsAfter G z n y) (fresh_alone T p i fs v t x U fresh) came) lies

pub comes_again : (G : Given) (T : Table) (p i n : ℕ) (fs : List OnFrame) (v : RunTrees) (t : List TrailItem) (x : List TapeMessage) (U : Table) (gs : List OnFrame) (w : RunTrees) (u : List TrailItem)
    (z : List TapeMessage) (V : Table) → IsFresh T fs v t x U → IsAfter G (tape_at p i fs v t x U) n (tape_at p i gs w u z V) → 0 < n → ComesAgain G p i T
comes_again G T p i n fs v t x U gs w u z V fresh came some =
    record { turns = n; some = some; frames = gs; forest = w; trail = u; messages = z; after = V; again = subst (λ (y : Tape). IsAfter G y n (tape_at p i gs w u z V)) (fresh_alone T p i fs v t x U fresh) came }

-- a machine without frames is ready for as many turns as can be counted
pub ready_alone : (offer : Offer) (g : Grammar) (most p i : ℕ) (fs : List OnFrame) (v : RunTrees) (t : List TrailItem) (x : List TapeMessage) (U : Table) → fs ≡ [] → most ≤ 2 ^ 64 - 1 →
    IsTapeReadyFor offer g most (tape_at p i fs v t x U)
ready_alone offer g most p i fs v t x U e l = (0, subst (AreReady offer g 1) (sym e) tt, omega arith)

-- the run of the start rule has entered the node
pub entered_from : (G : Given) (T : Table) (p i n body : ℕ) (fs : List OnFrame) (v : RunTrees) (t : List TrailItem) (x : List TapeMessage) (U : Table) (gs : List OnFrame) (w : RunTrees) (u : List TrailItem)
    (z : List TapeMessage) (under : Table) → option_map rule_body (slice_get G.grammar.rules G.grammar.start) ≡ Some body → IsFresh T fs v t x U →
    IsAfter G (tape_at body 0 fs v t x U) n (tape_at p i gs w u z under) → IsEntered G T p i under
entered_from G T p i n body fs v t x U gs w u z under b fresh came = of_rule (slice_get G.grammar.rules G.grammar.start) refl b
  where
    of_rule : (o : Option declared.Rule) → slice_get G.grammar.rules G.grammar.start ≡ o → option_map rule_body o ≡ Some body → IsEntered G T p i under
    of_rule None there q = cc
    of_rule (Some rule) there q =
        let body_is : body ≡ rule.body = cc in
        let same : tape_at body 0 fs v t x U ≡ alone rule.body 0 T = fresh_alone T body 0 fs v t x U fresh ∙ subst (λ (k : ℕ). alone body 0 T ≡ alone k 0 T) body_is refl in
        record { start = rule; is_start = there; turns = n; frames = gs; forest = w; trail = u; messages = z; entered = subst (λ (y : Tape). IsAfter G y n (tape_at p i gs w u z under)) same came }

-- ---- the same of what may be there

pub entered_if : (G : Given) (T : Table) (p i n body : ℕ) (fs : List OnFrame) (v : RunTrees) (t : List TrailItem) (x : List TapeMessage) (U : Table) (m : Machine) (mode : Mode) (o : Option Table) →
    option_map rule_body (slice_get G.grammar.rules G.grammar.start) ≡ Some body → IsFresh T fs v t x U → IsAfter G (tape_at body 0 fs v t x U) n (tape_of mode m) →
    IfSome o (λ (under : Table). (under ≡ m.table) × (mode ≡ At p i)) → IfSome o (IsEntered G T p i)
entered_if G T p i n body fs v t x U m mode None b fresh came h = tt
entered_if G T p i n body fs v t x U m mode (Some under) b fresh came h =
    let there = subst (λ (k : Mode). IsAfter G (tape_at body 0 fs v t x U) n (tape_of k m)) h.1 came in
    subst (λ (u : Table). IsEntered G T p i u) (sym h.0) (entered_from G T p i n body fs v t x U m.frames m.lists.forest m.lists.trail.items m.lists.messages m.table b fresh there)

pub idle_if : (G : Given) (T : Table) (p i n : ℕ) (fs : List OnFrame) (v : RunTrees) (t : List TrailItem) (x : List TapeMessage) (U : Table) (y : Tape) (o : Option After) → IsFresh T fs v t x U →
    IsAfter G (tape_at p i fs v t x U) n y → IfSome o (λ (a : After). Lies (IsIdleTo (spot_at a.table a.place)) y) → IfSome o (λ (a : After). AnswersAs G (IsIdleTo (spot_at a.table a.place)) p (spot_at T i))
idle_if G T p i n fs v t x U y None fresh came h = tt
idle_if G T p i n fs v t x U y (Some a) fresh came h = answers_as G (IsIdleTo (spot_at a.table a.place)) T p i n fs v t x U y fresh came h

pub again_if : (G : Given) (T : Table) (p i n : ℕ) (fs : List OnFrame) (v : RunTrees) (t : List TrailItem) (x : List TapeMessage) (U : Table) (m : Machine) (mode : Mode) → IsFresh T fs v t x U →
    IsAfter G (tape_at p i fs v t x U) n (tape_of mode m) → 0 < n → mode ≡ At p i → ComesAgain G p i T
again_if G T p i n fs v t x U m mode fresh came some is =
    let there = subst (λ (k : Mode). IsAfter G (tape_at p i fs v t x U) n (tape_of k m)) is came in
    comes_again G T p i n fs v t x U m.frames m.lists.forest m.lists.trail.items m.lists.messages m.table fresh there some

-- ---- an answer for which no frame waits

pub lies_ok : (P : Outcome → Type 0) (c : Bool) (j : ℕ) (error : TapeError) (fs : List OnFrame) (v : RunTrees) (t : List TrailItem) (x : List TapeMessage) (T : Table) → (length fs == 0) ≡ true →
    P (ok c (spot_at T j) v.kept t (error_of error.place (drop error.from x))) → Lies P (tape_with (reply.Succeeded c j error) fs v t x T)
lies_ok P c j error [] v t x T e h = record { outcome = ok c (spot_at T j) v.kept t (error_of error.place (drop error.from x)); lies = refl; is = h }
lies_ok P c j error (f ∷ fs) v t x T e h = absurd (false≢true (sym (eqb-suc-zero (length fs)) ∙ e))

pub lies_failed : (P : Outcome → Type 0) (c : Bool) (error : TapeError) (fs : List OnFrame) (v : RunTrees) (t : List TrailItem) (x : List TapeMessage) (T : Table) → (length fs == 0) ≡ true →
    P (failed c (error_of error.place (drop error.from x))) → Lies P (tape_with (reply.Failed c error) fs v t x T)
lies_failed P c error [] v t x T e h = record { outcome = failed c (error_of error.place (drop error.from x)); lies = refl; is = h }
lies_failed P c error (f ∷ fs) v t x T e h = absurd (false≢true (sym (eqb-suc-zero (length fs)) ∙ e))

-- the same of a machine that has it

abbrev pub error_on : Machine → TapeError → Error
error_on m error = error_of error.place (drop error.from m.lists.messages)

pub ok_lies : (P : Outcome → Type 0) (m : Machine) (mode : Mode) (r : Reply) (c : Bool) (j : ℕ) (error : TapeError) → mode ≡ With r → r ≡ reply.Succeeded c j error → (length m.frames == 0) ≡ true →
    P (ok c (spot_at m.table j) m.lists.forest.kept m.lists.trail.items (error_on m error)) → Lies P (tape_of mode m)
ok_lies P m mode r c j error e f none h =
    subst (λ (k : Mode). Lies P (tape_of k m)) (sym (e ∙ ap With f)) (lies_ok P c j error m.frames m.lists.forest m.lists.trail.items m.lists.messages m.table none h)

pub failed_lies : (P : Outcome → Type 0) (m : Machine) (mode : Mode) (r : Reply) (c : Bool) (error : TapeError) → mode ≡ With r → r ≡ reply.Failed c error → (length m.frames == 0) ≡ true →
    P (failed c (error_on m error)) → Lies P (tape_of mode m)
failed_lies P m mode r c error e f none h =
    subst (λ (k : Mode). Lies P (tape_of k m)) (sym (e ∙ ap With f)) (lies_failed P c error m.frames m.lists.forest m.lists.trail.items m.lists.messages m.table none h)

pub idle_lies : (m : Machine) (mode : Mode) (r : Reply) (c : Bool) (j : ℕ) (error : TapeError) → mode ≡ With r → r ≡ reply.Succeeded c j error → (length m.frames == 0) ≡ true → (o : Option After) →
    IfSome o (λ (a : After). (c ≡ false) × (spot_at m.table j ≡ spot_at a.table a.place)) → IfSome o (λ (a : After). Lies (IsIdleTo (spot_at a.table a.place)) (tape_of mode m))
idle_lies m mode r c j error e f none None h = tt
idle_lies m mode r c j error e f none (Some a) h = ok_lies (IsIdleTo (spot_at a.table a.place)) m mode r c j error e f none h
