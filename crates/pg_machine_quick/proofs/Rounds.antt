-- Rounds of a loop: one ends it, fails, or goes to its head again.
use Rattle.std.proofs.Common.{◌≡◌, ◌∙◌, ◌<◌, ◌≤◌, ◌+◌, ℕ, zero, suc, List, [], ◌∷◌, Bool, true, false, ◌||◌, refl, sym, ap, subst, Some, slice_get, arith}
use Rattle.pg_tree.specs.Trees.{Tree}
use Rattle.pg_grammar_form.specs.declared.form.Form.TheVariants as form
use Rattle.pg_grammar_value.specs.declared.trail.TrailItem.{TrailItem}
use Rattle.pg_language.specs.Answers.{Given, Answers, AnswersForm, seq, part, part_last, AnswersRounds, round, round_ended, round_failed, round_ok}
use Rattle.pg_language.specs.Derives.{Spot}
use Rattle.pg_language.specs.Errors.{Error}
use Rattle.pg_language.specs.Outcomes.{Outcome, ok, failed, empty_round}
use Rattle.pg_language.specs.Reactions.{then_round}
use Rattle.pg_machine_plan.specs.Facts.{Outcomes, TakesAtOnce}
use Rattle.pg_machine_plan.specs.Layout.{GoesRound, goes_past, goes_in, goes_marked, ComesTo}
use Rattle.pg_machine_plan.specs.Plans.{Program, chosen}
use Rattle.pg_machine_quick.specs.Turns.{Frame, State, state, marks, added, back, on_turn, run}
use Rattle.pg_machine_plan.specs.declared.instruction.Arm.{Arm}
use Rattle.pg_machine_plan.specs.declared.instruction.Instruction.TheVariants.{Pick, Mark, Again}
use Rattle.pg_machine_plan.specs.declared.instruction.Keep.{Keep}
use Rattle.pg_machine_quick.proofs.Comes.{or_false, or_true, none_added, onward, Comes, Claim, turned, comes_to, was_picked, same_run, same_back, same_count, joined_round}
use Rattle.pg_machine_plan.proofs.LeafVerdicts.{of_form}
use Rattle.pg_machine_quick.proofs.Sequences.{parts_come}
use Rattle.pg_machine_plan.proofs.Verdicts.{alone, seq_fails, first_takes}

-- a round that was begun in state s, of fewer turns than N: it ended the loop, or failed, or consumed and is at the head again, where the forest is this
-- function of the one after the round's parts
pub data Round (P : Program) (N : ℕ) (keep : Keep) (head out : ℕ) (s t : State) (Has : Outcomes) (fold : List Tree → List Tree) : Type 0 where
  ends : {l m : ℕ} {e : Error} → l < N → Has (failed false e) m → run P l (state out s.spot s.stack s.forest (s.nodes + m) s.taken) ≡ Some t →
      Round P N keep head out s t Has fold
  fails : {l m : ℕ} {e : Error} → l < N → Has (failed true e) m → on_turn (back true (s.nodes + m) s.stack) (λ z. run P l z) ≡ Some t →
      Round P N keep head out s t Has fold
  goes_on : {l m : ℕ} {b : Spot} {v : List Tree} {i : List TrailItem} {e : Error} → l < N → Has (ok true b v i e) m →
      run P l (state head b s.stack (fold (added keep s.forest v)) (s.nodes + m) (s.taken || true)) ≡ Some t → Round P N keep head out s t Has fold

-- the code after a round's parts leads to the head, and does this to the forest
abbrev pub Folds : Program → ℕ → (ℕ → Type 0) → (List Tree → List Tree) → Type 0
Folds P head LeadsBack fold = (l : ℕ) (z t : State) → LeadsBack z.pc → run P l z ≡ Some t →
    (i : ℕ) × (i ≤ l) × (run P i (state head z.spot z.stack (fold z.forest) z.nodes z.taken) ≡ Some t)

-- ---- a round that is sure to consume

sure_ended : (P : Program) (N l m : ℕ) (keep : Keep) (exit head out : ℕ) (s t : State) (Has : Outcomes) (LeadsBack : ℕ → Type 0) (fold : List Tree → List Tree)
    (o : Outcome) → l < N → TakesAtOnce Has → Folds P head LeadsBack fold → LeadsBack exit → Has o m →
    onward P l keep exit s.stack s.forest s.taken o (s.nodes + m) ≡ Some t → Round P N keep head out s t Has fold
sure_ended P N l m keep exit head out s t Has LeadsBack fold (ok c b v i e) less takes folds leads d on =
    let one : c ≡ true = takes (ok c b v i e) m d in
    let g = folds l (state exit b s.stack (added keep s.forest v) (s.nodes + m) (s.taken || c)) t leads on in
    let few = g.1 in
    goes_on {b = b} {v = v} {i = i} {e = e} (omega arith) (subst (λ x. Has (ok x b v i e) m) one d)
    (same_run P g.0 head b s.stack (fold (added keep s.forest v)) (fold (added keep s.forest v)) (s.nodes + m) (s.nodes + m) (s.taken || c) (s.taken || true) t
    refl refl (ap (λ x. s.taken || x) one) g.2)
sure_ended P N l m keep exit head out s t Has LeadsBack fold (failed c e) less takes folds leads d on =
    let one : c ≡ true = takes (failed c e) m d in
    fails {e = e} less (subst (λ x. Has (failed x e) m) one d)
    (same_back P l s.stack (s.nodes + m) (s.taken || c) true t (ap (λ x. s.taken || x) one ∙ sym (or_true s.taken)) on)
sure_ended P N l m keep exit head out s t Has LeadsBack fold empty_round less takes folds leads d on = absurd (cc)

-- ---- a round under a mark

marked_ended : (P : Program) (N l m : ℕ) (keep : Keep) (exit next head out : ℕ) (s t : State) (Has : Outcomes) (LeadsBack : ℕ → Type 0) (fold : List Tree → List Tree)
    (o : Outcome) → l < N → Folds P head LeadsBack fold → LeadsBack next → slice_get P.plan.code exit ≡ Some (Again next) → Has o m →
    onward P l keep exit (marks out s.forest s.spot s.taken ∷ s.stack) s.forest false o (s.nodes + m) ≡ Some t → Round P N keep head out s t Has fold
marked_ended P N l m keep exit next head out s t Has LeadsBack fold (ok true b v i e) less folds leads return d on =
    let k : List Frame = marks out s.forest s.spot s.taken ∷ s.stack in
    let u = turned P l (state exit b k (added keep s.forest v) (s.nodes + m) true) t (Again next) return on in
    let counted = u.counted in
    let g = folds u.left (state next b s.stack (added keep s.forest v) (s.nodes + m) (s.taken || true)) t leads u.on in
    let few = g.1 in
    goes_on {b = b} {v = v} {i = i} {e = e} (omega arith) d g.2
marked_ended P N l m keep exit next head out s t Has LeadsBack fold (ok false b v i e) less folds leads return d on =
    let k : List Frame = marks out s.forest s.spot s.taken ∷ s.stack in
    let u = turned P l (state exit b k (added keep s.forest v) (s.nodes + m) false) t (Again next) return on in
    let never = u.on in
    absurd (cc)
marked_ended P N l m keep exit next head out s t Has LeadsBack fold (failed true e) less folds leads return d on = fails {e = e} less d on
marked_ended P N l m keep exit next head out s t Has LeadsBack fold (failed false e) less folds leads return d on = ends {e = e} less d on
marked_ended P N l m keep exit next head out s t Has LeadsBack fold empty_round less folds leads return d on = absurd (cc)

-- ---- either, by the arm at the head

pub by_arm : (P : Program) (N : ℕ) → Claim P N → (n : ℕ) (keep : Keep) (head out : ℕ) (arm : Arm) (p : ℕ) (ps : List ℕ) (s t : State) (LeadsBack : ℕ → Type 0)
    (fold : List Tree → List Tree) → n < N → Folds P head LeadsBack fold → GoesRound P keep head out s.spot arm p ps LeadsBack →
    run P n (state arm.target s.spot s.stack s.forest (s.nodes + arm.nodes) s.taken) ≡ Some t →
    Round P (suc n) keep head out s t (of_form P.given (form.Seq (p ∷ ps)) s.spot) fold
by_arm P N claim n keep head out arm p ps s t LeadsBack fold below folds (goes_past passed target) on =
    let x = seq_fails P.given p arm.nodes ps s.spot passed in
    ends {e = x.error} (omega arith) x.so (subst (λ pc. run P n (state pc s.spot s.stack s.forest (s.nodes + arm.nodes) s.taken) ≡ Some t) target on)
by_arm P N claim n keep head out arm p ps s t LeadsBack fold below folds (goes_in exit takes none adjoin leads) on =
    let z : State = state arm.target s.spot s.stack s.forest s.nodes s.taken in
    let r : run P n z ≡ Some t = same_run P n arm.target s.spot s.stack s.forest s.forest (s.nodes + arm.nodes) s.nodes s.taken s.taken t refl (omega arith) refl on in
    let c = parts_come P N claim n keep (p ∷ ps) exit z t (omega arith) adjoin r in
    let few = c.fewer in
    sure_ended P (suc n) c.left c.nodes keep exit head out s t (of_form P.given (form.Seq (p ∷ ps)) s.spot) LeadsBack fold c.outcome (omega arith)
    (first_takes P.given p ps s.spot takes) folds leads c.has c.on
by_arm P N claim n keep head out arm p ps s t LeadsBack fold below folds (goes_marked exit next none mark adjoin return leads) on =
    let z : State = state arm.target s.spot s.stack s.forest s.nodes s.taken in
    let r : run P n z ≡ Some t = same_run P n arm.target s.spot s.stack s.forest s.forest (s.nodes + arm.nodes) s.nodes s.taken s.taken t refl (omega arith) refl on in
    let u = turned P n z t (Mark out) mark r in
    let counted = u.counted in
    let y : State = state (arm.target + 1) s.spot (marks out s.forest s.spot s.taken ∷ s.stack) s.forest s.nodes false in
    let c = parts_come P N claim u.left keep (p ∷ ps) exit y t (omega arith) adjoin u.on in
    let few = c.fewer in
    marked_ended P (suc n) c.left c.nodes keep exit next head out s t (of_form P.given (form.Seq (p ∷ ps)) s.spot) LeadsBack fold c.outcome (omega arith)
    folds leads return c.has c.on

-- a round from the head on
pub round_comes : (P : Program) (N : ℕ) → Claim P N → (n : ℕ) (keep : Keep) (table out : ℕ) (p : ℕ) (ps : List ℕ) (s t : State) (LeadsBack : ℕ → Type 0)
    (fold : List Tree → List Tree) → n < N → Folds P s.pc LeadsBack fold → slice_get P.plan.code s.pc ≡ Some (Pick table) →
    ((arm : Arm) → chosen P.plan table (slice_get P.given.text s.spot.place) ≡ Some arm → GoesRound P keep s.pc out s.spot arm p ps LeadsBack) →
    run P n s ≡ Some t → Round P n keep s.pc out s t (of_form P.given (form.Seq (p ∷ ps)) s.spot) fold
round_comes P N claim n keep table out p ps s t LeadsBack fold below folds pick arms on =
    let u = turned P n s t (Pick table) pick on in
    let counted = u.counted in
    let w = was_picked P u.left s t (chosen P.plan table (slice_get P.given.text s.spot.place)) u.on in
    subst (λ i. Round P i keep s.pc out s t (of_form P.given (form.Seq (p ∷ ps)) s.spot) fold) (sym counted)
    (by_arm P N claim u.left keep s.pc out w.arm p ps s t LeadsBack fold (omega arith) folds (arms w.arm w.is) w.on)

-- ---- repetitions

-- the outcomes of any number of rounds
abbrev pub of_rounds : Given → ℕ → Spot → Outcomes
of_rounds G p a = λ o m. (k : ℕ) × AnswersRounds G p k a o m

-- the one part of a round
pub part_of : (G : Given) (p : ℕ) (a : Spot) (o : Outcome) (m : ℕ) → AnswersForm G (form.Seq (p ∷ [])) a o m → Answers G p a o m
part_of G p a o m (seq (part {m = j} d part_last)) = subst (Answers G p a o) (sym (alone j)) d

pub jumps : (P : Program) (head : ℕ) → Folds P head (ComesTo P.plan head) (λ f. f)
jumps P head = λ l z t leads on. comes_to P head l z t leads on

-- what is at the head of a repetition
pub record IsHead (P : Program) (keep : Keep) (head table out p : ℕ) : Type 0 where
  pub pick : slice_get P.plan.code head ≡ Some (Pick table)
  pub arms : (a : Spot) (arm : Arm) → chosen P.plan table (slice_get P.given.text a.place) ≡ Some arm → GoesRound P keep head out a arm p [] (ComesTo P.plan head)

-- after a round, where runs from the head on come out so
after_round : (P : Program) (n : ℕ) (keep : Keep) (head out p : ℕ) (a : Spot) (k : List Frame) (f : List Tree) (c : ℕ) (x : Bool) (t : State) →
    Round P n keep head out (state head a k f c x) t (of_form P.given (form.Seq (p ∷ [])) a) (λ g. g) →
    ((l : ℕ) (b : Spot) (g : List Tree) (d : ℕ) (y : Bool) → l < n → run P l (state head b k g d y) ≡ Some t →
    Comes P l keep out (state head b k g d y) t (of_rounds P.given p b)) →
    Comes P n keep out (state head a k f c x) t (of_rounds P.given p a)
after_round P n keep head out p a k f c x t (ends {l = l} {m = m} {e = e} few d on) rest = record {
  left = l;
  fewer = few;
  outcome = ok false a [] [] e;
  nodes = m;
  has = (zero, subst (AnswersRounds P.given p zero a (ok false a [] [] e)) (alone m) (round (part_of P.given p a (failed false e) m d) round_ended));
  on = same_run P l out a k f (added keep f []) (c + m) (c + m) x (x || false) t (none_added keep f) refl (or_false x) on;
}
after_round P n keep head out p a k f c x t (fails {l = l} {m = m} {e = e} few d on) rest = record {
  left = l;
  fewer = few;
  outcome = failed true e;
  nodes = m;
  has = (zero, subst (AnswersRounds P.given p zero a (failed true e)) (alone m) (round (part_of P.given p a (failed true e) m d) round_failed));
  on = same_back P l k (c + m) true (x || true) t (or_true x) on;
}
after_round P n keep head out p a k f c x t (goes_on {l = l} {m = m} {b = b} {v = v} {i = i} {e = e} few d on) rest =
    let r = rest l b (added keep f v) (c + m) (x || true) few on in
    let less = r.fewer in
    let rounds = r.has in
    record {
      left = r.left;
      fewer = omega arith;
      outcome = then_round v i r.outcome;
      nodes = m + r.nodes;
      has = (suc rounds.0, round (part_of P.given p a (ok true b v i e) m d) (round_ok rounds.1));
      on = same_count P r.left keep out k f x (then_round v i r.outcome) (c + m + r.nodes) (c + (m + r.nodes)) t (omega arith)
          (joined_round P r.left keep out k f x (c + m + r.nodes) t v i r.outcome r.on);
    }

-- from the head on, by a bound on the turns
pub rounds_come : (P : Program) (N : ℕ) → Claim P N → (B n : ℕ) (keep : Keep) (head table out p : ℕ) (a : Spot) (k : List Frame) (f : List Tree) (c : ℕ) (x : Bool) (t : State) →
    IsHead P keep head table out p → n < B → n < N → run P n (state head a k f c x) ≡ Some t → Comes P n keep out (state head a k f c x) t (of_rounds P.given p a)
rounds_come P N claim zero n keep head table out p a k f c x t is less below on = absurd (omega arith)
rounds_come P N claim (suc B) n keep head table out p a k f c x t is less below on =
    after_round P n keep head out p a k f c x t
    (round_comes P N claim n keep table out p [] (state head a k f c x) t (ComesTo P.plan head) (λ g. g) below (jumps P head) is.pick (is.arms a) on)
    (λ l b g d y few r. rounds_come P N claim B l keep head table out p b k g d y t is (omega arith) (omega arith) r)
