-- Alternatives that code tries in order.
use Rattle.std.proofs.Common.{◌≡◌, ◌∙◌, ◌<◌, ◌≤◌, ◌+◌, ℕ, zero, suc, List, [], ◌∷◌, Bool, true, false, ◌||◌, refl, sym, ap, subst, Some, slice_get, arith}
use Rattle.pg_tree.specs.Trees.{Tree}
use Rattle.pg_grammar_value.specs.declared.trail.TrailItem.{TrailItem}
use Rattle.pg_grammar_value.specs.declared.trail.TrailItem.TheVariants.{Alt}
use Rattle.pg_language.specs.Answers.{Given, Answers, AnswersAlternatives, no_alternative, alternative, alternative_consumed, alternative_stands, alternative_commits, alternative_failed}
use Rattle.pg_language.specs.Derives.{Spot}
use Rattle.pg_language.specs.Errors.{Error, merge, no_messages_at}
use Rattle.pg_language.specs.Outcomes.{Outcome, ok, failed, empty_round}
use Rattle.pg_language.specs.Reactions.{after_failure}
use Rattle.pg_language.specs.declared.reading.Reading.TheVariants.{Library}
use Rattle.pg_machine_plan.specs.Facts.{outcomes_of, NeverFailsEmpty}
use Rattle.pg_machine_plan.specs.Layout.{ComesTo, Tries, none_left, passed_by, last_one, sure_one, marked_one}
use Rattle.pg_machine_plan.specs.Plans.{Program, chosen}
use Rattle.pg_machine_quick.specs.Turns.{Frame, State, state, marks, added, on_turn, run, picked}
use Rattle.pg_machine_plan.specs.declared.instruction.Arm.{Arm}
use Rattle.pg_machine_plan.specs.declared.instruction.Instruction.TheVariants.{Pick, Mark, Commit, Fail}
use Rattle.pg_machine_plan.specs.declared.instruction.Keep.{Keep}
use Rattle.pg_machine_quick.proofs.Comes.{or_false, or_true, onward, Comes, Claim, turned, comes_to, same_run, same_back, same_count, on_after_failure, seen_as}
use Rattle.pg_machine_plan.proofs.Verdicts.{alone, of_all}

-- ---- one alternative that ran

ok_one : (G : Given) → G.reading ≡ Library → (j p m : ℕ) (ps : List ℕ) (a b : Spot) (c : Bool) (v : List Tree) (i : List TrailItem) (e : Error) →
    Answers G p a (ok c b v i e) m → AnswersAlternatives G j (p ∷ ps) a (ok c b v (Alt j ∷ i) e) (m + zero)
ok_one G l j p m ps a b true v i e d = alternative d alternative_consumed
ok_one G l j p m ps a b false v i e d = alternative d (alternative_stands l)

-- what an alternative's failure makes of the choice, where no other is tried
abbrev Loses : Given → ℕ → ℕ → List ℕ → Spot → Type 0
Loses G j p ps a = (c : Bool) (e : Error) (m : ℕ) → Answers G p a (failed c e) m → (f : Error) × AnswersAlternatives G j (p ∷ ps) a (failed c f) (m + zero)

loses_last : (G : Given) (j p : ℕ) (a : Spot) → Loses G j p [] a
loses_last G j p a true e m d = (e, alternative d alternative_commits)
loses_last G j p a false e m d = (merge e (no_messages_at a.place), alternative d (alternative_failed no_alternative))

loses_sure : (G : Given) (j p : ℕ) (ps : List ℕ) (a : Spot) → NeverFailsEmpty (outcomes_of G p a) → Loses G j p ps a
loses_sure G j p ps a never true e m d = (e, alternative d alternative_commits)
loses_sure G j p ps a never false e m d = absurd (never e m d)

-- its outcome is the choice's
sole_came : (P : Program) → P.given.reading ≡ Library → (N j p : ℕ) (ps : List ℕ) (keep : Keep) (exit end l m : ℕ) (s t : State) (o : Outcome) → l < N →
    Loses P.given j p ps s.spot → ComesTo P.plan end exit → Answers P.given p s.spot o m →
    onward P l keep exit s.stack s.forest s.taken o (s.nodes + m) ≡ Some t → Comes P N keep end s t (of_all P.given j (p ∷ ps) s.spot)
sole_came P library N j p ps keep exit end l m s t (ok c b v i e) less loses comes d on =
    let u = comes_to P end l (state exit b s.stack (added keep s.forest v) (s.nodes + m) (s.taken || c)) t comes on in
    let few = u.1 in
    record {
      left = u.0;
      fewer = omega arith;
      outcome = ok c b v (Alt j ∷ i) e;
      nodes = m;
      has = subst (AnswersAlternatives P.given j (p ∷ ps) s.spot (ok c b v (Alt j ∷ i) e)) (alone m) (ok_one P.given library j p m ps s.spot b c v i e d);
      on = u.2;
    }
sole_came P library N j p ps keep exit end l m s t (failed c e) less loses jump d on =
    let lost = loses c e m d in
    record {
      left = l;
      fewer = less;
      outcome = failed c lost.0;
      nodes = m;
      has = subst (AnswersAlternatives P.given j (p ∷ ps) s.spot (failed c lost.0)) (alone m) lost.1;
      on = on;
    }
sole_came P library N j p ps keep exit end l m s t empty_round less loses jump d on = absurd (cc)

-- ---- after an alternative that failed with nothing consumed

others_came : (P : Program) (M N j p : ℕ) (ps : List ℕ) (keep : Keep) (end m : ℕ) (s t : State) (e : Error) → M ≤ N → Answers P.given p s.spot (failed false e) m →
    Comes P M keep end (state s.pc s.spot s.stack s.forest (s.nodes + m) s.taken) t (of_all P.given (suc j) ps s.spot) →
    Comes P N keep end s t (of_all P.given j (p ∷ ps) s.spot)
others_came P M N j p ps keep end m s t e below d c =
    let few = c.fewer in
    record {
      left = c.left;
      fewer = omega arith;
      outcome = after_failure e c.outcome;
      nodes = m + c.nodes;
      has = alternative d (alternative_failed c.has);
      on = same_count P c.left keep end s.stack s.forest s.taken (after_failure e c.outcome) (s.nodes + m + c.nodes) (s.nodes + (m + c.nodes)) t (omega arith)
          (on_after_failure P c.left keep end s.stack s.forest s.taken (s.nodes + m + c.nodes) t e c.outcome c.on);
    }

-- ---- one under a mark

-- the state with a mark on what waits
abbrev marked : ℕ → ℕ → State → State
marked pc next s = state pc s.spot (marks next s.forest s.spot s.taken ∷ s.stack) s.forest s.nodes false

marked_came : (P : Program) → P.given.reading ≡ Library → (N j p : ℕ) (ps : List ℕ) (keep : Keep) (next pc exit end l m : ℕ) (s t : State) (o : Outcome) → l < N →
    slice_get P.plan.code exit ≡ Some (Commit end) → Answers P.given p s.spot o m →
    onward P l keep exit (marks next s.forest s.spot s.taken ∷ s.stack) s.forest false o (s.nodes + m) ≡ Some t →
    (run P l (state next s.spot s.stack s.forest (s.nodes + m) s.taken) ≡ Some t →
    Comes P l keep end (state s.pc s.spot s.stack s.forest (s.nodes + m) s.taken) t (of_all P.given (suc j) ps s.spot)) →
    Comes P N keep end s t (of_all P.given j (p ∷ ps) s.spot)
marked_came P library N j p ps keep next pc exit end l m s t (ok c b v i e) less commit d on rest =
    let u = turned P l (state exit b (marks next s.forest s.spot s.taken ∷ s.stack) (added keep s.forest v) (s.nodes + m) (false || c)) t (Commit end) commit on in
    let counted = u.counted in
    record {
      left = u.left;
      fewer = omega arith;
      outcome = ok c b v (Alt j ∷ i) e;
      nodes = m;
      has = subst (AnswersAlternatives P.given j (p ∷ ps) s.spot (ok c b v (Alt j ∷ i) e)) (alone m) (ok_one P.given library j p m ps s.spot b c v i e d);
      on = u.on;
    }
marked_came P library N j p ps keep next pc exit end l m s t (failed true e) less commit d on rest = record {
  left = l;
  fewer = less;
  outcome = failed true e;
  nodes = m;
  has = subst (AnswersAlternatives P.given j (p ∷ ps) s.spot (failed true e)) (alone m) (alternative d alternative_commits);
  on = same_back P l s.stack (s.nodes + m) true (s.taken || true) t (or_true s.taken) on;
}
marked_came P library N j p ps keep next pc exit end l m s t (failed false e) less commit d on rest =
    others_came P l N j p ps keep end m s t e (omega arith) d (rest on)
marked_came P library N j p ps keep next pc exit end l m s t empty_round less commit d on rest = absurd (cc)

-- ---- all of them

-- from the mark on, by the table there
at_mark : (P : Program) (l next table : ℕ) (arm : Arm) (z t : State) → z.pc ≡ next → slice_get P.plan.code next ≡ Some (Pick table) →
    chosen P.plan table (slice_get P.given.text z.spot.place) ≡ Some arm → run P l z ≡ Some t →
    (i : ℕ) × (i < l) × (run P i (state arm.target z.spot z.stack z.forest (z.nodes + arm.nodes) z.taken) ≡ Some t)
at_mark P l next table arm z t at pick is on =
    let u = turned P l z t (Pick table) (subst (λ pc. slice_get P.plan.code pc ≡ Some (Pick table)) (sym at) pick) on in
    let counted = u.counted in
    (u.left, omega arith, ap (λ x. on_turn (picked z x) (λ y. run P u.left y)) (sym is) ∙ u.on)

pub alternatives_come : (P : Program) → P.given.reading ≡ Library → (N : ℕ) → Claim P N → (keep : Keep) (end : ℕ) (a : Spot) (j n : ℕ) {target skipped : ℕ} {ps : List ℕ}
    (pc : ℕ) (k : List Frame) (f : List Tree) (c : ℕ) (x : Bool) (t : State) → n < N → Tries P keep end a target skipped ps →
    run P n (state target a k f (c + skipped) x) ≡ Some t → Comes P n keep end (state pc a k f c x) t (of_all P.given j ps a)
alternatives_come P library N claim keep end a j n pc k f c x t below (none_left {target = target} fail) on =
    let u = turned P n (state target a k f (c + zero) x) t Fail fail on in
    let counted = u.counted in
    record {
      left = u.left;
      fewer = omega arith;
      outcome = failed false (no_messages_at a.place);
      nodes = 0;
      has = no_alternative;
      on = same_back P u.left k (c + zero) x (x || false) t (or_false x) u.on;
    }
alternatives_come P library N claim keep end a j n pc k f c x t below (passed_by {target = target} {p = p} {m = m} {n = i} {ps = ps} fails tries) on =
    let r : run P n (state target a k f (c + m + i) x) ≡ Some t = same_run P n target a k f f (c + (m + i)) (c + m + i) x x t refl (omega arith) refl on in
    others_came P n n j p ps keep end m (state pc a k f c x) t fails.error (omega arith) fails.so
    (alternatives_come P library N claim keep end a (suc j) n pc k f (c + m) x t below tries r)
alternatives_come P library N claim keep end a j n pc k f c x t below (last_one {target = target} {p = p} {exit = exit} noted jump) on =
    let r : run P n (state target a k f c x) ≡ Some t = same_run P n target a k f f (c + zero) c x x t refl (omega arith) refl on in
    let d = claim n keep p exit (state target a k f c x) t below noted r in
    sole_came P library n j p [] keep exit end d.left d.nodes (state pc a k f c x) t d.outcome d.fewer (loses_last P.given j p a) jump d.has d.on
alternatives_come P library N claim keep end a j n pc k f c x t below (sure_one {target = target} {p = p} {exit = exit} {ps = ps} never noted jump) on =
    let r : run P n (state target a k f c x) ≡ Some t = same_run P n target a k f f (c + zero) c x x t refl (omega arith) refl on in
    let d = claim n keep p exit (state target a k f c x) t below noted r in
    sole_came P library n j p ps keep exit end d.left d.nodes (state pc a k f c x) t d.outcome d.fewer (loses_sure P.given j p ps a never) jump d.has d.on
alternatives_come P library N claim keep end a j n pc k f c x t below
    (marked_one {target = target} {next = next} {table = table} {p = p} {exit = exit} {arm = arm} {ps = ps} mark noted commit pick is tries) on =
    let s : State = state pc a k f c x in
    let r : run P n (state target a k f c x) ≡ Some t = same_run P n target a k f f (c + zero) c x x t refl (omega arith) refl on in
    let u = turned P n (state target a k f c x) t (Mark next) mark r in
    let counted = u.counted in
    let d = claim u.left keep p exit (marked (target + 1) next s) t (omega arith) noted u.on in
    let few = d.fewer in
    marked_came P library n j p ps keep next (target + 1) exit end d.left d.nodes s t d.outcome (omega arith) commit d.has d.on
    (λ q.
    let g = at_mark P d.left next table arm (state next a k f (c + d.nodes) x) t refl pick is q in
    let h = g.1 in
    seen_as P g.0 d.left keep end (state pc a k f (c + d.nodes) x) t (of_all P.given (suc j) ps a) (of_all P.given (suc j) ps a) (omega arith) (λ o m y. y)
    (alternatives_come P library N claim keep end a (suc j) g.0 pc k f (c + d.nodes) x t (omega arith) tries g.2))
