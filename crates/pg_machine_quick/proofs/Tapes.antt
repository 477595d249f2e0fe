-- A run whose trees are in one list does what the run does that has a list for each frame, or gives up.
use Rattle.std.proofs.Common.{◌≡◌, ◌∙◌, ◌+◌, ◌==◌, ℕ, zero, suc, List, [], ◌∷◌, ◌++◌, Bool, true, false, ◌||◌, refl, sym, ap, subst, Option, Some, None, length, take, drop, slice_get, append_assoc, append-nil, if◌then◌else◌}
use Rattle.pg_tree.specs.Trees.{Tree}
use Rattle.pg_grammar_form.specs.declared.side.Side.{Side}
use Rattle.pg_grammar_form.specs.Forms.{Node}
use Rattle.pg_grammar_form.specs.declared.form.Form.TheVariants as form
use Rattle.pg_grammar_form.specs.declared.form.Around.{Around}
use Rattle.pg_grammar_form.specs.declared.form.Around.TheVariants as kind
use Rattle.pg_grammar_form.specs.declared.used.ChainBuilder.{ChainBuilder}
use Rattle.pg_language.specs.Answers.{Given}
use Rattle.pg_language.specs.WholeTexts.{AnswersText}
use Rattle.pg_language.specs.Derives.{Spot, left_by, made_by}
use Rattle.pg_language.specs.Outcomes.{ok}
use Rattle.pg_table.specs.Tables.{Table}
use Rattle.pg_machine_quick.specs.Laws.{first_state, TapesAnswer}
use Rattle.pg_machine_quick.specs.Tape.{Tape, tape, TapeTurn, tape_gives_up, tape_stops, tape_goes, spot_at, tape_picked, tape_returned, tape_ends, tape_closed, tape_folds, tape_folded, tape_released, tape_committed, tape_again, tape_stopped, tape_act, on_tape_turn, tape_run}
use Rattle.pg_machine_plan.specs.Plans.{Program, chosen}
use Rattle.pg_machine_quick.specs.Turns.{Frame, returns, encloses, holds, operates, marks, State, state, Turn, gives_up, stops, added, picked, returned, closed, folded, folded_by, released, committed, again, act, on_turn, run}
use Rattle.pg_machine_plan.specs.declared.instruction.Arm.{Arm}
use Rattle.pg_machine_plan.specs.declared.instruction.Instruction.{Instruction}
use Rattle.pg_machine_plan.specs.declared.instruction.Instruction.TheVariants.{Enter, Read, Span, Jump, Pick, Call, Return, Open, Close, Hold, Fold, Link, FoldLinks, Release, Rows, ReadPrefix, ReadPostfix, ReadInfix, Settle, Mark, Commit, Again, Fail, Stop}
use Rattle.pg_machine_plan.specs.declared.instruction.Keep.{Keep}
use Rattle.pg_machine_quick.proofs.WholeTexts.{stops_with_answers}
use Rattle.pg_machine_quick.proofs.TapeLinks.{folded_trees, linked_follows, links_folded_follow}
use Rattle.pg_machine_quick.proofs.TapeRows.{begun_follows, prefix_follows, postfix_follows, infix_follows, settle_follows}
use Rattle.pg_machine_quick.proofs.TapeLeaves.{one_spot, reads_follow, spans_follow}
use Rattle.pg_machine_quick.proofs.TapeStates.{below, waiting, flat, IsFine, Follows, kept_front, dropped_front, joined_trees, longer, added_fine, at_mark, back_follows}

-- ---- what frames do

picked_follows : (table : Table) (s : State) (arm : Option Arm) → IsFine table s → Follows table (tape_picked (flat s) arm) (picked s arm)
picked_follows table s None fine = tt
picked_follows table s (Some arm) fine =
    (state arm.target s.spot s.stack s.forest (s.nodes + arm.nodes) s.taken, refl, refl, record { spot = fine.spot; stack = fine.stack })

returned_follows : (table : Table) (pc : ℕ) (a : Spot) (k : List Frame) (f : List Tree) (n : ℕ) (x : Bool) → IsFine table (state pc a k f n x) →
    Follows table (tape_returned (flat (state pc a k f n x)) (waiting k)) (returned (state pc a k f n x) k)
returned_follows table pc a [] f n x fine = tt
returned_follows table pc a (returns target ∷ k) f n x fine = (state target a k f n x, refl, refl, record { spot = fine.spot; stack = fine.stack })
returned_follows table pc a (encloses counts g b y ∷ k) f n x fine = tt
returned_follows table pc a (holds g T ∷ k) f n x fine = tt
returned_follows table pc a (operates rank role i c g T ∷ k) f n x fine = tt
returned_follows table pc a (marks target g b y ∷ k) f n x fine = tt

left_table : (k : Around) (a b : Spot) (table : Table) → a.table ≡ table → b.table ≡ table → (left_by k a b).table ≡ table
left_table kind.Local a b table e h = e
left_table kind.Try a b table e h = h
left_table kind.Text a b table e h = h
left_table kind.Skip a b table e h = h
left_table (kind.Build used symbol) a b table e h = h
left_table (kind.Label message) a b table e h = h

closed_trees : (keep : Keep) (k : Around) (text : List ℕ) (i j : ℕ) (z g f : List Tree) →
    added keep (take (length (z ++ g)) ((z ++ g) ++ f)) (made_by k text i j (drop (length (z ++ g)) ((z ++ g) ++ f))) ≡ z ++ added keep g (made_by k text i j f)
closed_trees keep k text i j z g f =
    ap (λ v. added keep v (made_by k text i j (drop (length (z ++ g)) ((z ++ g) ++ f)))) (kept_front (z ++ g) f)
    ∙ ap (λ v. added keep (z ++ g) (made_by k text i j v)) (dropped_front (z ++ g) f)
    ∙ joined_trees keep z g (made_by k text i j f)

around_follows : (G : Given) (table : Table) (keep : Keep) (kind : Around) (p pc : ℕ) (a : Spot) (k : List Frame) (f : List Tree) (n : ℕ) (x : Bool) →
    IsFine table (state pc a k f n x) →
    Follows table (tape_ends G.text keep kind (flat (state pc a k f n x)) (waiting k)) (closed G keep (state pc a k f n x) (Some (form.Around kind p)))
around_follows G table keep kind p pc a [] f n x fine = tt
around_follows G table keep kind p pc a (returns target ∷ k) f n x fine = tt
around_follows G table keep kind p pc a (encloses counts g b y ∷ k) f n x fine =
    let v : List Tree = made_by kind G.text b.place a.place f in (
      state (pc + 1) (left_by kind b a) k (added keep g v) n (y || x),
      refl,
      ap (λ z. tape (pc + 1) a.place (waiting k) z n (y || x)) (closed_trees keep kind G.text b.place a.place (below k) g f),
      record { spot = left_table kind b a table fine.stack.0 fine.spot; stack = added_fine keep table g v k fine.stack.1 },
    )
around_follows G table keep kind p pc a (holds g T ∷ k) f n x fine = tt
around_follows G table keep kind p pc a (operates rank role i c g T ∷ k) f n x fine = tt
around_follows G table keep kind p pc a (marks target g b y ∷ k) f n x fine = tt

closed_follows : (G : Given) (table : Table) (keep : Keep) (s : State) (n : Option Node) → IsFine table s →
    Follows table (tape_closed G keep (flat s) n) (closed G keep s n)
closed_follows G table keep s None fine = tt
closed_follows G table keep s (Some (form.Leaf l)) fine = tt
closed_follows G table keep s (Some (form.Seq ps)) fine = tt
closed_follows G table keep s (Some (form.Choice ps)) fine = tt
closed_follows G table keep s (Some (form.Many p)) fine = tt
closed_follows G table keep s (Some (form.Chain side used p q)) fine = tt
closed_follows G table keep s (Some (form.Rule r)) fine = tt
closed_follows G table keep s (Some (form.Expression builders p)) fine = tt
closed_follows G table keep s (Some (form.Around k p)) fine = around_follows G table keep k p s.pc s.spot s.stack s.forest s.nodes s.taken fine

chain_follows : (table : Table) (keep : Keep) (side : Side) (used : ChainBuilder) (p q pc : ℕ) (a : Spot) (k : List Frame) (f : List Tree) (n : ℕ) (x : Bool) →
    IsFine table (state pc a k f n x) →
    Follows table (tape_folds keep used (flat (state pc a k f n x)) (waiting k)) (folded keep (state pc a k f n x) (Some (form.Chain side used p q)))
chain_follows table keep side used p q pc a [] f n x fine = tt
chain_follows table keep side used p q pc a (returns target ∷ k) f n x fine = tt
chain_follows table keep side used p q pc a (encloses counts g b y ∷ k) f n x fine = tt
chain_follows table keep side used p q pc a (holds g T ∷ k) f n x fine = (
  state (pc + 1) a (holds g T ∷ k) (folded_by keep used f) n x,
  refl,
  ap (λ z. tape (pc + 1) a.place (waiting (holds g T ∷ k)) z n x) (folded_trees keep used (below k ++ g) f),
  record { spot = fine.spot; stack = fine.stack },
)
chain_follows table keep side used p q pc a (operates rank role i c g T ∷ k) f n x fine = tt
chain_follows table keep side used p q pc a (marks target g b y ∷ k) f n x fine = tt

folded_follows : (table : Table) (keep : Keep) (s : State) (n : Option Node) → IsFine table s →
    Follows table (tape_folded keep (flat s) n) (folded keep s n)
folded_follows table keep s None fine = tt
folded_follows table keep s (Some (form.Leaf l)) fine = tt
folded_follows table keep s (Some (form.Seq ps)) fine = tt
folded_follows table keep s (Some (form.Choice ps)) fine = tt
folded_follows table keep s (Some (form.Many p)) fine = tt
folded_follows table keep s (Some (form.Chain side used p q)) fine = chain_follows table keep side used p q s.pc s.spot s.stack s.forest s.nodes s.taken fine
folded_follows table keep s (Some (form.Rule r)) fine = tt
folded_follows table keep s (Some (form.Expression builders p)) fine = tt
folded_follows table keep s (Some (form.Around k p)) fine = tt

released_follows : (table : Table) (pc : ℕ) (a : Spot) (k : List Frame) (f : List Tree) (n : ℕ) (x : Bool) → IsFine table (state pc a k f n x) →
    Follows table (tape_released (flat (state pc a k f n x)) (waiting k)) (released (state pc a k f n x) k)
released_follows table pc a [] f n x fine = tt
released_follows table pc a (returns target ∷ k) f n x fine = tt
released_follows table pc a (encloses counts g b y ∷ k) f n x fine = tt
released_follows table pc a (holds g T ∷ k) f n x fine = (
  state (pc + 1) a k (g ++ f) n x,
  refl,
  ap (λ z. tape (pc + 1) a.place (waiting k) z n x) (append_assoc (below k) g f),
  record { spot = fine.spot; stack = longer table g f k fine.stack.1 },
)
released_follows table pc a (operates rank role i c g T ∷ k) f n x fine = tt
released_follows table pc a (marks target g b y ∷ k) f n x fine = tt

committed_follows : (table : Table) (target pc : ℕ) (a : Spot) (k : List Frame) (f : List Tree) (n : ℕ) (x : Bool) → IsFine table (state pc a k f n x) →
    Follows table (tape_committed target (flat (state pc a k f n x)) (waiting k)) (committed target (state pc a k f n x) k)
committed_follows table target pc a [] f n x fine = tt
committed_follows table target pc a (returns other ∷ k) f n x fine = tt
committed_follows table target pc a (encloses counts g b y ∷ k) f n x fine = tt
committed_follows table target pc a (holds g T ∷ k) f n x fine = tt
committed_follows table target pc a (operates rank role i c g T ∷ k) f n x fine = tt
committed_follows table target pc a (marks other g b y ∷ k) f n x fine =
    (state target a k f n (y || x), refl, refl, record { spot = fine.spot; stack = at_mark table g f k fine.stack.1 fine.stack.2 })

again_follows : (table : Table) (target : ℕ) (s : State) (b : Bool) → IsFine table s → Follows table (tape_again target (flat s) b) (again target s b)
again_follows table target s true fine = committed_follows table target s.pc s.spot s.stack s.forest s.nodes s.taken fine
again_follows table target s false fine = tt

stopped_follows : (table : Table) (b : Bool) (pc : ℕ) (a : Spot) (k : List Frame) (f : List Tree) (n : ℕ) (x : Bool) → IsFine table (state pc a k f n x) →
    Follows table (tape_stopped (flat (state pc a k f n x)) b (waiting k)) (if b then stops (state pc a k f (n + 1) x) else gives_up)
stopped_follows table true pc a [] f n x fine = (state pc a [] f (n + 1) x, refl, refl, record { spot = fine.spot; stack = fine.stack }, refl)
stopped_follows table false pc a [] f n x fine = tt
stopped_follows table b pc a (returns target ∷ k) f n x fine = tt
stopped_follows table b pc a (encloses counts g c y ∷ k) f n x fine = tt
stopped_follows table b pc a (holds g T ∷ k) f n x fine = tt
stopped_follows table b pc a (operates rank role i c g T ∷ k) f n x fine = tt
stopped_follows table b pc a (marks target g c y ∷ k) f n x fine = tt

-- ---- turns

turn_follows : (P : Program) (table : Table) (s : State) (i : Option Instruction) → IsFine table s → Follows table (tape_act P table (flat s) i) (act P s i)
turn_follows P table s None fine = tt
turn_follows P table s (Some Enter) fine = (state (s.pc + 1) s.spot s.stack s.forest (s.nodes + 1) s.taken, refl, refl, record { spot = fine.spot; stack = fine.stack })
turn_follows P table s (Some (Read keep p)) fine = reads_follow P.given table keep s (slice_get P.given.grammar.nodes p) fine
turn_follows P table s (Some (Span keep p)) fine = spans_follow P.given table keep s (slice_get P.given.grammar.nodes p) fine
turn_follows P table s (Some (Jump target)) fine = (state target s.spot s.stack s.forest s.nodes s.taken, refl, refl, record { spot = fine.spot; stack = fine.stack })
turn_follows P table s (Some (Pick arms)) fine = picked_follows table s (chosen P.plan arms (slice_get P.given.text s.spot.place)) fine
turn_follows P table s (Some (Call target)) fine =
    (state target s.spot (returns (s.pc + 1) ∷ s.stack) s.forest (s.nodes + 1) s.taken, refl, refl, record { spot = fine.spot; stack = fine.stack })
turn_follows P table s (Some Return) fine = returned_follows table s.pc s.spot s.stack s.forest s.nodes s.taken fine
turn_follows P table s (Some (Open counts)) fine = (
  state (s.pc + 1) s.spot (encloses counts s.forest s.spot s.taken ∷ s.stack) [] (s.nodes + 1) false,
  refl,
  ap (λ z. tape (s.pc + 1) s.spot.place (waiting (encloses counts s.forest s.spot s.taken ∷ s.stack)) z (s.nodes + 1) false) (sym (append-nil (below s.stack ++ s.forest))),
  record { spot = fine.spot; stack = (fine.spot, fine.stack) },
)
turn_follows P table s (Some (Close keep q)) fine = closed_follows P.given table keep s (slice_get P.given.grammar.nodes q) fine
turn_follows P table s (Some Hold) fine = (
  state (s.pc + 1) s.spot (holds s.forest s.spot.table ∷ s.stack) [] (s.nodes + 1) s.taken,
  refl,
  ap (λ z. tape (s.pc + 1) s.spot.place (waiting (holds s.forest s.spot.table ∷ s.stack)) z (s.nodes + 1) s.taken) (sym (append-nil (below s.stack ++ s.forest))),
  record { spot = fine.spot; stack = (fine.spot, fine.stack) },
)
turn_follows P table s (Some (Fold keep q)) fine = folded_follows table keep s (slice_get P.given.grammar.nodes q) fine
turn_follows P table s (Some Release) fine = released_follows table s.pc s.spot s.stack s.forest s.nodes s.taken fine
turn_follows P table s (Some Link) fine = linked_follows table s fine
turn_follows P table s (Some (FoldLinks keep q)) fine = links_folded_follow table keep s (slice_get P.given.grammar.nodes q) fine
turn_follows P table s (Some (Rows count)) fine = begun_follows table count s P.given.grammar.operators fine
turn_follows P table s (Some (ReadPrefix row)) fine = prefix_follows P.given table row s fine
turn_follows P table s (Some (ReadPostfix keep q row)) fine = postfix_follows P.given table keep row s (slice_get P.given.grammar.nodes q) fine
turn_follows P table s (Some (ReadInfix keep q row)) fine = infix_follows P.given table keep row s (slice_get P.given.grammar.nodes q) fine
turn_follows P table s (Some (Settle keep q rank)) fine = settle_follows P.given table keep rank s (slice_get P.given.grammar.nodes q) fine
turn_follows P table s (Some (Mark target)) fine = (
  state (s.pc + 1) s.spot (marks target s.forest s.spot s.taken ∷ s.stack) s.forest s.nodes false,
  refl,
  refl,
  record { spot = fine.spot; stack = (fine.spot, ([], append-nil s.forest), fine.stack) },
)
turn_follows P table s (Some (Commit target)) fine = committed_follows table target s.pc s.spot s.stack s.forest s.nodes s.taken fine
turn_follows P table s (Some (Again target)) fine = again_follows table target s s.taken fine
turn_follows P table s (Some Fail) fine = back_follows table s.taken s.nodes (below s.stack ++ s.forest) s.forest s.stack refl fine.stack
turn_follows P table s (Some Stop) fine = stopped_follows table (s.spot.place == length P.given.text) s.pc s.spot s.stack s.forest s.nodes s.taken fine

-- ---- runs

-- the run of the states stops so, too
abbrev Stopped : Program → Table → ℕ → State → Tape → Type 0
Stopped P table n s t = (z : State) × (run P n s ≡ Some z) × (t ≡ flat z) × IsFine table z × (z.stack ≡ [])

after_turn : (P : Program) (table : Table) (n : ℕ) (v : TapeTurn) (u : Turn) (t : Tape) → Follows table v u → on_tape_turn v (λ z. tape_run P table n z) ≡ Some t →
    ((s : State) → IsFine table s → tape_run P table n (flat s) ≡ Some t → Stopped P table n s t) →
    (z : State) × (on_turn u (λ y. run P n y) ≡ Some z) × (t ≡ flat z) × IsFine table z × (z.stack ≡ [])
after_turn P table n tape_gives_up u t h on rest = absurd (cc)
after_turn P table n (tape_stops f) u t h on rest =
    let same : t ≡ f = cc in
    (h.0, ap (λ y. on_turn y (λ y. run P n y)) h.1, same ∙ h.2, h.3, h.4)
after_turn P table n (tape_goes f) u t h on rest =
    let r = rest h.0 h.3 (ap (tape_run P table n) (sym h.2) ∙ on) in
    (r.0, ap (λ y. on_turn y (λ y. run P n y)) h.1 ∙ r.1, r.2, r.3, r.4)

run_follows : (P : Program) (table : Table) (n : ℕ) (s : State) (t : Tape) → IsFine table s → tape_run P table n (flat s) ≡ Some t → Stopped P table n s t
run_follows P table zero s t fine on = absurd (cc)
run_follows P table (suc n) s t fine on =
    after_turn P table n (tape_act P table (flat s) (slice_get P.plan.code s.pc)) (act P s (slice_get P.plan.code s.pc)) t
    (turn_follows P table s (slice_get P.plan.code s.pc) fine) on (λ z ok r. run_follows P table n z t ok r)

pub tapes_answer : TapesAnswer
tapes_answer = λ P whole table n t on.
    let r = run_follows P table n (first_state P table) t (record { spot = refl; stack = tt }) on in
    let z : State = r.0 in
    let answer = stops_with_answers P whole table n z r.1 in
    let spot : z.spot ≡ spot_at table t.place = sym (one_spot table z.spot r.3.spot) ∙ ap (λ (f : Tape). spot_at table f.place) (sym r.2) in
    let trees : z.forest ≡ t.trees = ap (λ k. below k ++ z.forest) (sym r.4) ∙ ap (λ (f : Tape). f.trees) (sym r.2) in
    let nodes : z.nodes ≡ t.nodes = ap (λ (f : Tape). f.nodes) (sym r.2) in
    record {
      consumed = answer.consumed;
      trail = answer.trail;
      error = answer.error;
      so = subst (λ m. AnswersText P.given table (ok answer.consumed (spot_at table t.place) t.trees answer.trail answer.error) m) nodes
          (subst (λ f. AnswersText P.given table (ok answer.consumed (spot_at table t.place) f answer.trail answer.error) z.nodes) trees
          (subst (λ (a : Spot). AnswersText P.given table (ok answer.consumed a z.forest answer.trail answer.error) z.nodes) spot answer.so));
    }
