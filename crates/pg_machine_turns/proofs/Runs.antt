-- A run so far: it reaches what the machine's state reaches, and the turns are counted.
use Rattle.std.proofs.Common.{◌≡◌, ◌<◌, ◌≤◌, ◌+◌, ◌*◌, ℕ, zero, suc, List, [], ◌∷◌, length, Bool, true, false, refl, subst, ap, arith}
use Rattle.std.specs.Prelude.{Option, Some, None, slice_get, reverse, ◌++◌, ◌||◌}
use Rattle.pg_tree.specs.Trees.{Tree}
use Rattle.pg_grammar_form.specs.Forms.{Node}
use Rattle.pg_grammar_form.specs.declared.form.Form.TheVariants as form
use Rattle.pg_grammar_value.specs.declared.grammar.Rule as declared
use Rattle.pg_grammar_value.specs.declared.trail.TrailItem.{TrailItem}
use Rattle.pg_grammar_value.specs.declared.trail.TrailItem.TheVariants.{Alt, Ops}
use Rattle.pg_grammar_form.specs.declared.operators_item.OperatorsItem.{OperatorsItem}
use Rattle.pg_grammar_form.specs.declared.used.OperatorBuilders.{OperatorBuilders}
use Rattle.pg_expand.specs.Rows.{rows_of}
use Rattle.pg_expand.specs.declared.rows.Row.{Row}
use Rattle.pg_language.specs.Derives.{Spot}
use Rattle.pg_language.specs.Answers as answers
use Rattle.pg_language.specs.Answers.{Given, Answers}
use Rattle.pg_language.specs.Errors.{Error}
use Rattle.pg_language.specs.Leaves.{leaf_outcome}
use Rattle.pg_language.specs.OperatorReads.{read_at}
use Rattle.pg_language.specs.Outcomes.{Outcome, ok, failed, empty_round}
use Rattle.pg_language.specs.Reactions.{noted}
use Rattle.pg_language.specs.RowReactions.{Setting, past_prefix}
use Rattle.pg_machine_turns.specs.Levels.{none_precedes, Level, row_level, Followed, hands_on, operand_runs, follows}
use Rattle.pg_language.specs.declared.reading.Reading.{Reading}
use Rattle.pg_language.specs.declared.reading.Reading.TheVariants.{Library, Report}
use Rattle.pg_machine_turns.specs.Frames.{Before, Tried, none_tried, with_failure, with_empty_ok, Chain, Linked, Frame, in_parts, in_choice, in_rounds, in_first, in_separator, in_operand, in_rule, in_around, in_expression}
use Rattle.pg_machine_turns.specs.Turns.{State, at_node, with_outcome, endless, next_alternative, told, enter_rule, enter_node, hand_empty_ok, hand_to_choice, hand_to_parts, hand_to_rounds, with_link, hand_to_first, hand_to_separator, next_link, hand_to_operand, hand, descend, enter_expression, followed, climb, turn, is_last}
use Rattle.pg_machine_turns.specs.Finishes.{returned, Finishes, entering, handing}
use Rattle.pg_machine_turns.proofs.SoundTurns.{node_sound, hand_sound}
use Rattle.pg_machine_turns.proofs.CompleteTurns.{node_complete, hand_complete}

-- how many nodes were entered whose outcome wasn't yet handed to a frame
abbrev pub HasPending : State → ℕ → Type 0
HasPending (at_node p a fs) n = n ≡ length fs
HasPending (with_outcome o fs) n = n ≡ suc (length fs)
HasPending endless n = Unit {0}

alternative_pending : (k : ℕ) (ps : List ℕ) (a : Spot) (tried : Tried) (fs : List Frame) → HasPending (next_alternative k ps a tried fs) (suc (length fs))
alternative_pending k [] a tried fs = refl
alternative_pending k (p ∷ ps) a tried fs = refl

told_pending : (o : Option Outcome) (fs : List Frame) → HasPending (told o fs) (suc (length fs))
told_pending None fs = tt
told_pending (Some o) fs = refl

rule_pending : (named : Option declared.Rule) (a : Spot) (fs : List Frame) → HasPending (enter_rule named a fs) (suc (length fs))
rule_pending None a fs = tt
rule_pending (Some named) a fs = refl

descend_pending : (G : Given) (s : Setting) (rows : List Row) (a : Spot) (levels : List Level) (fs : List Frame) → HasPending (descend G s rows a levels fs) (suc (length fs))
descend_pending G s [] a levels fs = refl
descend_pending G s (r ∷ ts) a levels fs = descend_pending G s ts (past_prefix a (read_at G.grammar G.text s.item r.prefix a.place)) (row_level r ts a none_precedes ∷ levels) fs

expression_pending : (G : Given) (builders : OperatorBuilders) (p : ℕ) (a : Spot) (fs : List Frame) (item : Option OperatorsItem) → HasPending (enter_expression G builders p a fs item) (suc (length fs))
expression_pending G builders p a fs None = tt
expression_pending G builders p a fs (Some item) =
    descend_pending G (record { item = item; builders = builders; term = p }) (reverse (rows_of a.table.operators)) a [] fs

followed_pending : (G : Given) (s : Setting) (levels : List Level) (fs : List Frame) (f : Followed) → ((y : Outcome) → HasPending (climb G s levels y fs) (suc (length fs))) →
    HasPending (followed G s (λ y. climb G s levels y fs) levels fs f) (suc (length fs))
followed_pending G s levels fs (hands_on y) ih = ih y
followed_pending G s levels fs (operand_runs r ts a before between) ih =
    descend_pending G s ts (past_prefix a (read_at G.grammar G.text s.item r.prefix a.place)) (row_level r ts a before ∷ between ++ levels) fs

climb_pending : (G : Given) (s : Setting) (levels : List Level) (x : Outcome) (fs : List Frame) → HasPending (climb G s levels x fs) (suc (length fs))
climb_pending G s [] x fs = refl
climb_pending G s (l ∷ levels) x fs = followed_pending G s levels fs (follows G s l x) (λ y. climb_pending G s levels y fs)

enter_pending : (G : Given) (n : Option Node) (a : Spot) (fs : List Frame) → HasPending (enter_node G n a fs) (suc (length fs))
enter_pending G None a fs = tt
enter_pending G (Some (form.Leaf l)) a fs = told_pending (leaf_outcome G.grammar G.text l a) fs
enter_pending G (Some (form.Seq [])) a fs = refl
enter_pending G (Some (form.Seq (p ∷ ps))) a fs = refl
enter_pending G (Some (form.Choice ps)) a fs = alternative_pending (suc zero) ps a none_tried fs
enter_pending G (Some (form.Many p)) a fs = refl
enter_pending G (Some (form.Chain side used p s)) a fs = refl
enter_pending G (Some (form.Rule r)) a fs = rule_pending (slice_get G.grammar.rules r) a fs
enter_pending G (Some (form.Expression builders p)) a fs = expression_pending G builders p a fs G.grammar.operators
enter_pending G (Some (form.Around around p)) a fs = refl

parts_pending : (ps : List ℕ) (done : Before) (o : Outcome) (fs : List Frame) → HasPending (hand_to_parts ps done o fs) (suc (length fs))
parts_pending [] done o fs = refl
parts_pending (q ∷ ps) done (ok c b v t e) fs = refl
parts_pending (q ∷ ps) done (failed c e) fs = refl
parts_pending (q ∷ ps) done empty_round fs = refl

empty_ok_pending : (reading : Reading) (k : ℕ) (ps : List ℕ) (a : Spot) (tried : Tried) (b : Spot) (v : List Tree) (t : List TrailItem) (e : Error) (fs : List Frame) →
    HasPending (hand_empty_ok reading k ps a tried b v t e fs) (suc (length fs))
empty_ok_pending Library k ps a tried b v t e fs = refl
empty_ok_pending Report k ps a tried b v t e fs = alternative_pending (suc k) ps a (with_empty_ok tried b v (Alt k ∷ t) e) fs

choice_pending : (reading : Reading) (k : ℕ) (ps : List ℕ) (a : Spot) (tried : Tried) (o : Outcome) (fs : List Frame) → HasPending (hand_to_choice reading k ps a tried o fs) (suc (length fs))
choice_pending reading k ps a tried (ok true b v t e) fs = refl
choice_pending reading k ps a tried (ok false b v t e) fs = empty_ok_pending reading k ps a tried b v t e fs
choice_pending reading k ps a tried (failed true e) fs = refl
choice_pending reading k ps a tried (failed false e) fs = alternative_pending (suc k) ps a (with_failure tried e) fs
choice_pending reading k ps a tried empty_round fs = refl

rounds_pending : (p k : ℕ) (c : Bool) (a : Spot) (v : List Tree) (t : List TrailItem) (o : Outcome) (fs : List Frame) → HasPending (hand_to_rounds p k c a v t o fs) (suc (length fs))
rounds_pending p k c a v t (ok true b w u f) fs = refl
rounds_pending p k c a v t (ok false b w u f) fs = refl
rounds_pending p k c a v t (failed true f) fs = refl
rounds_pending p k c a v t (failed false f) fs = refl
rounds_pending p k c a v t empty_round fs = refl

first_pending : (ch : Chain) (o : Outcome) (fs : List Frame) → HasPending (hand_to_first ch o fs) (suc (length fs))
first_pending ch (ok c b v t e) fs = refl
first_pending ch (failed c e) fs = refl
first_pending ch empty_round fs = refl

separator_pending : (ch : Chain) (linked : Linked) (a : Spot) (o : Outcome) (fs : List Frame) → HasPending (hand_to_separator ch linked a o fs) (suc (length fs))
separator_pending ch linked a (ok c b v t e) fs = refl
separator_pending ch linked a (failed c e) fs = refl
separator_pending ch linked a empty_round fs = refl

link_pending : (c : Bool) (ch : Chain) (linked : Linked) (b : Spot) (fs : List Frame) → HasPending (next_link c ch linked b fs) (suc (length fs))
link_pending true ch linked b fs = refl
link_pending false ch linked b fs = tt

operand_pending : (ch : Chain) (linked : Linked) (a : Spot) (c : Bool) (v : List Tree) (t : List TrailItem) (e : Error) (o : Outcome) (fs : List Frame) →
    HasPending (hand_to_operand ch linked a c v t e o fs) (suc (length fs))
operand_pending ch linked a c v t e (ok d b w u f) fs = link_pending (c || d) ch (with_link ch linked v t e d w u f) b fs
operand_pending ch linked a c v t e (failed d f) fs = refl
operand_pending ch linked a c v t e empty_round fs = refl

hand_pending : (G : Given) (f : Frame) (o : Outcome) (fs : List Frame) → HasPending (hand G f o fs) (suc (length fs))
hand_pending G (in_parts ps done) o fs = parts_pending ps done o fs
hand_pending G (in_choice k ps a tried) o fs = choice_pending G.reading k ps a tried o fs
hand_pending G (in_rounds p k c a v t) o fs = rounds_pending p k c a v t o fs
hand_pending G (in_first ch) o fs = first_pending ch o fs
hand_pending G (in_separator ch linked a) o fs = separator_pending ch linked a o fs
hand_pending G (in_operand ch linked a c v t e) o fs = operand_pending ch linked a c v t e o fs
hand_pending G in_rule o fs = refl
hand_pending G (in_around around a) o fs = refl
hand_pending G (in_expression s levels) o fs = climb_pending G s levels (noted (Ops []) o) fs

-- the state reaches the outcome after this many more nodes
pub record Still (G : Given) (st : State) (out : Outcome) (entered m : ℕ) : Type 0 where
  pub nodes : ℕ
  pub finishes : Finishes G st out nodes
  pub count : m ≡ entered + nodes

-- a run of the node from the spot is in this state after this number of turns
pub record Run (G : Given) (p : ℕ) (a : Spot) (steps : ℕ) (st : State) : Type 0 where
  pub entered : ℕ
  pub pending : ℕ
  pub sound : (out : Outcome) (n : ℕ) → Finishes G st out n → Answers G p a out (entered + n)
  pub complete : (out : Outcome) (m : ℕ) → Answers G p a out m → Still G st out entered m
  pub has_pending : HasPending st pending
  pub counted : steps + pending ≡ 2 * entered

start_sound : {G : Given} {p : ℕ} {a : Spot} {out : Outcome} {n : ℕ} → Finishes G (at_node p a []) out n → Answers G p a out (0 + n)
start_sound {G = G} {p = p} {a = a} {out = out} (entering {m = m} d returned) = let z : m ≡ 0 + (m + 0) = omega arith in subst (Answers G p a out) z d

start_complete : {G : Given} {p : ℕ} {a : Spot} {out : Outcome} {m : ℕ} → Answers G p a out m → Still G (at_node p a []) out 0 m
start_complete {m = m} d = record { nodes = m + 0; finishes = entering d returned; count = omega arith }

pub run_start : (G : Given) (p : ℕ) (a : Spot) → Run G p a 0 (at_node p a [])
run_start G p a = record { entered = 0; pending = 0; sound = λ out n h. start_sound h; complete = λ out m d. start_complete d; has_pending = refl; counted = refl }

entered_sound : (G : Given) (p q : ℕ) (a b : Spot) (fs : List Frame) (entered : ℕ) → ((out : Outcome) (n : ℕ) → Finishes G (at_node q b fs) out n → Answers G p a out (entered + n)) →
    (out : Outcome) (n : ℕ) → Finishes G (enter_node G (slice_get G.grammar.nodes q) b fs) out n → Answers G p a out (suc entered + n)
entered_sound G p q a b fs before_it sound out n h =
    let z : before_it + suc n ≡ suc before_it + n = omega arith in
    subst (Answers G p a out) z (sound out (suc n) (node_sound q (slice_get G.grammar.nodes q) b fs out n refl h))

entered_complete : (G : Given) (p q : ℕ) (a b : Spot) (fs : List Frame) (entered : ℕ) → ((out : Outcome) (m : ℕ) → Answers G p a out m → Still G (at_node q b fs) out entered m) →
    (out : Outcome) (m : ℕ) → Answers G p a out m → Still G (enter_node G (slice_get G.grammar.nodes q) b fs) out (suc entered) m
entered_complete G p q a b fs before_it complete out m d =
    let s = complete out m d in
    let e = node_complete q b fs out s.nodes s.finishes in
    let x = s.count in
    let y = e.count in
    record { nodes = e.less; finishes = e.finishes; count = omega arith }

handed_complete : (G : Given) (f : Frame) (o : Outcome) (fs : List Frame) (out : Outcome) (n : ℕ) → Finishes G (with_outcome o (f ∷ fs)) out n → Finishes G (hand G f o fs) out n
handed_complete G f o fs out n (handing r) = hand_complete f o fs out n r

pub run_turn : (G : Given) (p : ℕ) (a : Spot) (steps : ℕ) (st : State) → is_last st ≡ false → Run G p a steps st → Run G p a (suc steps) (turn G st)
run_turn G p a steps (at_node q b fs) going r = record {
  entered = suc r.entered;
  pending = suc (length fs);
  sound = entered_sound G p q a b fs r.entered r.sound;
  complete = entered_complete G p q a b fs r.entered r.complete;
  has_pending = enter_pending G (slice_get G.grammar.nodes q) b fs;
  counted = let h = r.has_pending in let k = r.counted in omega arith;
}
run_turn G p a steps (with_outcome o []) going r = cc
run_turn G p a steps (with_outcome o (f ∷ fs)) going r = record {
  entered = r.entered;
  pending = suc (length fs);
  sound = λ out n h. r.sound out n (handing (hand_sound f o fs out n h));
  complete = λ out m d. let s = r.complete out m d in record { nodes = s.nodes; finishes = handed_complete G f o fs out s.nodes s.finishes; count = s.count };
  has_pending = hand_pending G f o fs;
  counted = let h = r.has_pending in let k = r.counted in omega arith;
}
run_turn G p a steps endless going r = cc

-- ---- how runs end

-- the outcome of a run, with its nodes and turns counted
pub record Answered (G : Given) (p : ℕ) (a : Spot) (o : Outcome) (steps : ℕ) : Type 0 where
  pub entered : ℕ
  pub answers : Answers G p a o entered
  pub count : steps + 1 ≡ 2 * entered

pub run_answer : (G : Given) (p : ℕ) (a : Spot) (steps : ℕ) (o : Outcome) → Run G p a steps (with_outcome o []) → Answered G p a o steps
run_answer G p a steps o r =
    let z : r.entered + 0 ≡ r.entered = omega arith in
    let h = r.has_pending in
    let k = r.counted in
    record { entered = r.entered; answers = subst (Answers G p a o) z (r.sound o 0 (handing returned)); count = omega arith }

-- no outcome has so few nodes
pub run_short : (G : Given) (p : ℕ) (a : Spot) (steps : ℕ) (st : State) → Run G p a steps st → (o : Outcome) (m : ℕ) → Answers G p a o m → steps ≤ 2 * m
run_short G p a steps st r o m d = let s = r.complete o m d in let x = s.count in let k = r.counted in omega arith

-- a node that is still to be entered is one of them
some_node : {G : Given} {q : ℕ} {b : Spot} {fs : List Frame} {o : Outcome} {n : ℕ} → Finishes G (at_node q b fs) o n → 0 < n
some_node (entering (answers.entered there d) r) = omega arith

-- where a turn is left, an outcome takes more turns than there were
pub run_shorter : (G : Given) (p : ℕ) (a : Spot) (steps : ℕ) (st : State) → is_last st ≡ false → Run G p a steps st → (o : Outcome) (m : ℕ) → Answers G p a o m → steps + 1 < 2 * m
run_shorter G p a steps (at_node q b fs) going r o m d =
    let s = r.complete o m d in let x = s.count in let y = some_node s.finishes in let h = r.has_pending in let k = r.counted in omega arith
run_shorter G p a steps (with_outcome x []) going r o m d = cc
run_shorter G p a steps (with_outcome x (f ∷ fs)) going r o m d =
    let s = r.complete o m d in let x = s.count in let h = r.has_pending in let k = r.counted in omega arith
run_shorter G p a steps endless going r o m d = cc

no_finish : {G : Given} {o : Outcome} {n : ℕ} → Finishes G endless o n → ⊥
no_finish h = elim h [ ]

-- no outcome comes of a run without an end
pub run_endless : (G : Given) (p : ℕ) (a : Spot) (steps : ℕ) → Run G p a steps endless → (o : Outcome) (m : ℕ) → Answers G p a o m → ⊥
run_endless G p a steps r o m d = let s = r.complete o m d in no_finish s.finishes

-- ---- towards an outcome that is known

-- a run that comes to this outcome after this many nodes is in this state after this number of turns; so many more turns are for the frames that it began with
pub record Nears (G : Given) (out : Outcome) (m extra steps : ℕ) (st : State) : Type 0 where
  pub entered : ℕ
  pub pending : ℕ
  pub still : Still G st out entered m
  pub has_pending : HasPending st pending
  pub counted : steps + pending ≡ extra + 2 * entered

pub nears_turn : (G : Given) (out : Outcome) (m extra steps : ℕ) (st : State) → is_last st ≡ false → Nears G out m extra steps st → Nears G out m extra (suc steps) (turn G st)
nears_turn G out m extra steps (at_node q b fs) going r =
    let s = r.still in
    let e = node_complete q b fs out s.nodes s.finishes in
    let x = s.count in
    let y = e.count in
    record {
      entered = suc r.entered;
      pending = suc (length fs);
      still = record { nodes = e.less; finishes = e.finishes; count = omega arith };
      has_pending = enter_pending G (slice_get G.grammar.nodes q) b fs;
      counted = let h = r.has_pending in let k = r.counted in omega arith;
    }
nears_turn G out m extra steps (with_outcome o []) going r = cc
nears_turn G out m extra steps (with_outcome o (f ∷ fs)) going r =
    let s = r.still in
    record {
      entered = r.entered;
      pending = suc (length fs);
      still = record { nodes = s.nodes; finishes = handed_complete G f o fs out s.nodes s.finishes; count = s.count };
      has_pending = hand_pending G f o fs;
      counted = let h = r.has_pending in let k = r.counted in omega arith;
    }
nears_turn G out m extra steps endless going r = cc

-- where a turn is left, it takes more turns than there were
pub nears_shorter : (G : Given) (out : Outcome) (m extra steps : ℕ) (st : State) → is_last st ≡ false → Nears G out m extra steps st → steps + 1 < extra + 2 * m
nears_shorter G out m extra steps (at_node q b fs) going r =
    let s = r.still in let x = s.count in let y = some_node s.finishes in let h = r.has_pending in let k = r.counted in omega arith
nears_shorter G out m extra steps (with_outcome x []) going r = cc
nears_shorter G out m extra steps (with_outcome x (f ∷ fs)) going r =
    let s = r.still in let x = s.count in let h = r.has_pending in let k = r.counted in omega arith
nears_shorter G out m extra steps endless going r = cc

-- with no frame left there is nothing more to come to
only_returned : {G : Given} {x out : Outcome} {n : ℕ} → Finishes G (with_outcome x []) out n → (x ≡ out) × (n ≡ 0)
only_returned (handing returned) = (refl, refl)

-- at the end it is there, and the turns are counted
pub nears_end : (G : Given) (out : Outcome) (m extra steps : ℕ) (st : State) → is_last st ≡ true → Nears G out m extra steps st → (st ≡ with_outcome out []) × (steps + 1 ≡ extra + 2 * m)
nears_end G out m extra steps (at_node q b fs) last r = cc
nears_end G out m extra steps (with_outcome x []) last r =
    let s = r.still in
    let is = only_returned s.finishes in
    let n = is.1 in
    let c = s.count in
    let h = r.has_pending in
    let k = r.counted in
    (ap (λ (o : Outcome). with_outcome o []) is.0, omega arith)
nears_end G out m extra steps (with_outcome x (f ∷ fs)) last r = cc
nears_end G out m extra steps endless last r = absurd (no_finish r.still.finishes)
