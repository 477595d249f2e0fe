-- What comes of code that is laid out: an outcome, and how the run goes on after it.
use Rattle.std.proofs.Common.{◌≡◌, ◌∙◌, ◌<◌, ◌≤◌, ◌+◌, inl, inr, ℕ, zero, suc, List, [], ◌++◌, Bool, true, false, ◌||◌, refl, sym, ap, subst, Option, Some, None, slice_get, append_assoc, append-nil, arith}
use Rattle.pg_tree.specs.Trees.{Tree}
use Rattle.pg_grammar_value.specs.declared.trail.TrailItem.{TrailItem}
use Rattle.pg_language.specs.Derives.{Spot}
use Rattle.pg_language.specs.Errors.{Error}
use Rattle.pg_language.specs.Outcomes.{Outcome, ok, failed, empty_round}
use Rattle.pg_language.specs.Reactions.{then_rest, then_round, noted, after_failure}
use Rattle.pg_machine_plan.specs.Facts.{Outcomes, outcomes_of}
use Rattle.pg_machine_plan.specs.Layout.{IsNoted, ComesTo}
use Rattle.pg_machine_plan.specs.Plans.{Program}
use Rattle.pg_machine_quick.specs.Turns.{Frame, State, state, added, back, act, on_turn, run, picked}
use Rattle.pg_machine_plan.specs.declared.instruction.Arm.{Arm}
use Rattle.pg_machine_plan.specs.declared.instruction.Instruction.{Instruction}
use Rattle.pg_machine_plan.specs.declared.instruction.Instruction.TheVariants.{Jump}
use Rattle.pg_machine_plan.specs.declared.instruction.Keep.{Keep}
use Rattle.pg_machine_plan.specs.declared.instruction.Keep.TheVariants.{Kept, Hidden}

-- ---- truths

pub or_assoc : (x y z : Bool) → ((x || y) || z) ≡ (x || (y || z))
or_assoc true y z = refl
or_assoc false y z = refl

pub or_false : (x : Bool) → x ≡ (x || false)
or_false true = refl
or_false false = refl

pub or_true : (x : Bool) → true ≡ (x || true)
or_true true = refl
or_true false = refl

pub true_stays : (x y : Bool) → ((x || true) || y) ≡ (x || true)
true_stays true y = refl
true_stays false y = refl

-- ---- forests

pub added_twice : (keep : Keep) (f v w : List Tree) → added keep (added keep f v) w ≡ added keep f (v ++ w)
added_twice Kept f v w = append_assoc f v w
added_twice Hidden f v w = refl

pub none_added : (keep : Keep) (f : List Tree) → f ≡ added keep f []
none_added Kept f = sym (append-nil f)
none_added Hidden f = refl

-- ---- how a run goes on

-- after an outcome, with so many nodes in all: at the end of the code, or back over what waits
abbrev pub onward : Program → ℕ → Keep → ℕ → List Frame → List Tree → Bool → Outcome → ℕ → Option State
onward P l keep end k f x (ok c b v t e) n = run P l (state end b k (added keep f v) n (x || c))
onward P l keep end k f x (failed c e) n = on_turn (back (x || c) n k) (λ z. run P l z)
onward P l keep end k f x empty_round n = None

-- of code that was begun in state s by a run of N turns at most, which stops in state t
pub record Comes (P : Program) (N : ℕ) (keep : Keep) (end : ℕ) (s t : State) (Has : Outcomes) : Type 0 where
  pub left : ℕ
  pub fewer : left < N
  pub outcome : Outcome
  pub nodes : ℕ
  pub has : Has outcome nodes
  pub on : onward P left keep end s.stack s.forest s.taken outcome (s.nodes + nodes) ≡ Some t

-- a claim on all runs of fewer turns
abbrev pub Claim : Program → ℕ → Type 0
Claim P N = (n : ℕ) (keep : Keep) (p end : ℕ) (s t : State) → n < N → IsNoted P keep p s.pc end → run P n s ≡ Some t →
    Comes P n keep end s t (outcomes_of P.given p s.spot)

-- ---- turns

pub record Turned (P : Program) (n : ℕ) (s : State) (i : Instruction) (t : State) : Type 0 where
  pub left : ℕ
  pub counted : n ≡ suc left
  pub on : on_turn (act P s (Some i)) (λ z. run P left z) ≡ Some t

-- a run that stops and has an instruction before it made a turn
pub turned : (P : Program) (n : ℕ) (s t : State) (i : Instruction) → slice_get P.plan.code s.pc ≡ Some i → run P n s ≡ Some t → Turned P n s i t
turned P zero s t i h r = absurd (cc)
turned P (suc n) s t i h r = record { left = n; counted = refl; on = ap (λ x. on_turn (act P s x) (λ z. run P n z)) (sym h) ∙ r }

pub record Picked (P : Program) (n : ℕ) (s : State) (x : Option Arm) (t : State) : Type 0 where
  pub arm : Arm
  pub is : x ≡ Some arm
  pub on : run P n (state arm.target s.spot s.stack s.forest (s.nodes + arm.nodes) s.taken) ≡ Some t

-- there was an arm
pub was_picked : (P : Program) (n : ℕ) (s t : State) (x : Option Arm) → on_turn (picked s x) (λ z. run P n z) ≡ Some t → Picked P n s x t
was_picked P n s t (Some arm) r = record { arm = arm; is = refl; on = r }
was_picked P n s t None r = absurd (cc)

-- code that comes to a place goes on there
pub comes_to : (P : Program) (target l : ℕ) (z t : State) → ComesTo P.plan target z.pc → run P l z ≡ Some t →
    (i : ℕ) × (i ≤ l) × (run P i (state target z.spot z.stack z.forest z.nodes z.taken) ≡ Some t)
comes_to P target l z t (inl at) on = (l, omega arith, subst (λ pc. run P l (state pc z.spot z.stack z.forest z.nodes z.taken) ≡ Some t) at on)
comes_to P target l z t (inr jump) on =
    let u = turned P l z t (Jump target) jump on in
    let counted = u.counted in
    (u.left, omega arith, u.on)

-- ---- equal runs

pub same_run : (P : Program) (n pc : ℕ) (a : Spot) (k : List Frame) (f g : List Tree) (c d : ℕ) (x y : Bool) (t : State) → f ≡ g → c ≡ d → x ≡ y →
    run P n (state pc a k f c x) ≡ Some t → run P n (state pc a k g d y) ≡ Some t
same_run P n pc a k f g c d x y t p q r h =
    ap (λ z. run P n (state pc a k z d y)) (sym p) ∙ ap (λ z. run P n (state pc a k f z y)) (sym q) ∙ ap (λ z. run P n (state pc a k f c z)) (sym r) ∙ h

pub same_back : (P : Program) (n : ℕ) (k : List Frame) (c : ℕ) (x y : Bool) (t : State) → x ≡ y →
    on_turn (back x c k) (λ z. run P n z) ≡ Some t → on_turn (back y c k) (λ z. run P n z) ≡ Some t
same_back P n k c x y t e h = ap (λ z. on_turn (back z c k) (λ z. run P n z)) (sym e) ∙ h

-- with the nodes counted in another way
pub same_count : (P : Program) (l : ℕ) (keep : Keep) (end : ℕ) (k : List Frame) (f : List Tree) (x : Bool) (o : Outcome) (m n : ℕ) (t : State) → m ≡ n →
    onward P l keep end k f x o m ≡ Some t → onward P l keep end k f x o n ≡ Some t
same_count P l keep end k f x o m n t e h = ap (λ z. onward P l keep end k f x o z) (sym e) ∙ h

-- ---- reactions to outcomes go on as those do

-- after a part that was ok
pub joined : (P : Program) (l : ℕ) (keep : Keep) (end : ℕ) (k : List Frame) (f : List Tree) (x : Bool) (n : ℕ) (t : State)
    (c : Bool) (v : List Tree) (i : List TrailItem) (e : Error) (o : Outcome) →
    onward P l keep end k (added keep f v) (x || c) o n ≡ Some t → onward P l keep end k f x (then_rest c v i e o) n ≡ Some t
joined P l keep end k f x n t c v i e (ok d b w u g) h =
    same_run P l end b k (added keep (added keep f v) w) (added keep f (v ++ w)) n n ((x || c) || d) (x || (c || d)) t (added_twice keep f v w) refl (or_assoc x c d) h
joined P l keep end k f x n t c v i e (failed d g) h = same_back P l k n ((x || c) || d) (x || (c || d)) t (or_assoc x c d) h
joined P l keep end k f x n t c v i e empty_round h = h

-- after a round that consumed
pub joined_round : (P : Program) (l : ℕ) (keep : Keep) (end : ℕ) (k : List Frame) (f : List Tree) (x : Bool) (n : ℕ) (t : State)
    (v : List Tree) (i : List TrailItem) (o : Outcome) →
    onward P l keep end k (added keep f v) (x || true) o n ≡ Some t → onward P l keep end k f x (then_round v i o) n ≡ Some t
joined_round P l keep end k f x n t v i (ok d b w u g) h =
    same_run P l end b k (added keep (added keep f v) w) (added keep f (v ++ w)) n n ((x || true) || d) (x || true) t (added_twice keep f v w) refl (true_stays x d) h
joined_round P l keep end k f x n t v i (failed d g) h = same_back P l k n ((x || true) || d) (x || true) t (true_stays x d) h
joined_round P l keep end k f x n t v i empty_round h = h

pub on_noted : (P : Program) (l : ℕ) (keep : Keep) (end : ℕ) (k : List Frame) (f : List Tree) (x : Bool) (n : ℕ) (t : State) (i : TrailItem) (o : Outcome) →
    onward P l keep end k f x o n ≡ Some t → onward P l keep end k f x (noted i o) n ≡ Some t
on_noted P l keep end k f x n t i (ok d b w u g) h = h
on_noted P l keep end k f x n t i (failed d g) h = h
on_noted P l keep end k f x n t i empty_round h = h

pub on_after_failure : (P : Program) (l : ℕ) (keep : Keep) (end : ℕ) (k : List Frame) (f : List Tree) (x : Bool) (n : ℕ) (t : State) (e : Error) (o : Outcome) →
    onward P l keep end k f x o n ≡ Some t → onward P l keep end k f x (after_failure e o) n ≡ Some t
on_after_failure P l keep end k f x n t e (ok d b w u g) h = h
on_after_failure P l keep end k f x n t e (failed d g) h = h
on_after_failure P l keep end k f x n t e empty_round h = h

-- ---- what comes of code, seen from outside

-- after so many nodes, which count with those of the code
pub counted_too : (P : Program) (M N : ℕ) (keep : Keep) (end pc j : ℕ) (s t : State) (Has Other : Outcomes) → M ≤ N →
    ((o : Outcome) (m : ℕ) → Has o m → Other o (j + m)) → Comes P M keep end (state pc s.spot s.stack s.forest (s.nodes + j) s.taken) t Has →
    Comes P N keep end s t Other
counted_too P M N keep end pc j s t Has Other below so c =
    let few = c.fewer in
    record {
      left = c.left;
      fewer = omega arith;
      outcome = c.outcome;
      nodes = j + c.nodes;
      has = so c.outcome c.nodes c.has;
      on = same_count P c.left keep end s.stack s.forest s.taken c.outcome (s.nodes + j + c.nodes) (s.nodes + (j + c.nodes)) t (omega arith) c.on;
    }

-- the same outcome of something else
pub seen_as : (P : Program) (M N : ℕ) (keep : Keep) (end : ℕ) (s t : State) (Has Other : Outcomes) → M ≤ N →
    ((o : Outcome) (m : ℕ) → Has o m → Other o m) → Comes P M keep end s t Has → Comes P N keep end s t Other
seen_as P M N keep end s t Has Other below so c =
    let few = c.fewer in
    record { left = c.left; fewer = omega arith; outcome = c.outcome; nodes = c.nodes; has = so c.outcome c.nodes c.has; on = c.on }
