-- States of a run as tapes, with all trees in one list.
use Rattle.std.proofs.Common.{◌≡◌, ◌∙◌, ℕ, List, [], ◌∷◌, ◌++◌, Bool, true, false, ◌||◌, ◌&&◌, refl, sym, ap, subst, length, take, drop, append_assoc}
use Rattle.std.proofs.Math.Seq.{take-append_seam, drop-append_seam}
use Rattle.pg_tree.specs.Trees.{Tree}
use Rattle.pg_table.specs.Tables.{Table}
use Rattle.pg_machine_quick.specs.Tape.{Tape, tape, TapeTurn, tape_gives_up, tape_stops, tape_goes, before, operation, tape_back}
use Rattle.pg_machine_quick.specs.Turns.{Frame, returns, encloses, holds, operates, marks, State, state, Turn, stops, goes, added, back}
use Rattle.pg_machine_quick.specs.declared.frame.Frame.{Frame as Waiting}
use Rattle.pg_machine_quick.specs.declared.frame.Frame.TheVariants.{Returns, Encloses, Holds, Operates, Marks}
use Rattle.pg_machine_plan.specs.declared.instruction.Keep.{Keep}
use Rattle.pg_machine_plan.specs.declared.instruction.Keep.TheVariants.{Kept, Hidden}

-- ---- a state as a tape

-- the trees of what waits; a mark's are those of the part that it is in
abbrev pub below : List Frame → List Tree
below [] = []
below (returns target ∷ k) = below k
below (encloses counts f a x ∷ k) = below k ++ f
below (holds f T ∷ k) = below k ++ f
below (operates rank role i c f T ∷ k) = below k ++ f
below (marks target f a x ∷ k) = below k

abbrev pub waiting : List Frame → List Waiting
waiting [] = []
waiting (returns target ∷ k) = Returns target ∷ waiting k
waiting (encloses counts f a x ∷ k) = Encloses counts (before (length (below k ++ f)) a.place x) ∷ waiting k
waiting (holds f T ∷ k) = Holds (length (below k ++ f)) ∷ waiting k
waiting (operates rank role i c f T ∷ k) = Operates (operation rank role i c (length (below k ++ f))) ∷ waiting k
waiting (marks target f a x ∷ k) = Marks target (before (length (below k ++ f)) a.place x) ∷ waiting k

abbrev pub flat : State → Tape
flat s = tape s.pc s.spot.place (waiting s.stack) (below s.stack ++ s.forest) s.nodes s.taken

-- the one table is in force, and the forest is that of each mark of its part with others after it
abbrev pub Goes : List Tree → List Tree → Type 0
Goes f g = (w : List Tree) × (f ++ w ≡ g)

abbrev pub AreFine : Table → List Tree → List Frame → Type 0
AreFine table g [] = Unit {0}
AreFine table g (returns target ∷ k) = AreFine table g k
AreFine table g (encloses counts f a x ∷ k) = (a.table ≡ table) × AreFine table f k
AreFine table g (holds f T ∷ k) = (T ≡ table) × AreFine table f k
AreFine table g (operates rank role i c f T ∷ k) = (T ≡ table) × AreFine table f k
AreFine table g (marks target f a x ∷ k) = (a.table ≡ table) × Goes f g × AreFine table f k

pub record IsFine (table : Table) (s : State) : Type 0 where
  pub spot : s.spot.table ≡ table
  pub stack : AreFine table s.forest s.stack

-- what a turn of the tape says of the state's
abbrev pub Follows : Table → TapeTurn → Turn → Type 0
Follows table tape_gives_up u = Unit {0}
Follows table (tape_stops t) u = (s : State) × (u ≡ stops s) × (t ≡ flat s) × IsFine table s × (s.stack ≡ [])
Follows table (tape_goes t) u = (s : State) × (u ≡ goes s) × (t ≡ flat s) × IsFine table s

-- ---- lists

pub kept_front : (f g : List Tree) → take (length f) (f ++ g) ≡ f
kept_front f g = take-append_seam f g

pub dropped_front : (f g : List Tree) → drop (length f) (f ++ g) ≡ g
dropped_front f g = drop-append_seam f g

pub joined_trees : (keep : Keep) (f g v : List Tree) → added keep (f ++ g) v ≡ f ++ added keep g v
joined_trees Kept f g v = append_assoc f g v
joined_trees Hidden f g v = refl

-- ---- what is fine stays so with more trees

pub more_trees : (f g v : List Tree) → Goes f g → Goes f (g ++ v)
more_trees f g v h = (h.0 ++ v, sym (append_assoc f h.0 v) ∙ ap (λ z. z ++ v) h.1)

pub longer : (table : Table) (g v : List Tree) (k : List Frame) → AreFine table g k → AreFine table (g ++ v) k
longer table g v [] h = tt
longer table g v (returns target ∷ k) h = longer table g v k h
longer table g v (encloses counts f a x ∷ k) h = h
longer table g v (holds f T ∷ k) h = h
longer table g v (operates rank role i c f T ∷ k) h = h
longer table g v (marks target f a x ∷ k) h = (h.0, more_trees f g v h.1, h.2)

pub added_fine : (keep : Keep) (table : Table) (g v : List Tree) (k : List Frame) → AreFine table g k → AreFine table (added keep g v) k
added_fine Kept table g v k h = longer table g v k h
added_fine Hidden table g v k h = h

-- below a mark
pub at_mark : (table : Table) (f g : List Tree) (k : List Frame) → Goes f g → AreFine table f k → AreFine table g k
at_mark table f g k h fine = subst (λ z. AreFine table z k) h.1 (longer table f h.0 k fine)

-- ---- failures

pub back_follows : (table : Table) (y : Bool) (n : ℕ) (trees g : List Tree) (k : List Frame) → trees ≡ below k ++ g → AreFine table g k →
    Follows table (tape_back y n trees (waiting k)) (back y n k)
back_follows table y n trees g [] e h = tt
back_follows table y n trees g (returns target ∷ k) e h = back_follows table y n trees g k e h
back_follows table y n trees g (encloses counts f a x ∷ k) e h =
    back_follows table (x || (counts && y)) n trees (f ++ g) k (e ∙ append_assoc (below k) f g) (longer table f g k h.1)
back_follows table y n trees g (holds f T ∷ k) e h = back_follows table y n trees (f ++ g) k (e ∙ append_assoc (below k) f g) (longer table f g k h.1)
back_follows table y n trees g (operates rank role i c f T ∷ k) e h =
    back_follows table y n trees (f ++ g) k (e ∙ append_assoc (below k) f g) (longer table f g k h.1)
back_follows table true n trees g (marks target f a x ∷ k) e h = back_follows table true n trees g k e (at_mark table f g k h.1 h.2)
back_follows table false n trees g (marks target f a x ∷ k) e h =
    let all : trees ≡ (below k ++ f) ++ h.1.0 = e ∙ ap (λ z. below k ++ z) (sym h.1.1) ∙ sym (append_assoc (below k) f h.1.0) in
    let cut : take (length (below k ++ f)) trees ≡ below k ++ f = ap (take (length (below k ++ f))) all ∙ kept_front (below k ++ f) h.1.0 in
    (state target a k f n x, refl, ap (λ z. tape target a.place (waiting k) z n x) cut, record { spot = h.0; stack = h.2 })
