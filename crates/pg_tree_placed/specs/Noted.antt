-- What is noted of steps, going back over them.
use Rattle.std.specs.Prelude.{◌≡◌, ◌+◌, ◌-◌, ◌≤◌, ℕ, zero, suc, Bool, true, false, List, [], ◌∷◌, ◌++◌, length, drop, codes, if◌then◌else◌}
use Rattle.pg_tree_placed.specs.Named.{label_at}
use Rattle.pg_tree_placed.specs.Written.{comma, lifts, with_lifted, with_one_less, without_label, HaveKids, IsWritten, outside, within}
use Rattle.pg_tree_placed.specs.Forward.{forward}
use Rattle.pg_tree_placed.specs.declared.entry.Entry.{Entry}
use Rattle.pg_tree_placed.specs.declared.entry.Entry.TheVariants.{Leaf, Node, Flat, Single, Join}
use Rattle.pg_tree_placed.specs.declared.note.Note.{Note}
use Rattle.pg_tree_placed.specs.declared.note.Way.{Way}
use Rattle.pg_tree_placed.specs.declared.note.Way.TheVariants.{Shown, Lifted, Joined}
use Rattle.pg_tree_placed.specs.declared.pending.Around.{Around}

-- after a step back over a node it is open, or its kids stand in its place
abbrev pub with_node : Bool → Around → List Around → List Around
with_node false node cs = node ∷ without_label (with_one_less cs)
with_node true node cs = with_lifted node.plain node.flat cs

-- a step back: whether its node is lifted, and the nodes that are open then
abbrev pub StepsBack : List (List ℕ) → List Around → Entry → Bool → List Around → Type 0
StepsBack labels cs (Leaf from to) is_lifted ds = (is_lifted ≡ false) × (ds ≡ with_one_less cs)
StepsBack labels cs (Node label kids) is_lifted ds =
    (is_lifted ≡ lifts labels cs (label_at labels label)) × (ds ≡ with_node is_lifted (record { plain = kids; flat = 0; label = label }) cs)
StepsBack labels cs (Flat label kids) is_lifted ds =
    (is_lifted ≡ lifts labels cs (label_at labels label)) × (ds ≡ with_node is_lifted (record { plain = 0; flat = kids; label = label }) cs)
StepsBack labels cs (Single label from to) is_lifted ds = (is_lifted ≡ lifts labels cs (label_at labels label)) × (ds ≡ with_one_less cs)
StepsBack labels cs (Join kids) is_lifted ds = ⊥

abbrev pub way_of : Bool → Way
way_of false = Shown
way_of true = Lifted

abbrev pub note_of : ℕ → ℕ → Way → Note
note_of step begins way = record { step = step; begins = begins; way = way }

-- a step is written by itself, and no node begins before it
abbrev pub is_usual : ℕ → Way → Bool
is_usual zero Shown = true
is_usual zero Lifted = false
is_usual zero (Joined n) = false
is_usual (suc begins) way = false

-- with a note on this step, unless it is as usual
abbrev pub with_note : ℕ → ℕ → Way → List Note → List Note
with_note step begins way ns = if is_usual begins way then ns else note_of step begins way ∷ ns

-- the first note is on this step, or on one after it
abbrev pub StartFrom : ℕ → List Note → Type 0
StartFrom step [] = Unit {0}
StartFrom step (n ∷ ns) = step ≤ n.step

-- what is left to write before so many steps, and the text of the others, which has a comma before it if a tree comes next
pub record Shows (text : List ℕ) (labels : List (List ℕ)) (es : List Entry) (steps : ℕ) (cs : List Around) (ns : List Note) : Type 0 where
  pub later : Bool
  pub parted : forward text labels true 0 steps (drop steps es) ns ≡ comma later ++ forward text labels false 0 steps (drop steps es) ns
  pub so : IsWritten text labels es steps (outside later) cs (forward text labels false 0 steps (drop steps es) ns ++ codes "]")

-- all but so many steps are noted, over any text
pub record AreNoted (labels : List (List ℕ)) (es : List Entry) (steps : ℕ) (cs : List Around) (ns : List Note) : Type 0 where
  pub within : steps ≤ length es
  pub unfinished : HaveKids cs
  pub start : StartFrom steps ns
  pub shows : (text : List ℕ) → Shows text labels es steps cs ns

-- the text from a step of a joined leaf on, whose last step is `last`
abbrev pub inside_text : List ℕ → List (List ℕ) → List Entry → ℕ → ℕ → List Note → List ℕ
inside_text text labels es step last ns = forward text labels true (last + 1 - step) step (drop step es) ns ++ codes "]"

-- the steps from `first` on make so many trees that the step `last` joins: whatever is left to write before them
abbrev pub AreJoined : List Entry → ℕ → ℕ → ℕ → Type 0
AreJoined es kids first last =
    (text : List ℕ) (labels : List (List ℕ)) (cs : List Around) (ns : List Note)
    → IsWritten text labels es last (within kids) cs (inside_text text labels es last last ns)
    → IsWritten text labels es first (within 0) cs (inside_text text labels es first last ns)
