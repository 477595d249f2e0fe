-- The text in JSON of steps, from the first to the last, by notes on how many nodes begin before each. Notes stand in the order of their steps.
use Rattle.std.specs.Prelude.{◌+◌, ◌&&◌, ◌||◌, ℕ, zero, suc, Bool, true, false, List, [], ◌∷◌, ◌++◌, codes, reverse, if◌then◌else◌, nat_eq}
use Rattle.json.specs.Print.{escape}
use Rattle.pg_tree.specs.Json.{quoted}
use Rattle.pg_tree.specs.Written.{braces, has_some}
use Rattle.pg_tree_placed.specs.Made.{text_between}
use Rattle.pg_tree_placed.specs.Named.{label_at}
use Rattle.pg_tree_placed.specs.Written.{added_text, closing, comma, is_zero, less, single_text}
use Rattle.pg_tree_placed.specs.declared.entry.Entry.{Entry}
use Rattle.pg_tree_placed.specs.declared.entry.Entry.TheVariants.{Leaf, Node, Flat, Single, Join}
use Rattle.pg_tree_placed.specs.declared.note.Note.{Note}
use Rattle.pg_tree_placed.specs.declared.note.Way.{Way}
use Rattle.pg_tree_placed.specs.declared.note.Way.TheVariants.{Shown, Lifted, Joined}

-- a step that is shown begins a tree by itself: that of a node ends one
abbrev pub is_leaf : Entry → Bool
is_leaf (Leaf from to) = true
is_leaf (Node label kids) = false
is_leaf (Flat label kids) = false
is_leaf (Single label from to) = true
is_leaf (Join kids) = false

-- the text of a step that is shown
abbrev pub shown_text : List ℕ → List (List ℕ) → Entry → List ℕ
shown_text text labels (Leaf from to) = quoted (text_between text from to)
shown_text text labels (Node label kids) = closing (label_at labels label)
shown_text text labels (Flat label kids) = closing (label_at labels label)
shown_text text labels (Single label from to) = single_text text labels label from to
shown_text text labels (Join kids) = []

-- what is left of a step whose node is lifted
abbrev pub bare_text : List ℕ → Entry → List ℕ
bare_text text (Leaf from to) = quoted (text_between text from to)
bare_text text (Node label kids) = []
bare_text text (Flat label kids) = []
bare_text text (Single label from to) = quoted (text_between text from to)
bare_text text (Join kids) = []

-- what a step adds to a joined leaf, after which so many steps of that are left
abbrev pub joined_text : List ℕ → ℕ → Entry → List ℕ
joined_text text left e = escape (added_text text e) ++ (if is_zero left then codes "\"" else [])

-- what a step writes, and how many steps of a joined leaf are left after it
abbrev pub way_text : List ℕ → List (List ℕ) → Way → Entry → List ℕ
way_text text labels Shown e = shown_text text labels e
way_text text labels Lifted e = bare_text text e
way_text text labels (Joined n) e = codes "\"" ++ joined_text text (less n) e

abbrev pub steps_inside : Way → ℕ
steps_inside Shown = 0
steps_inside Lifted = 0
steps_inside (Joined n) = less n

-- whether a tree begins at a step before which so many nodes begin
abbrev pub begins_tree : ℕ → Way → Entry → Bool
begins_tree n Shown e = has_some n || is_leaf e
begins_tree n Lifted e = has_some n || is_leaf e
begins_tree n (Joined m) e = true

-- whether a tree has ended before what comes next, so that a tree there has a comma before it
abbrev pub has_ended : Bool → ℕ → Way → Entry → Bool
has_ended ended n Shown e = true
has_ended ended zero Lifted e = ended || is_leaf e
has_ended ended (suc n) Lifted e = is_leaf e
has_ended ended n (Joined m) e = true

-- the text of a step, with the opening texts before it
abbrev pub step_text : List ℕ → List (List ℕ) → Bool → ℕ → Way → Entry → List ℕ
step_text text labels ended n way e = comma (ended && begins_tree n way e) ++ (braces n ++ way_text text labels way e)

-- the text of steps: whether a tree has ended before them, how many of them belong to a joined leaf that has begun, and the number of the first one
abbrev pub forward : List ℕ → List (List ℕ) → Bool → ℕ → ℕ → List Entry → List Note → List ℕ
forward text labels ended inside i [] ns = []
forward text labels ended (suc left) i (e ∷ es) ns = joined_text text left e ++ forward text labels true left (i + 1) es ns
forward text labels ended zero i (e ∷ es) [] = step_text text labels ended 0 Shown e ++ forward text labels true 0 (i + 1) es []
forward text labels ended zero i (e ∷ es) (n ∷ ns) =
    if nat_eq n.step i
    then step_text text labels ended n.begins n.way e ++ forward text labels (has_ended ended n.begins n.way e) (steps_inside n.way) (i + 1) es ns
    else step_text text labels ended 0 Shown e ++ forward text labels true 0 (i + 1) es (n ∷ ns)

-- the whole text of steps, where the last note comes first
abbrev pub noted_text : List ℕ → List (List ℕ) → List Entry → List Note → List ℕ
noted_text text labels es notes = codes "[" ++ (forward text labels false 0 0 es (reverse notes) ++ codes "]")
