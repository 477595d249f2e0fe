-- The text in JSON of steps. Going from the last step to the first, what is left to write is known at each of them.
use Rattle.std.specs.Prelude.{◌≡◌, ◌+◌, ◌<◌, ◌&&◌, ℕ, zero, suc, Bool, true, false, List, [], ◌∷◌, ◌++◌, Option, Some, None, reverse, take, drop, codes, if◌then◌else◌}
use Rattle.std.specs.Str.{bytes_eq}
use Rattle.json.specs.Print.{escape}
use Rattle.pg_tree.specs.Trees.{Tree, Trees, leaf, node, no_trees, tree}
use Rattle.pg_tree.specs.Built.{kids_text}
use Rattle.pg_tree.specs.Json.{quoted, json_tree, json}
use Rattle.pg_tree_placed.specs.Made.{text_between, with_entry, made_on, kids_from}
use Rattle.pg_tree_placed.specs.Named.{label_at}
use Rattle.pg_tree_placed.specs.declared.entry.Entry.{Entry}
use Rattle.pg_tree_placed.specs.declared.entry.Entry.TheVariants.{Leaf, Node, Flat, Single, Join}
use Rattle.pg_tree_placed.specs.declared.pending.Around.{Around}
use Rattle.pg_tree_placed.specs.declared.pending.Open.{Open}
use Rattle.pg_tree_placed.specs.declared.pending.Pending.{Pending}

-- a comma behind a tree, if another comes after it
abbrev pub comma : Bool → List ℕ
comma false = []
comma true = codes ","

-- the text of trees, the last first; `later` says whether another comes after them
abbrev pub back_text : Bool → List Tree → List ℕ
back_text later [] = []
back_text later (t ∷ ts) = back_text true ts ++ (json_tree t ++ comma later)

-- the last of some trees first
abbrev pub back_of : Trees → List Tree
back_of no_trees = []
back_of (tree t ts) = back_of ts ++ t ∷ []

-- trees, the last first, where those with this label are replaced by their kids
abbrev pub lifted : List ℕ → List Tree → List Tree
lifted label [] = []
lifted label (leaf text ∷ ts) = leaf text ∷ lifted label ts
lifted label (node other kids ∷ ts) = if bytes_eq other label then back_of kids ++ lifted label ts else node other kids ∷ lifted label ts

-- around others, so many nodes that are full: no kids of theirs are left, and their label doesn't matter
abbrev pub with_full : ℕ → List Around → List Around
with_full zero cs = cs
with_full (suc n) cs = record { plain = 0; flat = 0; label = 0 } ∷ with_full n cs

-- the nodes that are open, the innermost first
abbrev pub opened : List Open → List Around
opened [] = []
opened (o ∷ os) = o.node ∷ with_full o.also (opened os)

abbrev pub innermost_first : Option Open → List Open → List Around
innermost_first None outer = []
innermost_first (Some top) outer = opened (top ∷ reverse outer)

abbrev pub open_in : Pending → List Around
open_in p = innermost_first p.top p.outer.items

-- the kids of an open node that are left: some as they are, and before them some that are lifted
abbrev pub kids_left : List (List ℕ) → Around → List Tree → List Tree
kids_left labels c ts = take c.plain ts ++ lifted (label_at labels c.label) (take c.flat (drop c.plain ts))

-- what is left beside the open nodes: whether a tree comes next, so that a comma has to be written before it, whether a joined leaf is being written, and how
-- many trees of it are left
pub record Left : Type 0 where
  pub later : Bool
  pub inside : Bool
  pub joined : ℕ

-- what is left to write before what has been written: the last of the trees are the kids of the innermost open node that are left, and so on outwards
abbrev pub nodes_left : List (List ℕ) → Bool → List Around → List Tree → List ℕ
nodes_left labels later [] ts = codes "[" ++ back_text later ts
nodes_left labels later (c ∷ cs) ts = nodes_left labels true cs (drop (c.plain + c.flat) ts) ++ (codes "{\"kids\":[" ++ back_text later (kids_left labels c ts))

-- the same inside of a joined leaf with so many trees left
abbrev pub joined_left : List (List ℕ) → ℕ → List Around → List Tree → List ℕ
joined_left labels n cs ts = nodes_left labels true cs (drop n ts) ++ (codes "\"" ++ escape (kids_text (kids_from n ts)))

abbrev pub left_text : List (List ℕ) → Left → List Around → List Tree → List ℕ
left_text labels s cs ts = if s.inside then joined_left labels s.joined cs ts else nodes_left labels s.later cs ts

-- some kids of the innermost open node are left
abbrev pub HaveKids : List Around → Type 0
HaveKids [] = Unit {0}
HaveKids (c ∷ cs) = 0 < c.plain + c.flat

-- one kid less is left
abbrev pub one_less : ℕ → ℕ → ℕ → Around
one_less zero zero label = record { plain = 0; flat = 0; label = label }
one_less zero (suc n) label = record { plain = 0; flat = n; label = label }
one_less (suc n) flat label = record { plain = n; flat = flat; label = label }

abbrev pub with_one_less : List Around → List Around
with_one_less [] = []
with_one_less (c ∷ cs) = one_less c.plain c.flat c.label ∷ cs

-- without the label of the innermost one, if that is full
abbrev pub unless_full : ℕ → ℕ → ℕ → Around
unless_full zero zero label = record { plain = 0; flat = 0; label = 0 }
unless_full zero (suc n) label = record { plain = 0; flat = suc n; label = label }
unless_full (suc n) flat label = record { plain = suc n; flat = flat; label = label }

abbrev pub without_label : List Around → List Around
without_label [] = []
without_label (c ∷ cs) = unless_full c.plain c.flat c.label ∷ cs

abbrev pub less : ℕ → ℕ
less zero = zero
less (suc n) = n

abbrev pub is_zero : ℕ → Bool
is_zero zero = true
is_zero (suc n) = false

-- a node with this label would be lifted
abbrev pub lifts : List (List ℕ) → List Around → List ℕ → Bool
lifts labels [] label = false
lifts labels (c ∷ cs) label = is_zero c.plain && bytes_eq label (label_at labels c.label)

-- in place of a kid that was to be lifted come some as they are, or some that are lifted
abbrev pub with_lifted : ℕ → ℕ → List Around → List Around
with_lifted plain flat [] = []
with_lifted plain flat (c ∷ cs) = record { plain = plain; flat = flat + less c.flat; label = c.label } ∷ cs

-- the closing text of a node
abbrev pub closing : List ℕ → List ℕ
closing label = codes "],\"node\":" ++ (quoted label ++ codes "}")

-- a node around a leaf
abbrev pub single_text : List ℕ → List (List ℕ) → ℕ → ℕ → ℕ → List ℕ
single_text text labels label from to = codes "{\"kids\":[" ++ (quoted (text_between text from to) ++ closing (label_at labels label))

-- the same where a node that is bare is its leaf
abbrev pub single_text_if : Bool → List ℕ → List (List ℕ) → ℕ → ℕ → ℕ → List ℕ
single_text_if is_bare text labels label from to = if is_bare then quoted (text_between text from to) else single_text text labels label from to

-- the text that a step adds to a leaf that is joined
abbrev pub added_text : List ℕ → Entry → List ℕ
added_text text (Leaf from to) = text_between text from to
added_text text (Node label kids) = []
added_text text (Flat label kids) = []
added_text text (Single label from to) = text_between text from to
added_text text (Join kids) = []

-- what is left to write before `old` comes, a step back, to what is left before `new`: the step's own text stands at the front of `new`
abbrev pub GoesBack : List ℕ → List (List ℕ) → Left → List Around → Entry → List ℕ → Left → List Around → List ℕ → Type 0
GoesBack text labels s cs e old z ds new = (ts : List Tree) → left_text labels s cs (with_entry text labels ts e) ++ old ≡ left_text labels z ds ts ++ new

-- what is left before so many steps, and what is written
abbrev pub IsWritten : List ℕ → List (List ℕ) → List Entry → ℕ → Left → List Around → List ℕ → Type 0
IsWritten text labels es steps s cs out = json (reverse (made_on text labels [] es)) ≡ left_text labels s cs (made_on text labels [] (take steps es)) ++ out

-- what begins there has been written: nodes with no kids left, and a joined leaf of which nothing is left
abbrev pub Settles : List (List ℕ) → Left → List Around → List ℕ → Left → List Around → List ℕ → Type 0
Settles labels s cs old z ds new = (ts : List Tree) → left_text labels s cs ts ++ old ≡ left_text labels z ds ts ++ new

-- outside of a joined leaf, and inside with so many trees left
abbrev pub outside : Bool → Left
outside later = record { later = later; inside = false; joined = 0 }

abbrev pub within : ℕ → Left
within joined = record { later = true; inside = true; joined = joined }

-- a step back over a node: it is open then and its closing text is written, or its kids stand in its place
pub record NodeBack (labels : List (List ℕ)) (later : Bool) (cs : List Around) (node : Around) (old : List ℕ) (z : Bool) (ds : List Around) (new : List ℕ) : Type 0 where
  pub is_open : lifts labels cs (label_at labels node.label) ≡ false
      → (z ≡ false) × (ds ≡ node ∷ without_label (with_one_less cs)) × (new ≡ closing (label_at labels node.label) ++ (comma later ++ old))
  pub is_gone : lifts labels cs (label_at labels node.label) ≡ true → (z ≡ later) × (ds ≡ with_lifted node.plain node.flat cs) × (new ≡ old)

-- nodes with no kids left are written up to their first bytes: how many there are, and which nodes are still open
abbrev pub is_full : ℕ → ℕ → Bool
is_full zero zero = true
is_full zero (suc n) = false
is_full (suc m) n = false

abbrev pub finished : List Around → ℕ
finished [] = 0
finished (c ∷ cs) = if is_full c.plain c.flat then suc (finished cs) else 0

abbrev pub unfinished : List Around → List Around
unfinished [] = []
unfinished (c ∷ cs) = if is_full c.plain c.flat then unfinished cs else c ∷ cs

-- whether a tree comes next, if so many nodes begin before it
abbrev pub still_later : Bool → ℕ → Bool
still_later later zero = later
still_later later (suc n) = true
