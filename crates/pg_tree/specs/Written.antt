-- The text in JSON of entries, from the first to the last. A node's entry comes after those of its kids, but its text begins before theirs.
use Rattle.std.specs.Prelude.{◌+◌, ◌-◌, ◌&&◌, ◌≤◌, ℕ, zero, suc, Bool, true, false, List, [], ◌∷◌, ◌++◌, length, take, drop, get_or, set, codes, if◌then◌else◌}
use Rattle.pg_tree.specs.Kept.{Kept, Kepts, kept_leaf, kept_node, no_kepts, kept}
use Rattle.pg_tree.specs.declared.entry.Entry.{Entry}
use Rattle.pg_tree.specs.declared.entry.Entry.TheVariants.{Leaf, Node}
use Rattle.pg_tree.specs.Stored.{extent_of, own_text, own_label}
use Rattle.pg_tree.specs.Json.{quoted}

-- how many shown nodes begin at each entry of a tree, given how many nodes around the tree begin at its first entry
abbrev mutual
  pub openings_with : ℕ → Kept → List ℕ
  openings_with more (kept_leaf text) = more ∷ []
  openings_with more (kept_node true label kids) = node_openings more kids
  openings_with more (kept_node false label kids) = node_openings (suc more) kids

  pub node_openings : ℕ → Kepts → List ℕ
  node_openings more no_kepts = more ∷ []
  node_openings more (kept t ts) = openings_with more t ++ (kids_openings ts ++ 0 ∷ [])

  pub kids_openings : Kepts → List ℕ
  kids_openings no_kepts = []
  kids_openings (kept t ts) = openings_with 0 t ++ kids_openings ts

-- the numbers with the one at an index raised by `more`
abbrev pub raised : ℕ → List ℕ → ℕ → List ℕ
raised more counts i = set counts i (get_or counts i 0 + more)

-- how many shown nodes an entry makes begin: 1 for a shown node, otherwise 0
abbrev pub opening : Entry → ℕ
opening (Leaf n) = 0
opening (Node true label texts entries labels) = 0
opening (Node false label texts entries labels) = 1

-- the openings with those of the next entry: its node begins at the first entry of its tree
abbrev pub with_opening : List ℕ → Entry → List ℕ
with_opening counts e = raised (opening e) (counts ++ 0 ∷ []) (length counts + 1 - (extent_of e).entries)

-- the openings of entries, after those of the entries before them
abbrev pub openings_on : List ℕ → List Entry → List ℕ
openings_on counts [] = counts
openings_on counts (e ∷ es) = openings_on (with_opening counts e) es

-- an entry with n others before it: its tree has this entry, and reaches no further back than the first
abbrev pub IsWithin : ℕ → Entry → Type 0
IsWithin n e = (1 ≤ (extent_of e).entries) × ((extent_of e).entries ≤ n + 1)

abbrev pub AreWithin : ℕ → List Entry → Type 0
AreWithin n [] = Unit {0}
AreWithin n (e ∷ es) = IsWithin n e × AreWithin (n + 1) es

-- the opening text of n nodes
abbrev pub braces : ℕ → List ℕ
braces zero = []
braces (suc n) = braces n ++ codes "{\"kids\":["

-- whether a count isn't 0
abbrev pub has_some : ℕ → Bool
has_some zero = false
has_some (suc n) = true

-- whether a shown tree begins at an entry where this many nodes begin
abbrev pub begins : ℕ → Entry → Bool
begins nodes (Leaf n) = true
begins nodes (Node away label texts entries labels) = has_some nodes

-- the comma before a tree that begins here, if another ended before it
abbrev pub separator : Bool → ℕ → Entry → List ℕ
separator later n e = if later && begins n e then codes "," else []

-- whether a tree ended before what comes next: after the opening texts of n nodes, and after the text of an entry
abbrev pub still : Bool → ℕ → Bool
still later zero = later
still later (suc n) = false

abbrev pub ended : Bool → Entry → Bool
ended later (Leaf n) = true
ended later (Node true label texts entries labels) = later
ended later (Node false label texts entries labels) = true

-- the text of a leaf, or the closing text of a node
abbrev pub own_json : Entry → (texts labels : List ℕ) → List ℕ
own_json (Leaf n) texts labels = quoted (take n texts)
own_json (Node true label t e s) texts labels = []
own_json (Node false label t e s) texts labels = codes "],\"node\":" ++ (quoted (take label labels) ++ codes "}")

-- the text of entries with their openings, texts and labels
abbrev pub entries_json : Bool → List Entry → (counts texts labels : List ℕ) → List ℕ
entries_json later [] counts texts labels = []
entries_json later (e ∷ es) [] texts labels = []
entries_json later (e ∷ es) (n ∷ counts) texts labels =
    separator later n e
    ++ (braces n ++ (own_json e texts labels ++ entries_json (ended (still later n) e) es counts (drop (own_text e) texts) (drop (own_label e) labels)))
