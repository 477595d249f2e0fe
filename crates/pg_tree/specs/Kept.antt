-- Trees as they are kept. Flattening leaves a node in place and marks it as taken away: its kids then stand in its place.
use Rattle.std.specs.Prelude.{ℕ, Bool, true, false, List, [], ◌∷◌}
use Rattle.std.specs.Str.{bytes_eq}
use Rattle.pg_tree.specs.Trees.{Tree, Trees, leaf, node, no_trees, tree}
use Rattle.pg_tree.specs.Built.{with_kids}

-- a leaf, or a node that is taken away (true) or shown (false)
mutual
  pub data Kept : Type 0 where
    kept_leaf : List ℕ → Kept
    kept_node : Bool → List ℕ → Kepts → Kept

  pub data Kepts : Type 0 where
    no_kepts : Kepts
    kept : Kept → Kepts → Kepts

-- a list as the kids of a node
abbrev pub kepts_of : List Kept → Kepts
kepts_of [] = no_kepts
kepts_of (t ∷ ts) = kept t (kepts_of ts)

-- the trees that kept trees show
abbrev pub trees_of : Kepts → Trees
trees_of no_kepts = no_trees
trees_of (kept (kept_leaf text) ts) = tree (leaf text) (trees_of ts)
trees_of (kept (kept_node true label kids) ts) = with_kids (trees_of kids) (trees_of ts)
trees_of (kept (kept_node false label kids) ts) = tree (node label (trees_of kids)) (trees_of ts)

-- the tree that a kept tree shows, if it isn't taken away
abbrev pub tree_of : Kept → Tree
tree_of (kept_leaf text) = leaf text
tree_of (kept_node away label kids) = node label (trees_of kids)

-- the trees that a list of kept trees shows, if none of them is taken away
abbrev pub listed : List Kept → List Tree
listed [] = []
listed (t ∷ ts) = tree_of t ∷ listed ts

-- none of them is taken away
abbrev pub AreShown : List Kept → Type 0
AreShown [] = Unit {0}
AreShown (kept_leaf text ∷ ts) = AreShown ts
AreShown (kept_node true label kids ∷ ts) = ⊥
AreShown (kept_node false label kids ∷ ts) = AreShown ts

-- whether it is a node with this label
abbrev pub has_label : List ℕ → Kept → Bool
has_label label (kept_leaf text) = false
has_label label (kept_node away other kids) = bytes_eq other label

-- marks a node as taken away; a leaf stays
abbrev pub put_away : Kept → Kept
put_away (kept_leaf text) = kept_leaf text
put_away (kept_node away label kids) = kept_node true label kids

-- takes a tree away, if the flag says so
abbrev pub away_if : Bool → Kept → Kept
away_if true t = put_away t
away_if false t = t

-- these trees with the nodes of this label taken away
abbrev pub marked : List ℕ → List Kept → List Kept
marked label [] = []
marked label (t ∷ ts) = away_if (has_label label t) t ∷ marked label ts
