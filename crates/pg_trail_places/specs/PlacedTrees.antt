-- Trees with places: each leaf and each node has the stretch of the text that its form read.
use Rattle.std.specs.Prelude.{◌≡◌, ◌≤◌, ◌-◌, ℕ, Bool, false, List, take, drop, length}
use Rattle.std.specs.Str.{encode_utf8_all}
use Rattle.pg_tree.specs.Trees.{Tree, Trees, leaf, node, no_trees, tree}
use Rattle.pg_trail_places.specs.declared.stretch.Stretch.{Stretch}

-- a tree with places, and the kids of a node from the first to the last
mutual
  pub data PlacedTree : Type 0 where
    placed_leaf : List ℕ → Stretch → PlacedTree
    placed_node : List ℕ → Stretch → PlacedTrees → PlacedTree

  pub data PlacedTrees : Type 0 where
    no_placed : PlacedTrees
    placed : PlacedTree → PlacedTrees → PlacedTrees

-- the trees without their places
abbrev mutual
  pub without_place : PlacedTree → Tree
  without_place (placed_leaf text at) = leaf text
  without_place (placed_node label at kids) = node label (without_places kids)

  pub without_places : PlacedTrees → Trees
  without_places no_placed = no_trees
  without_places (placed t ts) = tree (without_place t) (without_places ts)

-- where a tree stands
abbrev pub stretch_of : PlacedTree → Stretch
stretch_of (placed_leaf text at) = at
stretch_of (placed_node label at kids) = at

-- the characters of a text between two places
abbrev pub between : List ℕ → ℕ → ℕ → List ℕ
between text start end = take (end - start) (drop start text)

-- a leaf's text is what stands between its places, unless a builder joined it from other leaves
abbrev pub IsTextBetween : List ℕ → Stretch → List ℕ → Type 0
IsTextBetween text at own = at.is_joined ≡ false → own ≡ encode_utf8_all (between text at.start at.end)

-- a tree is placed well: its kids lie within it; and trees lie between two places, one after the other
abbrev mutual
  pub IsPlaced : List ℕ → PlacedTree → Type 0
  IsPlaced text (placed_leaf own at) = (at.start ≤ at.end) × IsTextBetween text at own
  IsPlaced text (placed_node label at kids) = AreWithin text at.start at.end kids

  pub AreWithin : List ℕ → ℕ → ℕ → PlacedTrees → Type 0
  AreWithin text from to no_placed = from ≤ to
  AreWithin text from to (placed t ts) = (from ≤ (stretch_of t).start) × (IsPlaced text t × AreWithin text (stretch_of t).end to ts)
