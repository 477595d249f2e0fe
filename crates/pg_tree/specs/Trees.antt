-- Trees as contracts see them: a leaf with a text, or a node with a label and its kids in order. Texts and labels are
-- the bytes of UTF-8.
use Rattle.std.specs.Prelude.{ℕ, List, [], ◌∷◌}

-- a tree, and the kids of a node from the first to the last
mutual
  pub data Tree : Type 0 where
    leaf : List ℕ → Tree
    node : List ℕ → Trees → Tree

  pub data Trees : Type 0 where
    no_trees : Trees
    tree : Tree → Trees → Trees

-- a list as the kids of a node
abbrev pub kids_of : List Tree → Trees
kids_of [] = no_trees
kids_of (t ∷ ts) = tree t (kids_of ts)

-- the first tree of a list, or an empty leaf if there is none
abbrev pub lone_tree : List Tree → Tree
lone_tree [] = leaf []
lone_tree (t ∷ ts) = t
