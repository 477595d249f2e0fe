-- The tree that a shape makes of a list of kids.
use Rattle.std.specs.Prelude.{ℕ, if◌then◌else◌, List, ◌++◌, []}
use Rattle.std.specs.Str.{bytes_eq}
use Rattle.pg_tree.specs.Trees.{Tree, Trees, leaf, node, no_trees, tree, kids_of}
use Rattle.pg_tree.specs.declared.shape.Shape.{Shape}
use Rattle.pg_tree.specs.declared.shape.Shape.TheVariants.{Node, Symbol, Join, Flat}

-- the texts of all leaves of a tree, or of several trees, joined from left to right
abbrev mutual
  pub tree_text : Tree → List ℕ
  tree_text (leaf text) = text
  tree_text (node label kids) = kids_text kids

  pub kids_text : Trees → List ℕ
  kids_text no_trees = []
  kids_text (tree t ts) = tree_text t ++ kids_text ts

-- the kids of two lists, one after the other
abbrev pub with_kids : Trees → Trees → Trees
with_kids no_trees more = more
with_kids (tree t ts) more = tree t (with_kids ts more)

-- kids where each node with this label is replaced by its own kids; those aren't flattened again
abbrev pub flattened : List ℕ → Trees → Trees
flattened label no_trees = no_trees
flattened label (tree (leaf text) ts) = tree (leaf text) (flattened label ts)
flattened label (tree (node other kids) ts) =
    if bytes_eq other label then with_kids kids (flattened label ts) else tree (node other kids) (flattened label ts)

-- the tree of a shape: a node with the shape's label or the symbol, a leaf of all texts joined, or a node of flattened kids
abbrev pub built : Shape → List ℕ → List Tree → Tree
built (Node label) symbol kids = node label (kids_of kids)
built Symbol symbol kids = node symbol (kids_of kids)
built Join symbol kids = leaf (kids_text (kids_of kids))
built (Flat label) symbol kids = node label (flattened label (kids_of kids))
