-- A tree as a list of marks that determines it. Proofs use this code to tell two trees apart.
use Rattle.std.specs.Prelude.{◌≡◌, ◌⊎◌, ℕ, Bool, true, false, List, [], ◌∷◌, refl}
use Rattle.std.specs.Coded.{Coded, code_by, coded_ℕ, coded_bool, coded_list, coded⊎}
use Rattle.std.proofs.Common.{ap, ◌∙◌, inl, inr}
use Rattle.pg_tree.specs.Trees.{Tree, Trees, leaf, node, no_trees, tree}

-- a leaf's text, a node's label, one more kid (true), or the end of the kids (false)
abbrev pub Mark : Type 0
Mark = List ℕ ⊎ (List ℕ ⊎ Bool)

-- the marks of a tree or of kids, followed by others
abbrev mutual
  pub marks : Tree → List Mark → List Mark
  marks (leaf text) after = inl text ∷ after
  marks (node label kids) after = inr (inl label) ∷ kid_marks kids after

  pub kid_marks : Trees → List Mark → List Mark
  kid_marks no_trees after = inr (inr false) ∷ after
  kid_marks (tree t ts) after = inr (inr true) ∷ marks t (kid_marks ts after)

-- makes the kids on top of the stack into a node
abbrev pub with_node : List ℕ → List Trees → List Trees
with_node label [] = []
with_node label (kids ∷ stack) = tree (node label kids) no_trees ∷ stack

-- puts the tree on top of the stack before the kids below it
abbrev pub with_kid : List Trees → List Trees
with_kid (tree t no_trees ∷ ts ∷ stack) = tree t ts ∷ stack
with_kid _ = []

-- the stack of kids that marks spell, read from their end; a tree stands as an only kid
abbrev pub spelled : List Mark → List Trees
spelled [] = []
spelled (inl text ∷ after) = tree (leaf text) no_trees ∷ spelled after
spelled (inr (inl label) ∷ after) = with_node label (spelled after)
spelled (inr (inr false) ∷ after) = no_trees ∷ spelled after
spelled (inr (inr true) ∷ after) = with_kid (spelled after)

-- the first tree on top of the stack
abbrev pub first_tree : List Trees → Tree
first_tree (tree t _ ∷ _) = t
first_tree _ = leaf []

-- the marks of a tree or of kids spell that tree or those kids
mutual
  pub spelled-marks : (t : Tree) (after : List Mark) → spelled (marks t after) ≡ tree t no_trees ∷ spelled after
  spelled-marks (leaf text) after = refl
  spelled-marks (node label kids) after = ap (with_node label) (spelled-kid_marks kids after)

  pub spelled-kid_marks : (ts : Trees) (after : List Mark) → spelled (kid_marks ts after) ≡ ts ∷ spelled after
  spelled-kid_marks no_trees after = refl
  spelled-kid_marks (tree t ts) after =
      ap with_kid (spelled-marks t (kid_marks ts after) ∙ ap (λ stack. tree t no_trees ∷ stack) (spelled-kid_marks ts after))

-- trees coded by their marks
abbrev pub tree_code : Coded Tree
tree_code = code_by (List Mark) (coded_list (coded⊎ (coded_list coded_ℕ) (coded⊎ (coded_list coded_ℕ) coded_bool)))
    (λ t. marks t []) (λ ms. first_tree (spelled ms)) (λ t. ap first_tree (spelled-marks t []))
