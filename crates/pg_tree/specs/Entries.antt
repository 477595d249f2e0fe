-- The entries of a forest from the last to the first. A node stands after its kids, so it is read before them; once read, its kids stand in its place.
use Rattle.std.specs.Prelude.{◌≡◌, ◌+◌, ℕ, zero, suc, Bool, true, false, List, [], ◌∷◌, ◌++◌, length, refl}
use Rattle.std.specs.Coded.{Coded, code_by}
use Rattle.std.proofs.Common.{ap, ap₂}
use Rattle.pg_tree.specs.Trees.{Tree, Trees, leaf, node, no_trees, tree}
use Rattle.pg_tree.specs.Marks.{tree_code}
use Rattle.pg_tree.specs.Kept.{Kept, Kepts, kept_leaf, kept_node, no_kepts, kept}
use Rattle.pg_tree.specs.Stored.{kepts_entries}
use Rattle.pg_tree.specs.declared.entry.Entry.{Entry}
use Rattle.pg_tree.specs.declared.entry.Entry.TheVariants as entry
use Rattle.pg_tree.specs.declared.entries.Seen.{Seen}
use Rattle.pg_tree.specs.declared.entries.Seen.TheVariants.{Leaf, Node, Away}

-- the kids of a node as a list, and the kids of a tree; a leaf has none
abbrev pub list_of : Kepts → List Kept
list_of no_kepts = []
list_of (kept t ts) = t ∷ list_of ts

abbrev pub kids_in : Kept → List Kept
kids_in (kept_leaf text) = []
kids_in (kept_node away label kids) = list_of kids

-- what an entry shows of its tree: a leaf's text; a node's label and the number of entries in its tree; nothing of a node that was flattened away
abbrev pub IsSeen : Seen → Kept → Type 0
IsSeen (Leaf text) (kept_leaf own) = text.now ≡ own
IsSeen (Node label entries) (kept_node false own kids) = (label.now ≡ own) × (entries ≡ length (kepts_entries kids) + 1)
IsSeen Away (kept_node true own kids) = Unit {0}
IsSeen _ _ = ⊥

-- what an entry with this text or this label shows
abbrev pub IsSeenAs : Seen → Entry → List ℕ → List ℕ → Type 0
IsSeenAs (Leaf text) (entry.Leaf n) own label = text.now ≡ own
IsSeenAs (Node label entries) (entry.Node false l t size s) own named = (label.now ≡ named) × (entries ≡ size)
IsSeenAs Away (entry.Node true l t size s) own label = Unit {0}
IsSeenAs _ _ _ _ = ⊥

-- the last tree is read, and its kids take its place
pub record Opens (old : List Kept) (seen : Seen) (new : List Kept) : Type 0 where
  pub before : List Kept
  pub last : Kept
  pub was : old ≡ before ++ last ∷ []
  pub is : IsSeen seen last
  pub becomes : new ≡ before ++ kids_in last

-- how a label is stored: marked with whether its node was flattened away
abbrev pub marked_label : Bool → List ℕ → List ℕ
marked_label true label = 1 ∷ label
marked_label false label = 0 ∷ label

abbrev mutual
  pub marked_tree : Kept → Tree
  marked_tree (kept_leaf text) = leaf text
  marked_tree (kept_node away label kids) = node (marked_label away label) (marked_trees kids)

  pub marked_trees : Kepts → Trees
  marked_trees no_kepts = no_trees
  marked_trees (kept t ts) = tree (marked_tree t) (marked_trees ts)

abbrev pub unmarked_node : List ℕ → Kepts → Kept
unmarked_node [] kids = kept_node false [] kids
unmarked_node (zero ∷ label) kids = kept_node false label kids
unmarked_node (suc n ∷ label) kids = kept_node true label kids

abbrev mutual
  pub unmarked : Tree → Kept
  unmarked (leaf text) = kept_leaf text
  unmarked (node label kids) = unmarked_node label (unmarked_trees kids)

  pub unmarked_trees : Trees → Kepts
  unmarked_trees no_trees = no_kepts
  unmarked_trees (tree t ts) = kept (unmarked t) (unmarked_trees ts)

mutual
  pub unmarked-marked : (t : Kept) → unmarked (marked_tree t) ≡ t
  unmarked-marked (kept_leaf text) = refl
  unmarked-marked (kept_node true label kids) = ap (λ ks. kept_node true label ks) (unmarked-marked_trees kids)
  unmarked-marked (kept_node false label kids) = ap (λ ks. kept_node false label ks) (unmarked-marked_trees kids)

  pub unmarked-marked_trees : (ts : Kepts) → unmarked_trees (marked_trees ts) ≡ ts
  unmarked-marked_trees no_kepts = refl
  unmarked-marked_trees (kept t ts) = ap₂ (λ u us. kept u us) (unmarked-marked t) (unmarked-marked_trees ts)

abbrev pub kept_code : Coded Kept
kept_code = code_by Tree tree_code marked_tree unmarked unmarked-marked
