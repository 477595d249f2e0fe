-- Trees as the steps that make them, over a text. Trees stand with the last first, so that a step takes its kids off the front.
use Rattle.std.specs.Prelude.{◌≡◌, ◌+◌, ◌-◌, ◌≤◌, ◌<◌, ℕ, Bool, true, false, List, [], ◌∷◌, ◌++◌, take, drop, length, reverse, encode_utf8_all}
use Rattle.pg_tree.specs.Trees.{Tree, Trees, leaf, node, no_trees, tree, kids_of}
use Rattle.pg_tree.specs.Built.{flattened, kids_text}
use Rattle.pg_tree_placed.specs.Named.{label_at, IsNumber}
use Rattle.pg_tree_placed.specs.declared.entry.Entry.{Entry}
use Rattle.pg_tree_placed.specs.declared.entry.Entry.TheVariants.{Leaf, Node, Flat, Single, Join}
use Rattle.pg_tree_placed.specs.declared.store.Store.{Store}

-- the UTF-8 text of the characters between two places
abbrev pub text_between : List ℕ → ℕ → ℕ → List ℕ
text_between text from to = encode_utf8_all (take (to - from) (drop from text))

-- how many trees a step takes
abbrev pub kids_taken : Entry → ℕ
kids_taken (Leaf from to) = 0
kids_taken (Node label kids) = kids
kids_taken (Flat label kids) = kids
kids_taken (Single label from to) = 0
kids_taken (Join kids) = kids

-- a step is the leaf of these characters
abbrev pub IsPlacedAt : List ℕ → List ℕ → Entry → Type 0
IsPlacedAt text characters (Leaf from to) = text_between text from to ≡ encode_utf8_all characters
IsPlacedAt text characters (Node label kids) = ⊥
IsPlacedAt text characters (Flat label kids) = ⊥
IsPlacedAt text characters (Single label from to) = ⊥
IsPlacedAt text characters (Join kids) = ⊥

-- the tree that a step makes of kids
abbrev pub tree_made : List ℕ → List (List ℕ) → Trees → Entry → Tree
tree_made text labels ks (Leaf from to) = leaf (text_between text from to)
tree_made text labels ks (Node label kids) = node (label_at labels label) ks
tree_made text labels ks (Flat label kids) = node (label_at labels label) (flattened (label_at labels label) ks)
tree_made text labels ks (Single label from to) = node (label_at labels label) (tree (leaf (text_between text from to)) no_trees)
tree_made text labels ks (Join kids) = leaf (kids_text ks)

-- a step makes a node with the label of this number around the leaf that another step makes
abbrev pub IsAround : ℕ → Entry → Entry → Type 0
IsAround number (Leaf from to) e = e ≡ Single number from to
IsAround number (Node label kids) e = ⊥
IsAround number (Flat label kids) e = ⊥
IsAround number (Single label from to) e = ⊥
IsAround number (Join kids) e = ⊥

-- these steps end with this one
abbrev pub EndsWith : List Entry → Entry → Type 0
EndsWith es e = (before : List Entry) × (es ≡ before ++ e ∷ [])

-- kids that are flattened, or not
abbrev pub kids_if : Bool → List ℕ → Trees → Trees
kids_if true label ks = flattened label ks
kids_if false label ks = ks

-- the kids of the first so many of these trees, from the back
abbrev pub kids_from : ℕ → List Tree → Trees
kids_from n ts = kids_of (reverse (take n ts))

-- the trees after a step
abbrev pub with_entry : List ℕ → List (List ℕ) → List Tree → Entry → List Tree
with_entry text labels ts e = tree_made text labels (kids_from (kids_taken e) ts) e ∷ drop (kids_taken e) ts

-- the trees after some steps
abbrev pub made_on : List ℕ → List (List ℕ) → List Tree → List Entry → List Tree
made_on text labels ts [] = ts
made_on text labels ts (e ∷ es) = made_on text labels (with_entry text labels ts e) es

-- there is such a label
abbrev pub IsNamed : List (List ℕ) → Entry → Type 0
IsNamed labels (Leaf from to) = Unit {0}
IsNamed labels (Node label kids) = label < length labels
IsNamed labels (Flat label kids) = label < length labels
IsNamed labels (Single label from to) = label < length labels
IsNamed labels (Join kids) = Unit {0}

-- a step can be made: there is such a label, and there are so many trees
abbrev pub Fits : List (List ℕ) → List Tree → Entry → Type 0
Fits labels ts e = IsNamed labels e × (kids_taken e ≤ length ts)

-- steps can be made one after another
abbrev pub AllFit : List ℕ → List (List ℕ) → List Tree → List Entry → Type 0
AllFit text labels ts [] = Unit {0}
AllFit text labels ts (e ∷ es) = Fits labels ts e × AllFit text labels (with_entry text labels ts e) es

-- the trees that a store's steps make, the last first
abbrev pub made : Store → List Tree
made s = made_on s.text.now s.labels.items [] s.entries.items

-- the trees of a store, in order
abbrev pub trees_in : Store → List Tree
trees_in s = reverse (made s)

-- a step can stand in place of a store's last one: it makes a node around the leaf that is the only tree after the first `count`
pub record IsSingle (s : Store) (number count : ℕ) (e : Entry) : Type 0 where
  pub last : Entry
  pub ends : EndsWith s.entries.items last
  pub around : IsAround number last e
  pub size : count + 1 ≡ s.roots

-- a step makes a node with the label of this number around the leaf of these characters
pub record IsPlacedAround (number : ℕ) (text characters : List ℕ) (e : Entry) : Type 0 where
  pub last : Entry
  pub at : IsPlacedAt text characters last
  pub around : IsAround number last e

-- a step makes a node with this label around the leaf of these characters
pub record IsNodeOf (labels : List (List ℕ)) (label text characters : List ℕ) (e : Entry) : Type 0 where
  pub number : ℕ
  pub is : IsNumber labels number label
  pub placed : IsPlacedAround number text characters e

-- a store's steps can be made, and it counts their trees
pub record IsWhole (s : Store) : Type 0 where
  pub counted : s.roots ≡ length (made s)
  pub all_fit : AllFit s.text.now s.labels.items [] s.entries.items
