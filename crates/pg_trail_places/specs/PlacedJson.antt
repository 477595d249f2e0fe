-- The text in JSON of trees with places, compact, as bytes. A node's label stands before its kids.
use Rattle.std.specs.Prelude.{◌≡◌, ℕ, List, [], ◌++◌, length, codes}
use Rattle.std.specs.Fmt.{decimal}
use Rattle.pg_text.specs.Position.{position_of}
use Rattle.pg_tree.specs.Json.{quoted}
use Rattle.pg_tree.specs.Trees.{Tree, kids_of}
use Rattle.pg_trail_places.specs.declared.stretch.Stretch.{Stretch}
use Rattle.pg_trail_places.specs.PlacedTrees.{PlacedTree, PlacedTrees, placed_leaf, placed_node, no_placed, placed, without_places, AreWithin}

-- the members for a stretch: where it begins and ends, in characters from 0, and the line and the column at which it begins
abbrev pub stretch_json : List ℕ → Stretch → List ℕ
stretch_json text at =
    codes ",\"start\":" ++ (decimal at.start ++ (codes ",\"end\":" ++ (decimal at.end
    ++ (codes ",\"line\":" ++ (decimal (position_of text at.start).line ++ (codes ",\"column\":" ++ decimal (position_of text at.start).column))))))

-- a leaf, and what stands before a node's kids
abbrev pub leaf_json : List ℕ → List ℕ → Stretch → List ℕ
leaf_json text own at = codes "{\"text\":" ++ (quoted own ++ (stretch_json text at ++ codes "}"))

abbrev pub head_json : List ℕ → List ℕ → Stretch → List ℕ
head_json text label at = codes "{\"node\":" ++ (quoted label ++ (stretch_json text at ++ codes ",\"kids\":["))

-- the text of a tree, of trees with commas between them, and of trees with a comma before each
abbrev mutual
  pub placed_json : List ℕ → PlacedTree → List ℕ
  placed_json text (placed_leaf own at) = leaf_json text own at
  placed_json text (placed_node label at kids) = head_json text label at ++ (placed_kids text kids ++ codes "]}")

  pub placed_kids : List ℕ → PlacedTrees → List ℕ
  placed_kids text no_placed = []
  placed_kids text (placed t ts) = placed_json text t ++ placed_rest text ts

  pub placed_rest : List ℕ → PlacedTrees → List ℕ
  placed_rest text no_placed = []
  placed_rest text (placed t ts) = codes "," ++ (placed_json text t ++ placed_rest text ts)

-- a page has a forest with places in a text: without them it is the forest, and the trees lie in the text, one after the other and kids within their nodes
pub record IsPlacedPage (text : List ℕ) (forest : List Tree) (page : List ℕ) : Type 0 where
  pub trees : PlacedTrees
  pub same : without_places trees ≡ kids_of forest
  pub within : AreWithin text 0 (length text) trees
  pub written : page ≡ codes "[" ++ (placed_kids text trees ++ codes "]\n")

-- this holds of such a page
abbrev pub IsPlacedPageOf : List ℕ → List Tree → (List ℕ → Type 0) → Type 0
IsPlacedPageOf text forest Is = (page : List ℕ) × IsPlacedPage text forest page × Is page
