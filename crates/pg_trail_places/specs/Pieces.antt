-- The trees of a forest as leaves and beginnings and ends of nodes, in the order in which they are printed.
use Rattle.std.specs.Prelude.{ℕ, Bool, true, false, List, [], ◌∷◌, ◌++◌, map, codes, ◌&&◌, if◌then◌else◌}
use Rattle.pg_tree.specs.Kept.{Kept, Kepts, kept_leaf, kept_node, no_kepts, kept}
use Rattle.pg_tree.specs.Trees.{Tree, Trees, leaf, node, no_trees, tree}
use Rattle.pg_trail_places.specs.declared.stretch.Stretch.{Stretch}
use Rattle.pg_trail_places.specs.declared.piece.Piece.{Piece}
use Rattle.pg_trail_places.specs.declared.piece.Piece.TheVariants.{Leaf, Open, Close}
use Rattle.pg_trail_places.specs.PlacedTrees.{PlacedTree, PlacedTrees, placed_leaf, placed_node, no_placed, placed}
use Rattle.pg_trail_places.specs.PlacedJson.{leaf_json, head_json}

-- a leaf, or the beginning or the end of a node; with and without the stretch
pub data Part : Type 0 where
  leaf_part : List ℕ → Stretch → Part
  open_part : List ℕ → Stretch → Part
  close_part : Part

pub data Token : Type 0 where
  leaf_token : List ℕ → Token
  open_token : List ℕ → Token
  close_token : Token

abbrev pub token_of : Part → Token
token_of (leaf_part text at) = leaf_token text
token_of (open_part label at) = open_token label
token_of close_part = close_token

-- a piece as a part, and several
abbrev pub part_of : Piece → Part
part_of (Leaf text at) = leaf_part text.now at
part_of (Open label at) = open_part label.now at
part_of Close = close_part

abbrev pub parts_of : List Piece → List Part
parts_of ps = map part_of ps

abbrev pub tokens_of : List Piece → List Token
tokens_of ps = map token_of (parts_of ps)

-- the tokens of trees, and of those that kept trees show
abbrev mutual
  pub tree_tokens : Tree → List Token
  tree_tokens (leaf text) = leaf_token text ∷ []
  tree_tokens (node label kids) = open_token label ∷ (trees_tokens kids ++ close_token ∷ [])

  pub trees_tokens : Trees → List Token
  trees_tokens no_trees = []
  trees_tokens (tree t ts) = tree_tokens t ++ trees_tokens ts

abbrev mutual
  pub kept_tokens : Kept → List Token
  kept_tokens (kept_leaf text) = leaf_token text ∷ []
  kept_tokens (kept_node true label kids) = kepts_tokens kids
  kept_tokens (kept_node false label kids) = open_token label ∷ (kepts_tokens kids ++ close_token ∷ [])

  pub kepts_tokens : Kepts → List Token
  kepts_tokens no_kepts = []
  kepts_tokens (kept t ts) = kept_tokens t ++ kepts_tokens ts

-- the parts of trees with places
abbrev mutual
  pub placed_parts : PlacedTree → List Part
  placed_parts (placed_leaf text at) = leaf_part text at ∷ []
  placed_parts (placed_node label at kids) = open_part label at ∷ (placeds_parts kids ++ close_part ∷ [])

  pub placeds_parts : PlacedTrees → List Part
  placeds_parts no_placed = []
  placeds_parts (placed t ts) = placed_parts t ++ placeds_parts ts

-- whether a tree begins with a part, and whether one ends with it
abbrev pub begins : Part → Bool
begins (leaf_part text at) = true
begins (open_part label at) = true
begins close_part = false

abbrev pub is_end : Part → Bool
is_end (leaf_part text at) = true
is_end (open_part label at) = false
is_end close_part = true

-- what is printed of a part, and the comma before it if a tree ended before and another begins
abbrev pub part_json : List ℕ → Part → List ℕ
part_json text (leaf_part own at) = leaf_json text own at
part_json text (open_part label at) = head_json text label at
part_json text close_part = codes "]}"

abbrev pub comma_before : Bool → Part → List ℕ
comma_before later p = if later && begins p then codes "," else []

-- the text of parts, before which a tree ended or none did
abbrev pub parts_json : List ℕ → Bool → List Part → List ℕ
parts_json text later [] = []
parts_json text later (p ∷ ps) = comma_before later p ++ (part_json text p ++ parts_json text (is_end p) ps)
