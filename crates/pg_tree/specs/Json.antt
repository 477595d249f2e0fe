-- The text in JSON of trees, compact, as bytes.
use Rattle.std.specs.Prelude.{ℕ, List, [], ◌++◌, codes}
use Rattle.serde_json.specs.Data.{string}
use Rattle.serde_json.specs.Written.{compact_text}
use Rattle.pg_tree.specs.Trees.{Tree, Trees, leaf, node, no_trees, tree, kids_of}

-- a text in double quotes, with the escapes that `serde_json` writes
abbrev pub quoted : List ℕ → List ℕ
quoted text = compact_text (string text)

-- the text of a tree, of trees with commas between them, and of trees with a comma before each
abbrev mutual
  pub json_tree : Tree → List ℕ
  json_tree (leaf text) = quoted text
  json_tree (node label kids) =
      codes "{\"kids\":[" ++ (json_kids kids ++ (codes "],\"node\":" ++ (quoted label ++ codes "}")))

  pub json_kids : Trees → List ℕ
  json_kids no_trees = []
  json_kids (tree t ts) = json_tree t ++ json_rest ts

  pub json_rest : Trees → List ℕ
  json_rest no_trees = []
  json_rest (tree t ts) = codes "," ++ (json_tree t ++ json_rest ts)

-- the text of a forest: an array of its trees
abbrev pub json : List Tree → List ℕ
json ts = codes "[" ++ (json_kids (kids_of ts) ++ codes "]")
