-- Outlines of trees: a line for each node and leaf. 10 is a line feed, 32 a blank, 34 a quote, 62 `>`, 92 a backslash.
use Rattle.std.specs.Prelude.{◌==◌, ◌||◌, ◌&&◌, ◌+◌, ◌-◌, ◌*◌, min, ℕ, Bool, true, false, not, List, [], ◌∷◌, ◌++◌, Option, Some, None, codes, length, take, replicate, slice_get, is_some, nat_lt, if◌then◌else◌}
use Rattle.std.specs.Fmt.{decimal}
use Rattle.std.specs.List.{list_all}
use Rattle.std.specs.Str.{bytes_eq}
use Rattle.pg_tree.specs.Json.{quoted}
use Rattle.pg_tree.specs.Trees.{Tree, Trees, leaf, node, no_trees, tree, kids_of}
use Rattle.pg_corpus_outline.specs.Pieces.{Token, leaf_token, open_token, close_token}

-- whether a byte can stand in a word: it is no blank, and JSON doesn't escape it
abbrev pub is_plain : ℕ → Bool
is_plain b = nat_lt 32 b && not (b == 34 || b == 92)

-- whether a label is taken for something else by how it begins, or by how it ends: with `=`, `-`, `#` or `[`, or with `>`
abbrev pub begins_otherwise : Option ℕ → Bool
begins_otherwise None = true
begins_otherwise (Some b) = b == 61 || (b == 45 || (b == 35 || b == 91))

abbrev pub ends_otherwise : Option ℕ → Bool
ends_otherwise None = true
ends_otherwise (Some b) = b == 62

-- whether it is a word that a case says something else by
abbrev pub is_reserved : List ℕ → Bool
is_reserved label = bytes_eq label (codes "error") || (bytes_eq label (codes "accepted") || bytes_eq label (codes "node"))

-- whether a label stands as it is
abbrev pub is_word : List ℕ → Bool
is_word label = list_all is_plain label
    && not (begins_otherwise (slice_get label 0) || (ends_otherwise (slice_get label (length label - 1)) || is_reserved label))

-- how a label is written
abbrev pub name_of : List ℕ → List ℕ
name_of label = if is_word label then label else codes "node " ++ quoted label

-- two blanks for each node around a line, up to 40; then the number of nodes
abbrev pub indentation : ℕ → List ℕ
indentation depth = replicate (2 * min depth 40) 32 ++ (if nat_lt 40 depth then decimal depth ++ codes "> " else [])

-- a line
abbrev pub line : ℕ → List ℕ → List ℕ
line depth body = indentation depth ++ (body ++ 10 ∷ [])

-- the text of a leaf that is all that is in a node, which stands on the node's line
abbrev pub sole : Trees → Option (List ℕ)
sole no_trees = None
sole (tree (node label kids) ts) = None
sole (tree (leaf text) (tree t ts)) = None
sole (tree (leaf text) no_trees) = Some text

abbrev pub beside : Option (List ℕ) → List ℕ
beside None = []
beside (Some text) = 32 ∷ quoted text

abbrev pub unless_beside : Option (List ℕ) → List ℕ → List ℕ
unless_beside None lines = lines
unless_beside (Some text) lines = []

-- the lines of trees in so many nodes
abbrev pub outline : ℕ → Trees → List ℕ
outline depth no_trees = []
outline depth (tree (leaf text) ts) = line depth (quoted text) ++ outline depth ts
outline depth (tree (node label kids) ts) = line depth (name_of label ++ beside (sole kids))
    ++ (unless_beside (sole kids) (outline (depth + 1) kids) ++ outline depth ts)

-- the outline of a forest, without the last line feed; of no trees, an empty array of JSON, since a case has to want something
abbrev pub forest_outline : List Tree → List ℕ
forest_outline [] = codes "[]"
forest_outline (t ∷ ts) = take (length (outline 0 (kids_of (t ∷ ts))) - 1) (outline 0 (kids_of (t ∷ ts)))

-- the same along tokens: the leaf behind a node's beginning, if its end comes next
abbrev pub sole_token : List Token → Option (List ℕ)
sole_token (leaf_token text ∷ (close_token ∷ ts)) = Some text
sole_token _ = None

-- what is printed of a token; a leaf beside its node is silent
abbrev pub token_bytes : Bool → ℕ → Token → Option (List ℕ) → List ℕ
token_bytes silent depth (leaf_token text) next = if silent then [] else line depth (quoted text)
token_bytes silent depth (open_token label) next = line depth (name_of label ++ beside next)
token_bytes silent depth close_token next = []

abbrev pub silent_after : Token → Option (List ℕ) → Bool
silent_after (leaf_token text) next = false
silent_after (open_token label) next = is_some next
silent_after close_token next = false

abbrev pub depth_after : ℕ → Token → ℕ
depth_after depth (leaf_token text) = depth
depth_after depth (open_token label) = depth + 1
depth_after depth close_token = depth - 1

abbrev pub tokens_page : Bool → ℕ → List Token → List ℕ
tokens_page silent depth [] = []
tokens_page silent depth (t ∷ ts) = token_bytes silent depth t (sole_token ts) ++ tokens_page (silent_after t (sole_token ts)) (depth_after depth t) ts
