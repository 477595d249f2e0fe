-- The trees of a forest as leaves and beginnings and ends of nodes, in the order in which they are printed.
use Rattle.std.specs.Prelude.{ℕ, true, false, List, [], ◌∷◌, ◌++◌, map}
use Rattle.pg_tree.specs.Kept.{Kept, Kepts, kept_leaf, kept_node, no_kepts, kept}
use Rattle.pg_tree.specs.Trees.{Tree, Trees, leaf, node, no_trees, tree}
use Rattle.pg_corpus_outline.specs.declared.piece.Piece.{Piece}
use Rattle.pg_corpus_outline.specs.declared.piece.Piece.TheVariants.{Leaf, Open, Close}

-- a leaf, or the beginning or the end of a node
pub data Token : Type 0 where
  leaf_token : List ℕ → Token
  open_token : List ℕ → Token
  close_token : Token

-- a piece as a token, and several
abbrev pub token_of : Piece → Token
token_of (Leaf text) = leaf_token text.now
token_of (Open label) = open_token label.now
token_of Close = close_token

abbrev pub tokens_of : List Piece → List Token
tokens_of ps = map token_of ps

-- the tokens of trees, and of those that kept trees show
abbrev mutual
  pub tree_tokens : Tree → List Token
  tree_tokens (leaf text) = leaf_token text ∷ []
  tree_tokens (node label kids) = open_token label ∷ (trees_tokens kids ++ close_token ∷ [])

  pub trees_tokens : Trees → List Token
  trees_tokens no_trees = []
  trees_tokens (tree t ts) = tree_tokens t ++ trees_tokens ts

abbrev mutual
  pub kept_tokens : Kept → List Token
  kept_tokens (kept_leaf text) = leaf_token text ∷ []
  kept_tokens (kept_node true label kids) = kepts_tokens kids
  kept_tokens (kept_node false label kids) = open_token label ∷ (kepts_tokens kids ++ close_token ∷ [])

  pub kepts_tokens : Kepts → List Token
  kepts_tokens no_kepts = []
  kepts_tokens (kept t ts) = kept_tokens t ++ kepts_tokens ts
