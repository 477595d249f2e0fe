-- How far a forest's entries have been read, from the last to the first.
use Rattle.std.specs.Prelude.{◌≡◌, ◌<◌, ℕ, List, [], ◌∷◌, ◌++◌, length, reverse}
use Rattle.pg_tree.specs.Kept.{Kept, kepts_of}
use Rattle.pg_tree.specs.Stored.{entries_of}
use Rattle.pg_corpus_outline.specs.declared.reading.OpenNode.{OpenNode}
use Rattle.pg_corpus_outline.specs.declared.reading.Reading.{Reading}
use Rattle.pg_corpus_outline.specs.Pieces.{Token, open_token, tokens_of, kepts_tokens}

-- the tokens of a list of trees
abbrev pub list_tokens : List Kept → List Token
list_tokens ts = kepts_tokens (kepts_of ts)

-- tokens still to be read: those before the innermost open node, its beginning, and those in it
pub record AwaitsIn (outer : List Kept → List Token → Type 0) (first : OpenNode) (ts : List Kept) (left : List Token) : Type 0 where
  pub before : List Kept
  pub inside : List Kept
  pub earlier : List Token
  pub trees : ts ≡ before ++ inside
  pub begins : first.begin ≡ length (entries_of before)
  pub awaits : outer before earlier
  pub tokens : left ≡ earlier ++ open_token first.label.now ∷ list_tokens inside

-- tokens still to be read of these trees, with the open nodes in which they are, the innermost first
abbrev pub Awaits : List OpenNode → List Kept → List Token → Type 0
Awaits [] ts left = left ≡ list_tokens ts
Awaits (first ∷ outer) ts left = AwaitsIn (Awaits outer) first ts left

-- these are all the tokens: those still to be read, and those of the pieces so far, the last of which comes first
pub record Reads (reading : Reading) (all : List Token) : Type 0 where
  pub left : List Token
  pub awaits : Awaits (reverse reading.opened.items) reading.entries left
  pub read : all ≡ left ++ tokens_of (reverse reading.pieces.items)

-- the innermost open node begins before this many entries
abbrev pub AreBefore : ℕ → List OpenNode → Type 0
AreBefore count [] = Unit {0}
AreBefore count (first ∷ outer) = first.begin < count
