-- Bytes written through a buffer.
use Rattle.std.specs.Prelude.{◌≡◌, ℕ, List, ◌++◌, Option}
use Rattle.std.specs.Fmt.{decimal}
use Rattle.std.specs.Io.KnownBytes.{Appends}
use Rattle.std.specs.List.{flat_map}
use Rattle.pg_text_pieces.specs.declared.piece.Piece.{Piece}
use Rattle.pg_text_pieces.specs.declared.piece.Piece.TheVariants.{Text, Number}

-- bytes were put after those that a buffer held: some of all these were sent to a writer, and the buffer holds the others
pub record Puts (before : Option (List ℕ)) (held : List ℕ) (after : Option (List ℕ)) (holds bytes : List ℕ) : Type 0 where
  pub sent : List ℕ
  pub written : Appends before after sent
  pub same : held ++ bytes ≡ sent ++ holds

-- the bytes of a piece, and those of several
abbrev pub piece_bytes : Piece → List ℕ
piece_bytes (Text text) = text.now
piece_bytes (Number n) = decimal n

abbrev pub pieces_bytes : List Piece → List ℕ
pieces_bytes = flat_map piece_bytes
