-- What is wanted, told apart by how it begins; 91 is `[`.
use Rattle.std.specs.Prelude.{◌==◌, ℕ, Bool, false, List, [], ◌∷◌, ◌++◌, Option, Some, None, codes, length, min, take, drop, slice_get, if◌then◌else◌}
use Rattle.std.specs.Str.{bytes_eq}
use Rattle.pg_corpus.specs.declared.wanted.Wanted.{Wanted}
use Rattle.pg_corpus.specs.declared.wanted.Wanted.TheVariants.{Accepted, Error, Json, Outline}

-- what is wanted: to be accepted; an error with some lines, or with none; JSON; an outline
pub data Kind : Type 0 where
  accepted : Kind
  error : List ℕ → Kind
  json : List ℕ → Kind
  outline : List ℕ → Kind

abbrev pub shown : Wanted → Kind
shown Accepted = accepted
shown (Error lines) = error lines.now
shown (Json text) = json text.now
shown (Outline text) = outline text.now

-- the lines behind a first line `error`, if there are any
abbrev pub error_lines : List ℕ → Option (List ℕ)
error_lines bytes = if bytes_eq (take (min (length bytes) 6) bytes) (codes "error" ++ 10 ∷ []) then Some (drop (min (length bytes) 6) bytes) else None

abbrev pub begins_json : Option ℕ → Bool
begins_json None = false
begins_json (Some b) = b == 91

-- bytes without a line feed at the end, told apart
abbrev pub error_or : Option (List ℕ) → Kind → Kind
error_or (Some lines) other = error lines
error_or None other = other

abbrev pub kind_of : List ℕ → Kind
kind_of bytes = if bytes_eq bytes (codes "accepted") then accepted else
    if bytes_eq bytes (codes "error") then error [] else
    error_or (error_lines bytes) (if begins_json (slice_get bytes 0) then json bytes else outline bytes)
