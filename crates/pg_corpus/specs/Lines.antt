-- Lines of a corpus file, as bytes: 10 is a line feed, 35 `#`, 45 `-`, 61 `=`.
use Rattle.std.specs.Prelude.{◌≡◌, ◌⊎◌, ◌==◌, ◌||◌, ◌&&◌, ◌+◌, ◌-◌, ◌<◌, ℕ, Bool, true, false, not, List, [], ◌∷◌, ◌++◌, Option, Some, None, length, take, slice_get, nat_le, if◌then◌else◌}
use Rattle.std.specs.List.{list_all, position_or_len, prefix_len}
use Rattle.pg_corpus.specs.declared.lines.Part.{Part}
use Rattle.pg_corpus.specs.declared.lines.Part.TheVariants.{Around, Between, Wanted}

-- the lines of some bytes, each with its line feed, which the last one need not have
abbrev pub before_lines : ℕ → List (List ℕ) → List (List ℕ)
before_lines b [] = (b ∷ []) ∷ []
before_lines b (l ∷ ls) = if b == 10 then (b ∷ []) ∷ (l ∷ ls) else (b ∷ l) ∷ ls

abbrev pub lines : List ℕ → List (List ℕ)
lines [] = []
lines (b ∷ bs) = before_lines b (lines bs)

-- whether a line begins behind these bytes: they are none, or end with a line feed
abbrev pub ends_line : List ℕ → Bool
ends_line [] = true
ends_line (b ∷ []) = b == 10
ends_line (b ∷ (c ∷ bs)) = ends_line (c ∷ bs)

-- the first line
abbrev pub first_line : List ℕ → List ℕ
first_line bytes = take (position_or_len (λ b. b == 10) bytes + 1) bytes

-- the bytes without the line feed at their end
abbrev pub is_feed : Option ℕ → Bool
is_feed None = false
is_feed (Some b) = b == 10

abbrev pub without_feed : List ℕ → List ℕ
without_feed bytes = if is_feed (slice_get bytes (length bytes - 1)) then take (length bytes - 1) bytes else bytes

-- how many `=` a line begins with
abbrev pub equals : List ℕ → ℕ
equals line = prefix_len (λ b. b == 61) line

-- whether a line begins a case: with three or more `=`, and a blank or the line's end behind them
abbrev pub ends_mark : Option ℕ → Bool
ends_mark None = true
ends_mark (Some b) = b == 32 || b == 10

abbrev pub begins_case : List ℕ → Bool
begins_case line = nat_le 3 (equals line) && ends_mark (slice_get line (equals line))

-- whether a line has so many `-` and nothing else
abbrev pub is_rule : ℕ → List ℕ → Bool
is_rule size line = length (without_feed line) == size && list_all (λ b. b == 45) (without_feed line)

-- whether a line is blank, or a comment
abbrev pub is_blank : List ℕ → Bool
is_blank line = list_all (λ b. b == 32 || (b == 9 || (b == 13 || b == 10))) line

abbrev pub begins_comment : Option ℕ → Bool
begins_comment None = false
begins_comment (Some b) = b == 35

abbrev pub is_around : List ℕ → Bool
is_around line = is_blank line || begins_comment (slice_get line 0)

-- whether a line belongs to a part: what stands around what is wanted; a text, whose end has so many `-`; what is wanted
abbrev pub belongs : Part → List ℕ → Bool
belongs Around line = is_around line
belongs (Between size) line = not (is_rule size line)
belongs Wanted line = not (is_around line || begins_case line)

-- bytes are cut behind the lines that belong to a part
pub record IsCut (part : Part) (bytes front rest : List ℕ) : Type 0 where
  pub joined : bytes ≡ front ++ rest
  pub belong : list_all (belongs part) (lines front) ≡ true
  pub ends : (ends_line front ≡ true) ⊎ (rest ≡ [])
  pub stops : 0 < length rest → belongs part (first_line rest) ≡ false

-- whether bytes can stand as what a case wants: they are lines of it, and have a last byte, which is no line feed
abbrev pub ends_with_text : Option ℕ → Bool
ends_with_text None = false
ends_with_text (Some b) = not (b == 10)

abbrev pub can_be_wanted : List ℕ → Bool
can_be_wanted bytes = list_all (belongs Wanted) (lines bytes) && ends_with_text (slice_get bytes (length bytes - 1))
