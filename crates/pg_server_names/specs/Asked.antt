-- What is answered about the names of a file, given the list of them.
use Rattle.std.specs.Prelude.{ℕ, Bool, true, false, ◌&&◌, nat_le, if◌then◌else◌, List, [], length, map, filter, find, Option, Some, None, slice_range}
use Rattle.std.specs.Str.{bytes_eq}
use Rattle.std.specs.List.{list_any}
use Rattle.pg_file_tokens.specs.Lexical.{is_name}
use Rattle.pg_file_items.specs.Proper.{is_reserved}
use Rattle.pg_file_items.specs.declared.span.Span.{Span}
use Rattle.pg_server_names.specs.declared.sense.NameKind.{NameKind}
use Rattle.pg_server_names.specs.declared.sense.NameKind.TheVariants.{Rule, Class, Word}
use Rattle.pg_server_names.specs.declared.sense.Sense.{Sense}
use Rattle.pg_server_names.specs.declared.sense.Sense.TheVariants as sense
use Rattle.pg_server_names.specs.declared.sense.Which.{Which}
use Rattle.pg_server_names.specs.declared.sense.Which.TheVariants as which
use Rattle.pg_server_names.specs.declared.sense.Occurrence.{Occurrence}
use Rattle.pg_server_names.specs.declared.renaming.Refusal.{Refusal}
use Rattle.pg_server_names.specs.declared.renaming.Refusal.TheVariants as refusal

abbrev pub is_same : NameKind → NameKind → Bool
is_same Rule Rule = true
is_same Class Class = true
is_same Word Word = true
is_same k l = false

-- a name that the file defines or uses is of a kind
abbrev pub kind_of : Sense → Option NameKind
kind_of (sense.Defines k) = Some k
kind_of (sense.Uses k) = Some k
kind_of sense.Builder = None
kind_of sense.Keyword = None
kind_of sense.Stray = None

abbrev pub has_definitions : Which → Bool
has_definitions which.Definitions = true
has_definitions which.Uses = false
has_definitions which.Both = true

abbrev pub has_uses : Which → Bool
has_uses which.Definitions = false
has_uses which.Uses = true
has_uses which.Both = true

-- whether a name is asked for: the definitions of names of a kind, their uses, or both
abbrev pub is_asked : Which → NameKind → Sense → Bool
is_asked w k (sense.Defines l) = is_same l k && has_definitions w
is_asked w k (sense.Uses l) = is_same l k && has_uses w
is_asked w k sense.Builder = false
is_asked w k sense.Keyword = false
is_asked w k sense.Stray = false

-- the characters of a span, none where it passes the end
abbrev pub characters_in : List ℕ → Span → List ℕ
characters_in text span = if nat_le span.after (length text) then slice_range text span.first span.after else []

-- whether a name is asked for, and has these characters
abbrev pub is_found : List ℕ → Which → NameKind → List ℕ → Occurrence → Bool
is_found text w k characters o = is_asked w k o.sense && bytes_eq (characters_in text o.span) characters

abbrev pub span_of : Occurrence → Span
span_of o = o.span

-- where the names stand that are asked for
abbrev pub found : List ℕ → List Occurrence → Which → NameKind → List ℕ → List Span
found text names w k characters = map span_of (filter (is_found text w k characters) names)

-- ---- by a place

abbrev pub is_at : ℕ → Occurrence → Bool
is_at place o = nat_le o.span.first place && nat_le place o.span.after

-- the name at a place, or just behind it
abbrev pub name_at : List Occurrence → ℕ → Option Occurrence
name_at names place = find (λ o. is_at place o) names

abbrev pub found_of_kind : List ℕ → List Occurrence → Which → List ℕ → Option NameKind → List Span
found_of_kind text names w characters (Some k) = found text names w k characters
found_of_kind text names w characters None = []

-- where the names stand that have the kind and the characters of this one
abbrev pub like : List ℕ → List Occurrence → Which → Option Occurrence → List Span
like text names w (Some o) = found_of_kind text names w (characters_in text o.span) (kind_of o.sense)
like text names w None = []

-- ---- another name

-- a definition of a name of this kind with these characters
abbrev pub is_taken : List ℕ → List Occurrence → NameKind → List ℕ → Bool
is_taken text names k characters = list_any (is_found text which.Definitions k characters) names

abbrev pub is_class : NameKind → Bool
is_class Class = true
is_class Rule = false
is_class Word = false

-- why these characters can't name what is of this kind, given whether they are a predicate's name
abbrev pub refused : List ℕ → List Occurrence → NameKind → Bool → List ℕ → Option Refusal
refused text names k is_predicate new =
    if is_name new && nat_le (length new) 64 then
    (if is_reserved new then Some refusal.Reserved
    else if is_taken text names k new then Some refusal.Taken
    else if is_class k && is_predicate then Some refusal.Predicate
    else None)
    else Some refusal.NoName

abbrev pub why_of_kind : List ℕ → List Occurrence → Bool → List ℕ → List ℕ → Option NameKind → Option Refusal
why_of_kind text names is_predicate new characters None = Some refusal.NotDefined
why_of_kind text names is_predicate new characters (Some k) =
    if is_taken text names k characters then refused text names k is_predicate new else Some refusal.NotDefined

-- why these characters can't take the place of this name, which the file has to define
abbrev pub why : List ℕ → List Occurrence → Bool → List ℕ → Option Occurrence → Option Refusal
why text names is_predicate new None = Some refusal.NotDefined
why text names is_predicate new (Some o) = why_of_kind text names is_predicate new (characters_in text o.span) (kind_of o.sense)
