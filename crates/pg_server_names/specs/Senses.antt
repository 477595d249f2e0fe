-- What the names of a grammar file are: definitions, uses, builders and words.
use Rattle.std.specs.Prelude.{ℕ, ◌+◌, ◌-◌, ◌^◌, min, ◌||◌, if◌then◌else◌, Bool, true, false, List, [], ◌∷◌, ◌++◌, length, Option, Some, None, codes}
use Rattle.std.specs.Option.{option_to_list}
use Rattle.std.specs.Str.{bytes_eq}
use Rattle.pg_file_tokens.specs.Tokens.{Token, name, number, literal, mark, wrong, bad}
use Rattle.pg_file_items.specs.declared.words.FormWord.{FormWord}
use Rattle.pg_file_items.specs.Words.{form_word}
use Rattle.pg_file_items.specs.Proper.{is_reserved}
use Rattle.pg_server_names.specs.declared.standing.ItemWord.{ItemWord}
use Rattle.pg_server_names.specs.declared.standing.ItemWord.TheVariants as item
use Rattle.pg_server_names.specs.declared.standing.Group.{Group}
use Rattle.pg_server_names.specs.declared.standing.Before.{Before}
use Rattle.pg_server_names.specs.declared.standing.Before.TheVariants as before
use Rattle.pg_server_names.specs.declared.standing.Next.{Next}
use Rattle.pg_server_names.specs.declared.standing.Wanted.{Wanted}
use Rattle.pg_server_names.specs.declared.standing.Wanted.TheVariants as wants
use Rattle.pg_server_names.specs.declared.sense.NameKind.TheVariants as kind
use Rattle.pg_server_names.specs.declared.sense.Sense.{Sense}
use Rattle.pg_server_names.specs.declared.sense.Sense.TheVariants as sense
use Rattle.pg_server_names.specs.declared.sense.Occurrence.{Occurrence}
use Rattle.pg_server_names.specs.Surroundings.{Standing, begun, wanted, after_mark, next_of}

-- where this is wanted
abbrev pub sense_where : Wanted → Sense
sense_where wants.Value = sense.Uses kind.Rule
sense_where wants.Class = sense.Uses kind.Class
sense_where wants.Word = sense.Uses kind.Word
sense_where wants.Builder = sense.Builder
sense_where wants.Nothing = sense.Stray

-- a name or the end of a class expression
abbrev pub is_ended : Before → Bool
is_ended before.Name = true
is_ended before.End = true
is_ended before.Class = false
is_ended before.Word = false
is_ended before.Start = false
is_ended (before.Form form) = false
is_ended before.Other = false

-- outside of the parentheses of a `word` item
abbrev pub is_in_word : Option ItemWord → List Group → Bool
is_in_word (Some item.Word) [] = true
is_in_word i gs = false

-- `head` and `rest` of a `word` item: behind its name and behind a class expression
abbrev pub is_part_word : Standing → List ℕ → Bool
is_part_word s n = if is_in_word s.item s.groups then (if is_ended s.before then bytes_eq (codes "head") n || bytes_eq (codes "rest") n else false) else false

-- by the token before it: behind `class`, `word` and `start` stands a name that the item defines or uses
abbrev pub sense_behind : Before → Wanted → Sense
sense_behind before.Class w = sense.Defines kind.Class
sense_behind before.Word w = sense.Defines kind.Word
sense_behind before.Start w = sense.Uses kind.Rule
sense_behind (before.Form form) w = sense_where w
sense_behind before.Name w = sense_where w
sense_behind before.End w = sense_where w
sense_behind before.Other w = sense_where w

-- a name that isn't reserved defines a rule where it begins one
abbrev pub sense_free : Option ItemWord → Before → Wanted → Sense
sense_free (Some i) b w = sense.Defines kind.Rule
sense_free None b w = sense_behind b w

-- what a name is
unfoldable pub sense_of : Standing → List ℕ → Next → Sense
sense_of s n next =
    if is_reserved n then sense.Keyword
    else if is_part_word s n then sense.Keyword
    else sense_free (begun s.before n next) s.before (wanted s)

-- ---- behind a token

-- behind a word that begins no item
abbrev pub before_form : Option FormWord → Before
before_form (Some form) = before.Form form
before_form None = before.Other

abbrev pub before_word : Option ItemWord → List ℕ → Before
before_word (Some item.Class) n = before.Class
before_word (Some item.Word) n = before.Word
before_word (Some item.Start) n = before.Start
before_word (Some item.Operators) n = before.Other
before_word (Some item.Table) n = before.Other
before_word (Some item.Rule) n = before.Other
before_word None n = before_form (form_word n)

-- behind a name
abbrev pub before_name : Sense → Option ItemWord → List ℕ → Before
before_name (sense.Defines k) i n = before.Name
before_name (sense.Uses k) i n = before.Name
before_name sense.Builder i n = before.Name
before_name sense.Stray i n = before.Name
before_name sense.Keyword i n = before_word i n

abbrev pub in_item : Option ItemWord → Standing → Before → Standing
in_item (Some i) s b = record { item = Some i; groups = []; before = b }
in_item None s b = record { item = s.item; groups = s.groups; before = b }

unfoldable pub after_name : Standing → List ℕ → Next → Standing
after_name s n next = in_item (begun s.before n next) s (before_name (sense_of s n next) (begun s.before n next) n)

abbrev pub after_token : Standing → Token → Next → Standing
after_token s (name n) next = after_name s n next
after_token s (mark m) next = after_mark m s
after_token s (number n) next = record { item = s.item; groups = s.groups; before = before.End }
after_token s (literal n) next = record { item = s.item; groups = s.groups; before = before.End }
after_token s wrong next = record { item = s.item; groups = s.groups; before = before.End }
after_token s bad next = record { item = s.item; groups = s.groups; before = before.End }

-- ---- all names

-- the place behind some characters; places are numbers of 64 bits, and no file is that long
abbrev pub behind : ℕ → ℕ → ℕ
behind place count = min (place + count) (2 ^ 64 - 1)

-- a token at a place, if it is a name
abbrev pub named : ℕ → Standing → Token → Next → Option Occurrence
named place s (name n) next = Some (record { span = record { first = place; after = behind place (length n) }; sense = sense_of s n next })
named place s (number n) next = None
named place s (literal n) next = None
named place s (mark m) next = None
named place s wrong next = None
named place s bad next = None

-- the names among the tokens that stand there
unfoldable pub names_in : Standing → List (ℕ × Token) → List Occurrence
names_in s [] = []
names_in s (l ∷ ls) = option_to_list (named l.0 s l.1 (next_of ls)) ++ names_in (after_token s l.1 (next_of ls)) ls
