-- What stands around a token of a grammar file: the item that it is in, the parentheses that are open there, and the token before it. Tokens alone say so,
-- also in a file that can't be read.
use Rattle.std.specs.Prelude.{ℕ, ◌+◌, ◌==◌, min, nat_lt, if◌then◌else◌, Bool, true, false, List, [], ◌∷◌, drop, Option, Some, None, codes}
use Rattle.std.specs.Str.{bytes_eq}
use Rattle.pg_file_tokens.specs.declared.token.Mark.{Mark}
use Rattle.pg_file_tokens.specs.declared.token.Mark.TheVariants.{Open, Close, Comma, Semicolon, Equals, Bar, Dots}
use Rattle.pg_file_tokens.specs.Tokens.{Token, is_mark}
use Rattle.pg_file_items.specs.declared.words.FormWord.{FormWord}
use Rattle.pg_file_items.specs.declared.words.FormWord.TheVariants as word
use Rattle.pg_file_items.specs.Proper.{is_reserved}
use Rattle.pg_server_names.specs.declared.standing.ItemWord.{ItemWord}
use Rattle.pg_server_names.specs.declared.standing.ItemWord.TheVariants as item
use Rattle.pg_server_names.specs.declared.standing.Group.{Group}
use Rattle.pg_server_names.specs.declared.standing.Before.{Before}
use Rattle.pg_server_names.specs.declared.standing.Before.TheVariants as before
use Rattle.pg_server_names.specs.declared.standing.Next.{Next}
use Rattle.pg_server_names.specs.declared.standing.Next.TheVariants as next
use Rattle.pg_server_names.specs.declared.standing.Wanted.{Wanted}
use Rattle.pg_server_names.specs.declared.standing.Wanted.TheVariants as wants

-- the item, the open parentheses from the innermost, and what stands before
pub record Standing : Type 0 where
  pub item : Option ItemWord
  pub groups : List Group
  pub before : Before

-- before the first token
abbrev pub at_first : Standing
at_first = record { item = None; groups = []; before = before.Other }

-- ---- behind a token

abbrev pub next_token : Token → Next
next_token t = if is_mark Open t then next.Open else if is_mark Equals t then next.Equals else next.Other

-- what the next token is, of these tokens with their places
abbrev pub next_of : List (ℕ × Token) → Next
next_of [] = next.Other
next_of (l ∷ ls) = next_token l.1

-- ---- the beginning of an item

-- `word` begins an item, but not with a parenthesis, where it is the form
abbrev pub word_item : Next → Option ItemWord
word_item next.Open = None
word_item next.Equals = Some item.Word
word_item next.Other = Some item.Word

-- the other words that begin items
abbrev pub item_word : List ℕ → Next → Option ItemWord
item_word s n =
    if bytes_eq (codes "class") s then Some item.Class
    else if bytes_eq (codes "operators") s then Some item.Operators
    else if bytes_eq (codes "table") s then Some item.Table
    else if bytes_eq (codes "start") s then Some item.Start
    else if bytes_eq (codes "word") s then word_item n
    else None

-- before `=` a name begins a rule, unless `class` stands before it
abbrev pub rule_item : Before → Next → Option ItemWord
rule_item before.Class n = None
rule_item b next.Open = None
rule_item b next.Equals = Some item.Rule
rule_item b next.Other = None

-- the item that a name begins, if it begins one, wherever it stands
unfoldable pub begun : Before → List ℕ → Next → Option ItemWord
begun b s n = if is_reserved s then item_word s n else rule_item b n

-- ---- what is wanted at a place

-- as an argument of a form, counted from 0
abbrev pub wanted_in : FormWord → ℕ → Wanted
wanted_in (word.OfClass form) n = wants.Class
wanted_in word.String n = wants.Nothing
wanted_in word.Seq n = wants.Value
wanted_in (word.OfSome form) n = wants.Value
wanted_in (word.OfOne form) n = wants.Value
wanted_in (word.OfTwo form) n = wants.Value
wanted_in word.Between n = wants.Value
wanted_in (word.Chain side) n = if n == 0 then wants.Builder else wants.Value
wanted_in word.Expression n = if nat_lt n 3 then wants.Builder else wants.Value
wanted_in word.Build n = if n == 0 then wants.Builder else wants.Value
wanted_in word.Label n = if n == 0 then wants.Value else wants.Nothing
wanted_in word.Word n = wants.Word

-- outside of all parentheses
abbrev pub wanted_at : Option ItemWord → Wanted
wanted_at (Some item.Class) = wants.Class
wanted_at (Some item.Word) = wants.Class
wanted_at (Some item.Operators) = wants.Class
wanted_at (Some item.Table) = wants.Nothing
wanted_at (Some item.Start) = wants.Nothing
wanted_at (Some item.Rule) = wants.Value
wanted_at None = wants.Nothing

-- in parentheses that no form begins, as outside of all
abbrev pub wanted_by : Option FormWord → ℕ → Option ItemWord → Wanted
wanted_by (Some form) n i = wanted_in form n
wanted_by None n i = wanted_at i

-- no form's parentheses
abbrev pub plain : Group
plain = record { form = None; argument = 0 }

abbrev pub innermost : List Group → Group
innermost [] = plain
innermost (g ∷ gs) = g

abbrev pub has_group : List Group → Bool
has_group [] = false
has_group (g ∷ gs) = true

unfoldable pub wanted : Standing → Wanted
wanted s = wanted_by (innermost s.groups).form (innermost s.groups).argument s.item

-- ---- behind a mark

-- a parenthesis belongs to the form or the name before it; elsewhere, as in a class expression, it goes on with what is around it
abbrev pub opened : Before → List Group → Group
opened (before.Form form) gs = record { form = Some form; argument = 0 }
opened before.Name gs = plain
opened before.Class gs = innermost gs
opened before.Word gs = innermost gs
opened before.Start gs = innermost gs
opened before.End gs = innermost gs
opened before.Other gs = innermost gs

-- the next argument; 4 stands for all from the fifth on
abbrev pub with_comma : List Group → List Group
with_comma [] = []
with_comma (g ∷ gs) = record { form = g.form; argument = min g.argument 3 + 1 } ∷ gs

unfoldable pub after_mark : Mark → Standing → Standing
after_mark Open s = record { item = s.item; groups = opened s.before s.groups ∷ s.groups; before = before.Other }
after_mark Close s = record { item = s.item; groups = drop 1 s.groups; before = before.End }
after_mark Comma s = record { item = s.item; groups = with_comma s.groups; before = before.Other }
after_mark Semicolon s = at_first
after_mark Equals s = record { item = s.item; groups = s.groups; before = before.Other }
after_mark Bar s = record { item = s.item; groups = s.groups; before = before.Other }
after_mark Dots s = record { item = s.item; groups = s.groups; before = before.Other }
