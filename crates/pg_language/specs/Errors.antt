-- The errors of answers.
use Rattle.std.specs.Prelude.{ℕ, List, [], ◌∷◌, Option, Some, None, slice_get}
use Rattle.std.specs.Str.{encode_utf8_all}
use Rattle.pg_text.specs.Position.{position_of, start}
use Rattle.pg_text.specs.declared.position.Pos.{Pos}
use Rattle.pg_message.specs.Errors.{merged, labelled}
use Rattle.pg_message.specs.Messages.{Text, Messages, no_messages}
use Rattle.pg_message.specs.declared.answer.AnswerKind.{AnswerKind}
use Rattle.pg_message.specs.declared.error.ParseError.{ParseError}
use Rattle.pg_tree.specs.Json.{quoted}

-- the place and the messages of an error; its position follows from the text
pub record Error : Type 0 where
  pub place : ℕ
  pub messages : Messages

abbrev pub with_position : Pos → Error → ParseError
with_position position e = record { place = e.place; position = position; messages = e.messages }

abbrev pub without_position : ParseError → Error
without_position e = record { place = e.place; messages = e.messages }

-- the error with its position in a text
abbrev pub in_text : List ℕ → Error → ParseError
in_text text e = with_position (position_of text e.place) e

-- two errors merged, without positions
abbrev pub merge : Error → Error → Error
merge one other = without_position (merged (with_position start one) (with_position start other))

-- the error of a labelled parser that gave this kind of answer
abbrev pub relabel : AnswerKind → Text → Error → Error
relabel kind name e = without_position (labelled (with_position start e) kind name)

-- ---- messages

-- the characters in double quotes
abbrev pub quote : List ℕ → Text
quote characters = quoted (encode_utf8_all characters)

-- the next character in quotes, or the empty text at the end
abbrev pub next_text : Option ℕ → Text
next_text None = []
next_text (Some c) = quote (c ∷ [])

-- the message for what is at a place
abbrev pub seen_at : List ℕ → ℕ → Text
seen_at text i = next_text (slice_get text i)

abbrev pub no_messages_at : ℕ → Error
no_messages_at i = record { place = i; messages = no_messages }

-- an error with this message alone
abbrev pub stopped_by : Text → ℕ → Error
stopped_by seen i = record { place = i; messages = record no_messages { system_unexpected = seen ∷ [] } }

-- an error with this message, and that this was expected
abbrev pub stopped_before : Text → Text → ℕ → Error
stopped_before expected seen i =
    record { place = i; messages = record no_messages { system_unexpected = seen ∷ []; expected = expected ∷ [] } }

-- an error with a parser's own words
abbrev pub told : Text → ℕ → Error
told words i = record { place = i; messages = record no_messages { plain = words ∷ [] } }

-- an error with a parser's own word for what it refuses
abbrev pub refused : Text → ℕ → Error
refused unexpected i = record { place = i; messages = record no_messages { unexpected = unexpected ∷ [] } }

-- an error with a parser's own word for what it refuses, and that this was expected
abbrev pub refused_before : Text → Text → ℕ → Error
refused_before expected unexpected i =
    record { place = i; messages = record no_messages { unexpected = unexpected ∷ []; expected = expected ∷ [] } }
