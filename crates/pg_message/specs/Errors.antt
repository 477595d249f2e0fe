-- Errors: how two are merged, and what a label does to one.
use Rattle.std.specs.Prelude.{[], ◌∷◌, ◌&&◌, not, nat_lt, if◌then◌else◌}
use Rattle.pg_message.specs.Messages.{Text, is_empty, with_messages}
use Rattle.pg_message.specs.declared.answer.AnswerKind.{AnswerKind}
use Rattle.pg_message.specs.declared.answer.AnswerKind.TheVariants.{ConsumedOk, ConsumedError, EmptyOk, EmptyError}
use Rattle.pg_message.specs.declared.error.ParseError.{ParseError}

-- the error at the later place, or at the same place the first with the messages of both
abbrev pub later : ParseError → ParseError → ParseError
later one other = if nat_lt one.place other.place then other else
    if nat_lt other.place one.place then one else
    record one { messages = with_messages one.messages other.messages }

-- the error that has messages, if the other has none; otherwise the later one
abbrev pub merged : ParseError → ParseError → ParseError
merged one other = if is_empty one.messages && not (is_empty other.messages) then other else
    if is_empty other.messages && not (is_empty one.messages) then one else
    later one other

-- the error with this name as all that was expected
abbrev pub renamed : ParseError → Text → ParseError
renamed error name = record error { messages = record error.messages { expected = name ∷ [] } }

-- the error of a labelled parser, from the parser's answer and its error
abbrev pub labelled : ParseError → AnswerKind → Text → ParseError
labelled error ConsumedOk name = error
labelled error ConsumedError name = error
labelled error EmptyOk name = if is_empty error.messages then error else renamed error name
labelled error EmptyError name = renamed error name
