-- What an answer for a whole text says of it.
use Rattle.std.specs.Prelude.{Option, Some, None}
use Rattle.pg_message.specs.declared.error.ParseError.{ParseError}
use Rattle.pg_machine.specs.declared.answer.Answer.{Answer}
use Rattle.pg_machine.specs.declared.answer.Success.{Success}
use Rattle.pg_corpus_judging.specs.declared.came.Came.{Came}
use Rattle.pg_corpus_judging.specs.declared.came.Came.TheVariants.{Trees, Error}

abbrev pub end_with : ParseError → Option Success → Came
end_with e None = Error e
end_with e (Some s) = Trees s.forest

abbrev pub end_of : Answer → Came
end_of a = end_with a.error a.success
