use Rattle.std.proofs.Common.{◌≡◌, ◌+◌, ◌-◌, ◌*◌}
use Rattle.pg_file_tokens.specs.declared.token.Mark.TheVariants.{Comma}
use Rattle.pg_file_tokens.specs.View.{tokens_of}
use Rattle.pg_file_parser.specs.Rests.{EndsWith}
use Rattle.pg_file_parser.specs.Places.{AreAllInPlace}
use Rattle.pg_file_parser.specs.Given.{bodies_of}
use Rattle.pg_file_parser.specs.Reading.{more_at, value_at}
use Rattle.pg_file_parser.proofs.ParserLemmas.Loop.{with_front}
use Rattle.pg_file_parser.proofs.value.+value.Given as goal

abbrev pub decreases-value : goal.decreases-value
decreases-value l = 5 * l.depth

abbrev pub decreases-label : goal.decreases-label
decreases-label l = 5 * l.depth + 1

abbrev pub decreases-more_values : goal.decreases-more_values
decreases-more_values l = 5 * l.depth + 1

abbrev pub decreases-values : goal.decreases-values
decreases-values l = 5 * l.depth + 2

abbrev pub decreases-around : goal.decreases-around
decreases-around l = 5 * l.depth + 3

abbrev pub decreases-seq : goal.decreases-seq
decreases-seq l = 5 * l.depth + 3

abbrev pub decreases-of_some : goal.decreases-of_some
decreases-of_some l = 5 * l.depth + 3

abbrev pub decreases-form : goal.decreases-form
decreases-form l = 5 * l.depth + 4

abbrev pub invariant-more_values-loop : goal.invariant-more_values-loop
invariant-more_values-loop l = record {
  read : with_front (bodies_of l.values.items) (more_at Comma (value_at l.depth) (l.most - l.counter) (tokens_of l.rest)) ≡ more_at Comma (value_at l.depth) l.most (tokens_of l.tokens);
  places : AreAllInPlace l.tokens l.values.items;
  rest : EndsWith l.tokens l.rest;
}
