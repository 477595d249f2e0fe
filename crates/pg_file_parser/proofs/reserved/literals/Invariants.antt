use Rattle.std.proofs.Common.{◌≡◌, length}
use Rattle.pg_file_tokens.specs.View.{tokens_of}
use Rattle.pg_file_parser.specs.Rests.{EndsWith}
use Rattle.pg_file_parser.specs.ItemReading.{literals_at}
use Rattle.pg_file_parser.proofs.ParserLemmas.Loop.{with_front}
use Rattle.pg_file_parser.proofs.reserved.literals.Given as goal

abbrev pub invariant-loop-alloc : goal.invariant-loop-alloc
invariant-loop-alloc l = record {
  read : with_front l.texts.items (literals_at (tokens_of l.rest)) ≡ literals_at (tokens_of l.tokens);
  rest : EndsWith l.tokens l.rest;
}

abbrev pub decreases-loop-alloc : goal.decreases-loop-alloc
decreases-loop-alloc l = length l.rest
