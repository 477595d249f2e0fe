use Rattle.std.proofs.Common.{length}
use Rattle.pg_file_tokens.specs.View.{tokens_of}
use Rattle.pg_file_items.specs.Entries.{entries_of}
use Rattle.pg_file_parser.specs.Rests.{EndsWith}
use Rattle.pg_file_parser.specs.Places.{AreItemsInPlace}
use Rattle.pg_file_parser.specs.ItemReading.{file_at}
use Rattle.pg_file_parser.proofs.ParserLemmas.Files.{ItemsLeft}
use Rattle.pg_file_parser.proofs.items.all_items.Given as goal

abbrev pub invariant-loop-rest : goal.invariant-loop-rest
invariant-loop-rest l = record {
  read : ItemsLeft l.allowance (tokens_of l.rest) (entries_of l.items.items) (file_at (tokens_of l.fn.lexemes));
  places : AreItemsInPlace l.fn.lexemes l.items.items;
  rest : EndsWith l.fn.lexemes l.rest;
}

abbrev pub decreases-loop-rest : goal.decreases-loop-rest
decreases-loop-rest l = length l.rest
