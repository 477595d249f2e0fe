use Rattle.std.proofs.Common.{length}
use Rattle.pg_file_tokens.proofs.LexerLemmas.Places.{LexedUpTo}
use Rattle.pg_file_tokens.proofs.LexerLemmas.Exact.{PlacedUpTo}
use Rattle.pg_file_tokens.proofs.lexer.lexemes.lex_up_to.Given as goal

abbrev pub invariant-loop-lexemes : goal.invariant-loop-lexemes
invariant-loop-lexemes l = record {
  lexed : LexedUpTo l.characters l.rest l.lexemes.items;
  exact : PlacedUpTo l.last l.characters l.rest l.lexemes.items;
}

abbrev pub decreases-loop-lexemes : goal.decreases-loop-lexemes
decreases-loop-lexemes l = length l.rest
