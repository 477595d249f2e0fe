use Rattle.std.proofs.Common.{◌≡◌, length}
use Rattle.pg_file_tokens.specs.Lexing.{literal_at}
use Rattle.pg_file_tokens.proofs.LexerLemmas.Turns.{with_prefix}
use Rattle.pg_file_tokens.proofs.lexer.literal.literal.Given as goal

abbrev pub invariant-loop-rest : goal.invariant-loop-rest
invariant-loop-rest l = with_prefix l.is_wrong l.text.items (literal_at l.rest) ≡ literal_at l.characters

abbrev pub decreases-loop-rest : goal.decreases-loop-rest
decreases-loop-rest l = length l.rest
