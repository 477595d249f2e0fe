-- At most five digits are read already, so the sixth still fits.
use Rattle.std.proofs.Common.{arith}
use Rattle.pg_file_tokens.proofs.LexerLemmas.Hex.{hex_small}
use Rattle.pg_file_tokens.proofs.lexer.escape.hex_number.Goals as goal

pub overflow_mul-value : goal.overflow_mul-value
overflow_mul-value c =
    omega (arith, hex_small c.loop-digit.value c.loop-digit.digit-index c.loop-digit.invariant.small (omega arith))

pub overflow_add-value : goal.overflow_add-value
overflow_add-value c =
    omega (arith, hex_small c.loop-digit.value c.loop-digit.digit-index c.loop-digit.invariant.small (omega arith), c.in_ok-value.ensures.value)
