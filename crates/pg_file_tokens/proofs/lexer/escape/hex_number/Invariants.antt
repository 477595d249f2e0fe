use Rattle.std.proofs.Common.{◌≡◌, ◌^◌, ◌<◌, drop}
use Rattle.std.specs.Str.Parse.{digits_value, digits_value_after}
use Rattle.pg_file_tokens.specs.Lexical.{passes, is_hex}
use Rattle.pg_file_tokens.proofs.lexer.escape.hex_number.Given as goal

abbrev pub invariant-loop-digit : goal.invariant-loop-digit
invariant-loop-digit l = record {
  so_far : digits_value_after 16 l.value (drop l.digit-index l.digits) ≡ digits_value 16 l.digits;
  hex : passes is_hex (drop l.digit-index l.digits) ≡ passes is_hex l.digits;
  small : l.value < 16 ^ l.digit-index;
}
