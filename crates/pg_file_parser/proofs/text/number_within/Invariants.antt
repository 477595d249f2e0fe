use Rattle.std.proofs.Common.{◌≡◌, ◌≤◌, drop}
use Rattle.std.specs.Str.Parse.{digits_value, digits_value_after}
use Rattle.pg_file_tokens.specs.Lexical.{passes}
use Rattle.pg_file_items.specs.Proper.{is_decimal}
use Rattle.pg_file_parser.proofs.text.number_within.Given as goal

abbrev pub invariant-loop-digit : goal.invariant-loop-digit
invariant-loop-digit l = record {
  so_far : digits_value_after 10 l.value (drop l.digit-index l.digits) ≡ digits_value 10 l.digits;
  decimal : passes is_decimal (drop l.digit-index l.digits) ≡ passes is_decimal l.digits;
  small : l.value ≤ l.most;
}
