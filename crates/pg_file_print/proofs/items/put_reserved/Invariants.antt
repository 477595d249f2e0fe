use Rattle.std.proofs.Common.{◌≡◌, [], drop}
use Rattle.pg_file_items.specs.Syntax.{literals_written, reserved_written}
use Rattle.pg_file_print.specs.Layout.{with_tokens}
use Rattle.pg_file_print.proofs.items.put_reserved.Given as goal

abbrev pub invariant-loop-text : goal.invariant-loop-text
invariant-loop-text l = with_tokens l.out (literals_written (drop l.text-index l.texts) []) ≡ with_tokens l.fn.out (reserved_written l.fn.reserved [])
