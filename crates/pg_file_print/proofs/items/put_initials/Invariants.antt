use Rattle.std.proofs.Common.{◌≡◌, drop, map}
use Rattle.pg_file_items.specs.Syntax.{file_written}
use Rattle.pg_file_print.specs.Layout.{with_tokens}
use Rattle.pg_file_print.specs.Canonical.{table_item}
use Rattle.pg_file_print.proofs.items.put_initials.Given as goal

abbrev pub invariant-loop-initial : goal.invariant-loop-initial
invariant-loop-initial l = with_tokens l.out (file_written (map table_item (drop l.initial-index l.initials))) ≡ with_tokens l.fn.out (file_written (map table_item l.initials))
