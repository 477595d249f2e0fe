use Rattle.std.proofs.Common.{◌≡◌, drop, map}
use Rattle.pg_file_items.specs.Syntax.{file_written}
use Rattle.pg_file_print.specs.Layout.{with_tokens}
use Rattle.pg_grammar_form.specs.ClassItems.{item_name}
use Rattle.pg_file_print.specs.Canonical.{word_item}
use Rattle.pg_file_print.proofs.items.put_words.Given as goal

abbrev pub invariant-loop-item : goal.invariant-loop-item
invariant-loop-item l = with_tokens l.out (file_written (map (word_item (map item_name l.classes)) (drop l.item-index l.items))) ≡ with_tokens l.fn.out (file_written (map (word_item (map item_name l.classes)) l.items))
