use Rattle.std.proofs.Common.{◌≡◌, ◌+◌, ◌∷◌, map, drop, ap, sym, ◌∙◌}
use Rattle.std.proofs.lemmas.List.{drop_more}
use Rattle.pg_grammar_form.specs.ClassItems.{item_name}
use Rattle.pg_file_print.specs.Canonical.{word_item}
use Rattle.pg_file_items.specs.Syntax.{file_written}
use Rattle.pg_file_print.specs.Layout.{with_tokens}
use Rattle.pg_file_print.proofs.PrinterLemmas.Writing.{item_step}
use Rattle.pg_file_print.proofs.items.put_words.Goals as goal

pub loop-item-preserved : goal.loop-item-preserved
loop-item-preserved c =
    let items = c.args.items.now in
    let rest = drop (c.loop-item.item-index + 1) items in
    let front : drop c.loop-item.item-index items ≡ c.item-item.result ∷ rest =
    drop_more items c.loop-item.item-index c.item-item.result c.loop-item-test.true ∙ ap (λ x. x ∷ rest) (sym c.item-item.is) in
    item_step c.loop-item.out c.put_word_item.new.out ((word_item (map item_name c.args.classes.now)) c.item-item.result) (map (word_item (map item_name c.args.classes.now)) rest) c.in_ok-put_word_item.ensures
    ∙ ap (λ l. with_tokens c.loop-item.out (file_written (map (word_item (map item_name c.args.classes.now)) l))) (sym front)
    ∙ c.loop-item.invariant
