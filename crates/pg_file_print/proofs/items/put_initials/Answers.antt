use Rattle.std.proofs.Common.{◌≡◌, ◌+◌, ◌∷◌, map, drop, ap, sym, ◌∙◌}
use Rattle.std.proofs.lemmas.List.{drop_more}
use Rattle.pg_file_print.specs.Canonical.{table_item}
use Rattle.pg_file_items.specs.Syntax.{file_written}
use Rattle.pg_file_print.specs.Layout.{with_tokens}
use Rattle.pg_file_print.proofs.PrinterLemmas.Writing.{item_step}
use Rattle.pg_file_print.proofs.items.put_initials.Goals as goal

pub loop-initial-preserved : goal.loop-initial-preserved
loop-initial-preserved c =
    let items = c.args.initials.now in
    let rest = drop (c.loop-initial.initial-index + 1) items in
    let front : drop c.loop-initial.initial-index items ≡ c.initial-item.result ∷ rest =
    drop_more items c.loop-initial.initial-index c.initial-item.result c.loop-initial-test.true ∙ ap (λ x. x ∷ rest) (sym c.initial-item.is) in
    item_step c.loop-initial.out c.put_initial.new.out (table_item c.initial-item.result) (map table_item rest) c.in_ok-put_initial.ensures
    ∙ ap (λ l. with_tokens c.loop-initial.out (file_written (map table_item l))) (sym front)
    ∙ c.loop-initial.invariant
