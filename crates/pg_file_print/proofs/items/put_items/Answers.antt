use Rattle.std.proofs.Common.{◌≡◌, ◌∷◌, ◌++◌, List, map, ap, ◌∙◌}
use Rattle.pg_grammar_form.specs.ClassItems.{item_name}
use Rattle.pg_grammar_value.specs.Grammar.{rule_names}
use Rattle.pg_grammar_form.specs.Names.{name_at}
use Rattle.pg_grammar_form.specs.Operators.{Operator}
use Rattle.pg_grammar_form.specs.declared.class_item.ClassItem.{ClassItem}
use Rattle.pg_grammar_form.specs.declared.word_item.WordItem.{WordItem}
use Rattle.pg_file_items.specs.Tree.{Item, Start}
use Rattle.pg_file_items.specs.Syntax.{file_written}
use Rattle.pg_file_print.specs.Canonical.{class_names, class_item, word_item, operators_items, table_item, rule_items}
use Rattle.pg_file_print.specs.Layout.{with_tokens}
use Rattle.pg_file_print.specs.Levels.{node_values}
use Rattle.pg_file_print.proofs.PrinterLemmas.Tokens.{on_ok}
use Rattle.pg_file_print.proofs.PrinterLemmas.Writing.{item_step, items_step}
use Rattle.pg_file_print.proofs.items.put_items.Goals as goal

pub returns : goal.returns
returns c =
    let g = c.args.grammar.now in
    let names = class_names g in
    let out = c.args.out.now in
    let start : Item = Start (name_at (rule_names g) g.start) in
    let rules : List Item = rule_items (rule_names g) (node_values g g.nodes) in
    let table : List Item = map table_item g.initials in
    let operators : List Item = operators_items names g.operators in
    let words : List Item = map (word_item names) g.words in
    let classes : List Item = map (class_item names) g.classes in
    let with_classes : c.put_classes.new.out ≡ with_tokens out (file_written classes) =
    c.in_ok-put_classes.ensures ∙ ap (λ (items : List ClassItem). with_tokens out (file_written (map (class_item (map item_name items)) items))) c.class_items.ensures.all in
    let with_words : c.put_words.new.out ≡ with_tokens c.put_classes.new.out (file_written words) =
    c.in_ok-put_words.ensures
    ∙ ap (λ (items : List ClassItem). with_tokens c.put_classes.new.out (file_written (map (word_item (map item_name items)) c.word_items.result.now))) c.class_items-2.ensures.all
    ∙ ap (λ (items : List WordItem). with_tokens c.put_classes.new.out (file_written (map (word_item names) items))) c.word_items.ensures.all in
    let with_table : c.put_initials.new.out ≡ with_tokens c.put_operators.new.out (file_written table) =
    c.in_ok-put_initials.ensures ∙ ap (λ (items : List Operator). with_tokens c.put_operators.new.out (file_written (map table_item items))) c.initials.ensures.all in
    on_ok c.put_rules.result
    (λ e. e ∙ item_step c.put_initials.new.out c.put_start.new.out start rules c.in_ok-put_start.ensures
    ∙ items_step c.put_operators.new.out c.put_initials.new.out table (start ∷ rules) with_table
    ∙ items_step c.put_words.new.out c.put_operators.new.out operators (table ++ (start ∷ rules)) c.in_ok-put_operators.ensures
    ∙ items_step c.put_classes.new.out c.put_words.new.out words (operators ++ (table ++ (start ∷ rules))) with_words
    ∙ items_step out c.put_classes.new.out classes (words ++ (operators ++ (table ++ (start ∷ rules)))) with_classes)
    c.put_rules.ensures
