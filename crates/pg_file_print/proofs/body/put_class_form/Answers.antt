use Rattle.std.proofs.Common.{◌≡◌, [], ◌∷◌, map, List, ap, ◌∙◌}
use Rattle.pg_grammar_form.specs.ClassItems.{item_name}
use Rattle.pg_grammar_form.specs.declared.class_item.ClassItem.{ClassItem}
use Rattle.pg_file_tokens.specs.declared.token.Mark.TheVariants.{Close}
use Rattle.pg_file_tokens.specs.Tokens.{Token, mark}
use Rattle.pg_file_items.specs.Syntax.{class_written, opened}
use Rattle.pg_file_print.specs.Canonical.{class_from, class_names}
use Rattle.pg_file_print.specs.Layout.{Laid, with_tokens}
use Rattle.pg_file_print.specs.Levels.{ended}
use Rattle.pg_file_print.proofs.PrinterLemmas.Tokens.{laid_both, on_ok}
use Rattle.pg_file_print.proofs.body.put_class_form.Goals as goal

pub returns-clause-text : goal.returns-clause-text
returns-clause-text c =
    let out = c.args.out.now in
    let front : Laid = with_tokens out (opened c.args.word.now []) in
    let class : List Token = class_written (class_from (class_names c.args.grammar.now) c.args.class.now) [] in
    let end : List Token = mark Close ∷ ended c.args.levels.now.items in
    let written : c.put_class.new.out ≡ with_tokens front class =
    c.in_ok-put_class.ensures ∙ ap (λ (items : List ClassItem). with_tokens c.put_opened.new.out (class_written (class_from (map item_name items) c.args.class.now) [])) c.class_items.ensures.all
    ∙ ap (λ (laid : Laid). with_tokens laid class) c.in_ok-put_opened.ensures in
    on_ok c.enter.result (λ e. e ∙ ap (λ (laid : Laid). with_tokens laid end) written ∙ laid_both front class end) c.enter.ensures.text
