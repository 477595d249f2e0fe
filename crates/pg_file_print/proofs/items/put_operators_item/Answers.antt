use Rattle.std.proofs.Common.{[], ◌∷◌, List, map, codes, ◌∙◌}
use Rattle.std.specs.Fmt.{decimal}
use Rattle.pg_grammar_form.specs.ClassItems.{item_name}
use Rattle.pg_file_tokens.specs.declared.token.Mark.TheVariants.{Semicolon}
use Rattle.pg_file_tokens.specs.Tokens.{Token, name, number, mark}
use Rattle.pg_file_items.specs.Tree.{Class}
use Rattle.pg_file_items.specs.Syntax.{class_written, reserved_written}
use Rattle.pg_file_print.specs.Canonical.{class_from}
use Rattle.pg_file_print.proofs.PrinterLemmas.Tokens.{on_ok}
use Rattle.pg_file_print.proofs.PrinterLemmas.Writing.{token_step, class_step, reserved_step}
use Rattle.pg_file_print.proofs.items.put_operators_item.Goals as goal

pub returns : goal.returns
returns c =
    let item = c.args.item.now in
    let first : Class = class_from (map item_name c.args.classes.now) item.class in
    let second : Class = class_from (map item_name c.args.classes.now) item.gap in
    let end : List Token = mark Semicolon ∷ [] in
    let count : List Token = number (decimal item.max) ∷ end in
    let most : List Token = name (codes "max") ∷ count in
    let reserved : List Token = reserved_written item.reserved most in
    let after : List Token = class_written second reserved in
    let gap : List Token = name (codes "gap") ∷ after in
    on_ok c.put_mark.result
    (λ e. e ∙ token_step c.put_word-3.new.self c.put_number.new.self (number (decimal item.max)) end c.in_ok-put_number.ensures
    ∙ token_step c.put_reserved.new.out c.put_word-3.new.self (name (codes "max")) count c.in_ok-put_word-3.ensures
    ∙ reserved_step c.put_class-2.new.out c.put_reserved.new.out item.reserved most c.in_ok-put_reserved.ensures
    ∙ class_step c.put_word-2.new.self c.put_class-2.new.out second reserved c.in_ok-put_class-2.ensures
    ∙ token_step c.put_class.new.out c.put_word-2.new.self (name (codes "gap")) after c.in_ok-put_word-2.ensures
    ∙ class_step c.put_word.new.self c.put_class.new.out first gap c.in_ok-put_class.ensures
    ∙ token_step c.args.out.now c.put_word.new.self (name (codes "operators")) (class_written first gap) c.in_ok-put_word.ensures)
    c.put_mark.ensures
