use Rattle.std.proofs.Common.{ℕ, ap, [], ◌∷◌, List, map, codes, ◌∙◌}
use Rattle.pg_grammar_form.specs.ClassItems.{item_name}
use Rattle.pg_file_tokens.specs.declared.token.Mark.TheVariants.{Semicolon}
use Rattle.pg_file_tokens.specs.Tokens.{Token, name, mark}
use Rattle.pg_file_items.specs.Tree.{Class}
use Rattle.pg_file_items.specs.Syntax.{class_written, reserved_written}
use Rattle.pg_file_print.specs.Canonical.{class_from}
use Rattle.pg_file_print.specs.Layout.{with_token}
use Rattle.pg_file_print.proofs.PrinterLemmas.Tokens.{on_ok}
use Rattle.pg_file_print.proofs.PrinterLemmas.Writing.{token_step, class_step, reserved_step}
use Rattle.pg_file_print.proofs.items.put_word_item.Goals as goal

pub returns : goal.returns
returns c =
    let item = c.args.item.now in
    let first : Class = class_from (map item_name c.args.classes.now) item.head in
    let second : Class = class_from (map item_name c.args.classes.now) item.rest in
    let end : List Token = mark Semicolon ∷ [] in
    let reserved : List Token = reserved_written item.reserved end in
    let after : List Token = class_written second reserved in
    let rest : List Token = name (codes "rest") ∷ after in
    let front : List Token = class_written first rest in
    let headed : List Token = name (codes "head") ∷ front in
    on_ok c.put_mark.result
    (λ e. e ∙ reserved_step c.put_class-2.new.out c.put_reserved.new.out item.reserved end c.in_ok-put_reserved.ensures
    ∙ class_step c.put_word-3.new.self c.put_class-2.new.out second reserved c.in_ok-put_class-2.ensures
    ∙ token_step c.put_class.new.out c.put_word-3.new.self (name (codes "rest")) after c.in_ok-put_word-3.ensures
    ∙ class_step c.put_word-2.new.self c.put_class.new.out first rest c.in_ok-put_class.ensures
    ∙ token_step c.put_name.new.self c.put_word-2.new.self (name (codes "head")) front c.in_ok-put_word-2.ensures
    ∙ token_step c.put_word.new.self c.put_name.new.self (name item.name) headed (c.in_ok-put_name.ensures ∙ ap (λ (s : List ℕ). with_token c.put_word.new.self (name s)) c.as_slice.ensures)
    ∙ token_step c.args.out.now c.put_word.new.self (name (codes "word")) (name item.name ∷ headed) c.in_ok-put_word.ensures)
    c.put_mark.ensures
