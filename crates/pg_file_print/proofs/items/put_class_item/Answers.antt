use Rattle.std.proofs.Common.{ℕ, ap, [], ◌∷◌, List, map, codes, ◌∙◌}
use Rattle.pg_grammar_form.specs.ClassItems.{item_name}
use Rattle.pg_file_tokens.specs.declared.token.Mark.TheVariants.{Semicolon, Equals}
use Rattle.pg_file_tokens.specs.Tokens.{Token, name, mark}
use Rattle.pg_file_items.specs.Tree.{Class}
use Rattle.pg_file_items.specs.Syntax.{class_written}
use Rattle.pg_file_print.specs.Canonical.{class_from}
use Rattle.pg_file_print.specs.Layout.{with_token}
use Rattle.pg_file_print.proofs.PrinterLemmas.Tokens.{on_ok}
use Rattle.pg_file_print.proofs.PrinterLemmas.Writing.{token_step, class_step}
use Rattle.pg_file_print.proofs.items.put_class_item.Goals as goal

pub returns : goal.returns
returns c =
    let class : Class = class_from (map item_name c.args.items.now) c.args.item.now.class in
    let end : List Token = mark Semicolon ∷ [] in
    let body : List Token = class_written class end in
    let named : List Token = mark Equals ∷ body in
    on_ok c.put_mark-2.result
    (λ e. e ∙ class_step c.put_mark.new.self c.put_class.new.out class end c.in_ok-put_class.ensures
    ∙ token_step c.put_name.new.self c.put_mark.new.self (mark Equals) body c.in_ok-put_mark.ensures
    ∙ token_step c.put_word.new.self c.put_name.new.self (name c.args.item.now.name) named (c.in_ok-put_name.ensures ∙ ap (λ (s : List ℕ). with_token c.put_word.new.self (name s)) c.as_slice.ensures)
    ∙ token_step c.args.out.now c.put_word.new.self (name (codes "class")) (name c.args.item.now.name ∷ named) c.in_ok-put_word.ensures)
    c.put_mark-2.ensures
