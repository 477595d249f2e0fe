use Rattle.std.proofs.Common.{◌≡◌, [], ◌∷◌, ◌++◌, map, List, ap, sym, subst, ◌∙◌}
use Rattle.pg_grammar_form.specs.Preorder.{SpellForms}
use Rattle.pg_grammar_form.specs.Classes.{member_count, IsExpression}
use Rattle.pg_grammar_form.specs.ClassItems.{item_name}
use Rattle.pg_grammar_form.specs.declared.class.ClassPart.{ClassPart}
use Rattle.pg_file_tokens.specs.declared.token.Mark.TheVariants.{Bar}
use Rattle.pg_file_print.specs.declared.levels.Ending.TheVariants.{Nothing}
use Rattle.pg_file_print.specs.declared.levels.Level.{Level}
use Rattle.pg_file_tokens.specs.Tokens.{Token}
use Rattle.pg_file_items.specs.Syntax.{atom_written, class_written}
use Rattle.pg_file_print.specs.Canonical.{atoms_of, class_from}
use Rattle.pg_file_print.specs.Layout.{Laid, with_tokens}
use Rattle.pg_file_print.specs.Levels.{needed, coming, closing, first_piece, with_piece, levels_after}
use Rattle.pg_file_print.proofs.PrinterLemmas.Tokens.{laid_both, on_ok}
use Rattle.pg_file_print.proofs.PrinterLemmas.Classes.{root, whole_written, first_spelled}
use Rattle.pg_file_print.proofs.class.put_class.Goals as goal

root_is : (levels others : List Level) → levels ≡ record { left = 0; separator = Bar; ending = Nothing } ∷ others → others ≡ [] → levels ≡ root
root_is levels others h e = h ∙ ap (λ (ls : List Level). record { left = 0; separator = Bar; ending = Nothing } ∷ ls) e

expression : (class parts : List ClassPart) (first : ClassPart) (rest : List ClassPart) → IsExpression class → parts ≡ class → parts ≡ first ∷ rest → IsExpression (first ∷ rest)
expression class parts first rest h e k = subst IsExpression (sym e ∙ k) h

pub put_parts-requires : goal.put_parts-requires
put_parts-requires c =
    let items = map item_name c.args.items.now in
    let first = c.in-Some.first.now in
    let rest = c.in-Some.rest.now in
    let whole = expression c.args.class.now c.parts.result.now first rest c.parts.ensures.whole c.parts.ensures.same c.in-Some.ensures.cases.0 in
    let at_root = root_is c.enter.new.levels.items c.new-levels.result.items c.in_ok-enter.ensures.levels c.new-levels.ensures.items in
    record {
      whole = subst (λ (ls : List Level). SpellForms (needed ls) (map member_count rest)) (sym (c.in_ok-put_first.ensures.levels ∙ ap (levels_after (first_piece items first)) at_root)) (first_spelled items first rest whole.whole);
      unions = whole.unions.1;
    }

pub returns : goal.returns
returns c =
    let items = map item_name c.args.items.now in
    let first = c.in-Some.first.now in
    let rest = c.in-Some.rest.now in
    let out = c.args.out.now in
    let piece = first_piece items first in
    let whole = expression c.args.class.now c.parts.result.now first rest c.parts.ensures.whole c.parts.ensures.same c.in-Some.ensures.cases.0 in
    let at_root = root_is c.enter.new.levels.items c.new-levels.result.items c.in_ok-enter.ensures.levels c.new-levels.ensures.items in
    let here = c.in_ok-put_first.ensures in
    let after : List Token = coming atom_written (levels_after piece root) (atoms_of items rest) in
    let text : c.put_first.new.out ≡ with_piece out piece root =
    here.text ∙ ap (λ (laid : Laid). with_piece laid piece c.enter.new.levels.items) c.in_ok-enter.ensures.text ∙ ap (with_piece out piece) at_root in
    on_ok c.put_parts.result
    (λ e. e ∙ ap (λ (ls : List Level). with_tokens c.put_first.new.out (coming atom_written ls (atoms_of items rest))) (here.levels ∙ ap (levels_after piece) at_root)
    ∙ ap (λ (laid : Laid). with_tokens laid after) text
    ∙ laid_both out (piece.front ++ closing piece.count piece.ending root) after
    ∙ ap (with_tokens out) (whole_written items first rest whole.unions.0 whole.whole)
    ∙ ap (λ (l : List ClassPart). with_tokens out (class_written (class_from items l) [])) (sym (sym c.parts.ensures.same ∙ c.in-Some.ensures.cases.0)))
    c.put_parts.ensures
