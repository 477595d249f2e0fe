use Rattle.std.proofs.Common.{◌≡◌, ◌+◌, ◌∷◌, ◌++◌, drop, map, List, ap, sym, subst, ◌∙◌}
use Rattle.std.proofs.lemmas.List.{drop_more}
use Rattle.std.specs.List.{AllByRecursion}
use Rattle.pg_grammar_form.specs.Preorder.{SpellForms}
use Rattle.pg_grammar_form.specs.Classes.{member_count, IsProperUnion}
use Rattle.pg_grammar_form.specs.ClassItems.{item_name}
use Rattle.pg_grammar_form.specs.declared.class.ClassPart.{ClassPart}
use Rattle.pg_file_print.specs.declared.levels.Level.{Level}
use Rattle.pg_file_tokens.specs.Tokens.{Token}
use Rattle.pg_file_items.specs.Syntax.{atom_written}
use Rattle.pg_file_print.specs.Canonical.{atoms_of}
use Rattle.pg_file_print.specs.Layout.{Laid, with_tokens}
use Rattle.pg_file_print.specs.Levels.{needed, coming, closing, part_piece, levels_after}
use Rattle.pg_file_print.proofs.PrinterLemmas.Tokens.{laid_both}
use Rattle.pg_file_print.proofs.PrinterLemmas.Classes.{part_step, part_spelled}
use Rattle.pg_file_print.proofs.class.put_parts.Goals as goal

pub loop-part-preserved : goal.loop-part-preserved
loop-part-preserved c =
    let parts = c.args.parts.now in
    let items = map item_name c.args.items.now in
    let p = c.part-item.result in
    let out = c.loop-part.out in
    let levels = c.loop-part.levels.items in
    let piece = part_piece items p in
    let rest = drop (c.loop-part.part-index + 1) parts in
    let front : drop c.loop-part.part-index parts ≡ p ∷ rest =
    drop_more parts c.loop-part.part-index p c.loop-part-test.true ∙ ap (λ (x : ClassPart). x ∷ rest) (sym c.part-item.is) in
    let whole : SpellForms (needed levels) (map member_count (p ∷ rest)) = subst (λ (l : List ClassPart). SpellForms (needed levels) (map member_count l)) front c.loop-part.invariant.whole in
    let unions : AllByRecursion IsProperUnion (p ∷ rest) = subst (AllByRecursion IsProperUnion) front c.loop-part.invariant.unions in
    let here = c.in_ok-put_part.ensures in
    let after : List Token = coming atom_written (levels_after piece levels) (atoms_of items rest) in
    record {
      whole = subst (λ (ls : List Level). SpellForms (needed ls) (map member_count rest)) (sym here.levels) (part_spelled items levels p rest whole);
      unions = unions.1;
      text =
          ap (λ (ls : List Level). with_tokens c.put_part.new.out (coming atom_written ls (atoms_of items rest))) here.levels
          ∙ ap (λ (laid : Laid). with_tokens laid after) here.text
          ∙ laid_both out (piece.front ++ closing piece.count piece.ending levels) after
          ∙ ap (with_tokens out) (part_step items levels p rest unions.0 whole)
          ∙ ap (λ (l : List ClassPart). with_tokens out (coming atom_written levels (atoms_of items l))) (sym front)
          ∙ c.loop-part.invariant.text;
    }
