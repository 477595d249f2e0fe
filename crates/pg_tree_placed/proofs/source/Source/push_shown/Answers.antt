use Rattle.std.proofs.Common.{◌≡◌, ◌++◌, ◌∙◌, ℕ, codes, ap, refl, rules, arith, subst}
use Rattle.pg_tree.specs.Json.{quoted}
use Rattle.pg_tree_placed.specs.Made.{text_between}
use Rattle.pg_tree_placed.specs.Named.{label_at}
use Rattle.pg_tree_placed.specs.Written.{closing, comma}
use Rattle.pg_tree_placed.specs.Forward.{step_text}
use Rattle.pg_tree_placed.specs.Writing.{IsPut}
use Rattle.pg_tree_placed.specs.declared.entry.Entry.{Entry}
use Rattle.pg_tree_placed.specs.declared.note.Way.TheVariants.{Shown}
use Rattle.pg_tree_placed.proofs.Forwarding.{single_shown}
use Rattle.pg_tree_placed.proofs.Putting.{puts_none, next_put, next_stops, last_put}
use Rattle.pg_tree_placed.proofs.source.Source.push_shown.Goals as goal

pub returns-in_err-push_first_leaf-in-Single-clause-so : goal.returns-in_err-push_first_leaf-in-Single-clause-so
returns-in_err-push_first_leaf-in-Single-clause-so g c =
    let contents = g.W.Write.contents in
    let start = contents c.args.writer.now.inner in
    let held = c.args.block.now in
    let text = c.args.self.now.text.now in
    let labels = c.args.self.now.labels.now in
    let label = c.in-Single.label in
    let from = c.in-Single.from in
    let to = c.in-Single.to in
    let opened = comma c.args.ended ++ (codes "{\"kids\":[" ++ quoted (text_between text from to)) in
    let close = closing (label_at labels label) in
    let all = step_text text labels c.args.ended 0 Shown c.args.entry in
    let e : all ≡ opened ++ close =
    ap (λ (x : Entry). step_text text labels c.args.ended 0 Shown x) c.in-Single.is ∙ single_shown text labels c.args.ended label from to in
    next_stops c.from_residual.result start start (contents c.push_first_leaf.new.writer.inner) held held c.push_first_leaf.new.block all opened close all (search rules) (puts_none start held all) e
    c.in_err-push_first_leaf-in-Single.ensures.so

pub returns-in_ok-push_first_leaf-in-Single-clause-so : goal.returns-in_ok-push_first_leaf-in-Single-clause-so
returns-in_ok-push_first_leaf-in-Single-clause-so g c =
    let contents = g.W.Write.contents in
    let start = contents c.args.writer.now.inner in
    let held = c.args.block.now in
    let text = c.args.self.now.text.now in
    let labels = c.args.self.now.labels.now in
    let label = c.in-Single.label in
    let from = c.in-Single.from in
    let to = c.in-Single.to in
    let opened = comma c.args.ended ++ (codes "{\"kids\":[" ++ quoted (text_between text from to)) in
    let close = closing (label_at labels label) in
    let all = step_text text labels c.args.ended 0 Shown c.args.entry in
    let e : all ≡ opened ++ close =
    ap (λ (x : Entry). step_text text labels c.args.ended 0 Shown x) c.in-Single.is ∙ single_shown text labels c.args.ended label from to in
    let one = next_put start start (contents c.push_first_leaf.new.writer.inner) held held c.push_first_leaf.new.block all opened close all (puts_none start held all) e c.in_ok-push_first_leaf-in-Single.ensures.so in
    let number : c.from.result ≡ label = omega (arith, c.from.ensures) in
    last_put c.push_closing.result start (contents c.push_first_leaf.new.writer.inner) (contents c.push_closing.new.writer.inner) held c.push_first_leaf.new.block c.push_closing.new.block close close all
    one refl (subst (λ (n : ℕ). IsPut c.push_closing.result (contents c.push_first_leaf.new.writer.inner) c.push_first_leaf.new.block (contents c.push_closing.new.writer.inner) c.push_closing.new.block
    (closing (label_at labels n))) number c.push_closing.ensures.so)
