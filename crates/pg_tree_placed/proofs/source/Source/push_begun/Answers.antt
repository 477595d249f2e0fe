use Rattle.std.proofs.Common.{◌≡◌, ◌++◌, ◌∙◌, false, cond, ap, sym, rules}
use Rattle.pg_tree.specs.Written.{braces}
use Rattle.pg_tree_placed.specs.Written.{comma}
use Rattle.pg_tree_placed.specs.Forward.{bare_text, step_text}
use Rattle.pg_tree_placed.specs.Writing.{way_if}
use Rattle.pg_tree_placed.specs.declared.note.Way.TheVariants.{Shown}
use Rattle.pg_tree_placed.proofs.Forwarding.{begun_text}
use Rattle.pg_tree_placed.proofs.Putting.{puts_none, next_put, next_stops, last_put}
use Rattle.pg_tree_placed.proofs.source.Source.push_begun.Goals as goal

pub returns-in_err-push_openings-clause-so : goal.returns-in_err-push_openings-clause-so
returns-in_err-push_openings-clause-so g c =
    let contents = g.W.Write.contents in
    let start = contents c.args.writer.now.inner in
    let held = c.args.block.now in
    let text = c.args.self.now.text.now in
    let labels = c.args.self.now.labels.now in
    let e = c.args.entry in
    let n = c.args.begins in
    let opened = comma c.has_comma.result ++ braces n in
    let own = cond c.args.is_lifted (bare_text text e) (step_text text labels false 0 Shown e) in
    let all = step_text text labels c.args.ended n (way_if c.args.is_lifted) e in
    let whole : all ≡ opened ++ own =
    begun_text text labels c.args.ended n c.args.is_lifted e ∙ ap (λ b. (comma b ++ braces n) ++ own) (sym c.has_comma.ensures) in
    next_stops c.from_residual.result start start (contents c.push_openings.new.writer.inner) held held c.push_openings.new.block all opened own all (search rules) (puts_none start held all) whole
    c.in_err-push_openings.ensures.so

pub returns-then-is_lifted-clause-so : goal.returns-then-is_lifted-clause-so
returns-then-is_lifted-clause-so g c =
    let contents = g.W.Write.contents in
    let start = contents c.args.writer.now.inner in
    let held = c.args.block.now in
    let text = c.args.self.now.text.now in
    let labels = c.args.self.now.labels.now in
    let e = c.args.entry in
    let n = c.args.begins in
    let opened = comma c.has_comma.result ++ braces n in
    let own = cond c.args.is_lifted (bare_text text e) (step_text text labels false 0 Shown e) in
    let all = step_text text labels c.args.ended n (way_if c.args.is_lifted) e in
    let whole : all ≡ opened ++ own =
    begun_text text labels c.args.ended n c.args.is_lifted e ∙ ap (λ b. (comma b ++ braces n) ++ own) (sym c.has_comma.ensures) in
    let one = next_put start start (contents c.push_openings.new.writer.inner) held held c.push_openings.new.block all opened own all (puts_none start held all) whole c.in_ok-push_openings.ensures.so in
    last_put c.push_bare.result start (contents c.push_openings.new.writer.inner) (contents c.push_bare.new.writer.inner) held c.push_openings.new.block c.push_bare.new.block own (bare_text text e) all
    one (ap (λ b. cond b (bare_text text e) (step_text text labels false 0 Shown e)) c.if-is_lifted.true) c.push_bare.ensures.so

pub returns-else-is_lifted-clause-so : goal.returns-else-is_lifted-clause-so
returns-else-is_lifted-clause-so g c =
    let contents = g.W.Write.contents in
    let start = contents c.args.writer.now.inner in
    let held = c.args.block.now in
    let text = c.args.self.now.text.now in
    let labels = c.args.self.now.labels.now in
    let e = c.args.entry in
    let n = c.args.begins in
    let opened = comma c.has_comma.result ++ braces n in
    let own = cond c.args.is_lifted (bare_text text e) (step_text text labels false 0 Shown e) in
    let all = step_text text labels c.args.ended n (way_if c.args.is_lifted) e in
    let whole : all ≡ opened ++ own =
    begun_text text labels c.args.ended n c.args.is_lifted e ∙ ap (λ b. (comma b ++ braces n) ++ own) (sym c.has_comma.ensures) in
    let one = next_put start start (contents c.push_openings.new.writer.inner) held held c.push_openings.new.block all opened own all (puts_none start held all) whole c.in_ok-push_openings.ensures.so in
    last_put c.push_shown.result start (contents c.push_openings.new.writer.inner) (contents c.push_shown.new.writer.inner) held c.push_openings.new.block c.push_shown.new.block own (step_text text labels false 0 Shown e) all
    one (ap (λ b. cond b (bare_text text e) (step_text text labels false 0 Shown e)) c.if-is_lifted.false) c.push_shown.ensures.so
