use Rattle.std.proofs.Common.{◌++◌, append_assoc, encode_utf8_all, refl, rules, sym}
use Rattle.pg_tree.specs.Json.{quoted}
use Rattle.pg_tree.specs.Written.{braces}
use Rattle.pg_tree_placed.specs.Written.{comma}
use Rattle.pg_tree_placed.proofs.Putting.{puts_none, next_put, next_stops, last_put}
use Rattle.pg_tree_placed.proofs.openings.push_any.Goals as goal

pub returns-in_err-push_openings-clause-so : goal.returns-in_err-push_openings-clause-so
returns-in_err-push_openings-clause-so g c =
    let contents = g.W.Write.contents in
    let start = contents c.args.writer.now.inner in
    let held = c.args.block.now in
    let own = quoted (encode_utf8_all c.args.characters.now) in
    let opened = comma c.args.is_comma ++ braces c.args.begins in
    let all = comma c.args.is_comma ++ (braces c.args.begins ++ own) in
    let e = sym (append_assoc (comma c.args.is_comma) (braces c.args.begins) own) in
    next_stops c.from_residual.result start start (contents c.push_openings.new.writer.inner) held held c.push_openings.new.block all opened own all (search rules) (puts_none start held all) e
    c.in_err-push_openings.ensures.so

pub returns-clause-so : goal.returns-clause-so
returns-clause-so g c =
    let contents = g.W.Write.contents in
    let start = contents c.args.writer.now.inner in
    let held = c.args.block.now in
    let own = quoted (encode_utf8_all c.args.characters.now) in
    let opened = comma c.args.is_comma ++ braces c.args.begins in
    let all = comma c.args.is_comma ++ (braces c.args.begins ++ own) in
    let e = sym (append_assoc (comma c.args.is_comma) (braces c.args.begins) own) in
    let one = next_put start start (contents c.push_openings.new.writer.inner) held held c.push_openings.new.block all opened own all (puts_none start held all) e c.in_ok-push_openings.ensures.so in
    last_put c.push_quoted_characters.result start (contents c.push_openings.new.writer.inner) (contents c.push_quoted_characters.new.writer.inner) held c.push_openings.new.block c.push_quoted_characters.new.block own own all
    one refl c.push_quoted_characters.ensures.so
