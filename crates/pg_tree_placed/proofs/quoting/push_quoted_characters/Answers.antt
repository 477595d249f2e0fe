use Rattle.std.proofs.Common.{rules, refl, codes, ◌++◌, encode_utf8_all}
use Rattle.json.specs.Print.{escape}
use Rattle.pg_tree.specs.Json.{quoted}
use Rattle.pg_tree_placed.proofs.Putting.{puts_none, next_put, next_stops, last_put}
use Rattle.pg_tree_placed.proofs.quoting.push_quoted_characters.Goals as goal

pub returns-in_err-push-clause-so : goal.returns-in_err-push-clause-so
returns-in_err-push-clause-so g c =
    let contents = g.W.Write.contents in
    let start = contents c.args.writer.now.inner in
    let held = c.args.block.now in
    let inner = escape (encode_utf8_all c.args.characters.now) in
    let all = quoted (encode_utf8_all c.args.characters.now) in
    next_stops c.from_residual.result start start (contents c.push.new.writer.inner) held held c.push.new.self all (codes "\"") (inner ++ codes "\"") all (search rules)
    (puts_none start held all) refl c.in_err-push.ensures.so

pub returns-in_err-push_characters-clause-so : goal.returns-in_err-push_characters-clause-so
returns-in_err-push_characters-clause-so g c =
    let contents = g.W.Write.contents in
    let start = contents c.args.writer.now.inner in
    let held = c.args.block.now in
    let inner = escape (encode_utf8_all c.args.characters.now) in
    let all = quoted (encode_utf8_all c.args.characters.now) in
    let one = next_put start start (contents c.push.new.writer.inner) held held c.push.new.self all (codes "\"") (inner ++ codes "\"") all (puts_none start held all) refl c.in_ok-push.ensures.so in
    next_stops c.from_residual-in_err-push_characters.result start (contents c.push.new.writer.inner) (contents c.push_characters.new.writer.inner) held c.push.new.self
    c.push_characters.new.block (inner ++ codes "\"") inner (codes "\"") all (search rules) one refl c.in_err-push_characters.ensures.so

pub returns-clause-so : goal.returns-clause-so
returns-clause-so g c =
    let contents = g.W.Write.contents in
    let start = contents c.args.writer.now.inner in
    let held = c.args.block.now in
    let inner = escape (encode_utf8_all c.args.characters.now) in
    let all = quoted (encode_utf8_all c.args.characters.now) in
    let one = next_put start start (contents c.push.new.writer.inner) held held c.push.new.self all (codes "\"") (inner ++ codes "\"") all (puts_none start held all) refl c.in_ok-push.ensures.so in
    let two =
    next_put start (contents c.push.new.writer.inner) (contents c.push_characters.new.writer.inner) held c.push.new.self c.push_characters.new.block (inner ++ codes "\"") inner (codes "\"") all
    one refl c.in_ok-push_characters.ensures.so in
    last_put c.push-2.result start (contents c.push_characters.new.writer.inner) (contents c.push-2.new.writer.inner) held c.push_characters.new.block c.push-2.new.self (codes "\"") (codes "\"")
    all two refl c.push-2.ensures.so
