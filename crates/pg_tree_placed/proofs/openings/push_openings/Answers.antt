use Rattle.std.proofs.Common.{◌++◌, ◌+◌, ◌-◌, codes, refl, rules}
use Rattle.pg_tree.specs.Written.{braces}
use Rattle.pg_tree_placed.specs.Written.{comma}
use Rattle.pg_tree_placed.proofs.Forwarding.{braces_next}
use Rattle.pg_tree_placed.proofs.Putting.{puts_none, next_put, next_stops}
use Rattle.pg_tree_placed.proofs.openings.push_openings.Goals as goal

pub returns-in_err-push_comma-clause-so : goal.returns-in_err-push_comma-clause-so
returns-in_err-push_comma-clause-so g c =
    let contents = g.W.Write.contents in
    let start = contents c.args.writer.now.inner in
    let held = c.args.block.now in
    let one = codes "{\"kids\":[" in
    let n = c.args.count in
    let all = comma c.args.is_comma ++ braces n in
    next_stops c.from_residual.result start start (contents c.push_comma.new.writer.inner) held held c.push_comma.new.block all (comma c.args.is_comma) (braces n) all (search rules)
    (puts_none start held all) refl c.in_err-push_comma.ensures.so

pub returns-in_err-push-clause-so : goal.returns-in_err-push-clause-so
returns-in_err-push-clause-so g c =
    let contents = g.W.Write.contents in
    let start = contents c.args.writer.now.inner in
    let held = c.args.block.now in
    let one = codes "{\"kids\":[" in
    let n = c.args.count in
    let all = comma c.args.is_comma ++ braces n in
    let i = c.loop.counter in
    next_stops c.from_residual-in_err-push.result start (contents c.loop.writer.inner) (contents c.push.new.writer.inner) held c.loop.block c.push.new.self _ one (braces (n - (i + 1))) all (search rules)
    c.loop.invariant.so (braces_next n i c.loop-test.true) c.in_err-push.ensures.so

pub loop-preserved : goal.loop-preserved
loop-preserved g c =
    let contents = g.W.Write.contents in
    let start = contents c.args.writer.now.inner in
    let held = c.args.block.now in
    let one = codes "{\"kids\":[" in
    let n = c.args.count in
    let all = comma c.args.is_comma ++ braces n in
    let i = c.loop.counter in
    record {
      well = c.in_ok-push.ensures.failed;
      so = next_put start (contents c.loop.writer.inner) (contents c.push.new.writer.inner) held c.loop.block c.push.new.self _ one (braces (n - (i + 1))) all
          c.loop.invariant.so (braces_next n i c.loop-test.true) c.in_ok-push.ensures.so;
    }
