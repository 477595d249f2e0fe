use Rattle.std.proofs.Common.{rules, drop, get_or, ◌+◌}
use Rattle.json.specs.Print.{escape, escape_byte}
use Rattle.pg_tree_placed.proofs.Escapes.{bytes_next}
use Rattle.pg_tree_placed.proofs.Putting.{next_put, next_stops}
use Rattle.pg_tree_placed.proofs.quoting.push_bytes.Goals as goal

pub returns-in_err-push_byte-clause-so : goal.returns-in_err-push_byte-clause-so
returns-in_err-push_byte-clause-so g c =
    let contents = g.W.Write.contents in
    let bs = c.args.bytes.now in
    let i = c.loop-byte.byte-index in
    next_stops c.from_residual.result (contents c.args.writer.now.inner) (contents c.loop-byte.writer.inner) (contents c.push_byte.new.writer.inner) c.args.block.now c.loop-byte.block
    c.push_byte.new.block _ (escape_byte (get_or bs i 0)) (escape (drop (i + 1) bs)) (escape bs) (search rules) c.loop-byte.invariant.so
    (bytes_next bs i 0 c.loop-byte-test.true) c.in_err-push_byte.ensures.so

pub loop-byte-preserved : goal.loop-byte-preserved
loop-byte-preserved g c =
    let contents = g.W.Write.contents in
    let bs = c.args.bytes.now in
    let i = c.loop-byte.byte-index in
    record {
      well = c.in_ok-push_byte.ensures.failed;
      so = next_put (contents c.args.writer.now.inner) (contents c.loop-byte.writer.inner) (contents c.push_byte.new.writer.inner) c.args.block.now c.loop-byte.block c.push_byte.new.block _
          (escape_byte (get_or bs i 0)) (escape (drop (i + 1) bs)) (escape bs) c.loop-byte.invariant.so (bytes_next bs i 0 c.loop-byte-test.true) c.in_ok-push_byte.ensures.so;
    }
