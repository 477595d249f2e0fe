use Rattle.pg_text_pieces.proofs.Puts.{on_err, prefix_after}
use Rattle.pg_text_pieces.proofs.output.put.Goals as goal

pub returns-in_err-pass-clause-prefix : goal.returns-in_err-pass-clause-prefix
returns-in_err-pass-clause-prefix g c =
    let contents = g.W.Write.contents in
    on_err c.from_residual-in_err-pass.result _
    (prefix_after (contents c.args.writer.now.inner) (contents c.send.new.writer.inner) (contents c.pass.new.writer.inner) c.args.buffer.now.items c.args.bytes.now
    c.in_ok-send.ensures.ok c.in_err-pass.ensures.prefix)
