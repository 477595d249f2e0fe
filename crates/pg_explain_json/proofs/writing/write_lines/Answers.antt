use Rattle.pg_text_pieces.proofs.Puts.{on_err}
use Rattle.pg_explain_json.proofs.Lines.{sent_all, sent_part}
use Rattle.pg_explain_json.proofs.writing.write_lines.Goals as goal

pub returns-in_err-send-clause-prefix : goal.returns-in_err-send-clause-prefix
returns-in_err-send-clause-prefix g c =
    let contents = g.W.Write.contents in
    on_err c.from_residual-in_err-send.result _
    (sent_part (contents c.args.writer.now.inner) (contents c.put_lines.new.writer.inner) (contents c.send.new.writer.inner) c.args.buffer.now.items c.put_lines.new.buffer.items
    c.in_ok-put_lines.ensures.ok c.in_err-send.ensures.prefix)

pub returns-clause-ok : goal.returns-clause-ok
returns-clause-ok g c =
    let contents = g.W.Write.contents in
    sent_all (contents c.args.writer.now.inner) (contents c.put_lines.new.writer.inner) (contents c.send.new.writer.inner) c.args.buffer.now.items c.put_lines.new.buffer.items
    c.in_ok-put_lines.ensures.ok c.in_ok-send.ensures.ok
