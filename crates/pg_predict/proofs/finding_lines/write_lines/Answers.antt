use Rattle.pg_predict.specs.Found.{lines_found}
use Rattle.pg_text_pieces.proofs.Puts.{on_err, sent_stopped}
use Rattle.pg_predict.proofs.finding_lines.write_lines.Goals as goal

pub returns-in_err-send-clause-prefix : goal.returns-in_err-send-clause-prefix
returns-in_err-send-clause-prefix g c =
    let contents = g.W.Write.contents in
    on_err c.from_residual-in_err-send.result _
    (sent_stopped (contents c.args.writer.now.inner) (contents c.put_lines.new.writer.inner) (contents c.send.new.writer.inner) c.args.buffer.now.items c.put_lines.new.buffer.items
    (lines_found c.args.findings.now) c.requires.empty c.in_ok-put_lines.ensures.ok c.in_err-send.ensures.prefix)
