use Rattle.std.proofs.Common.{rules}
use Rattle.pg_text_pieces.proofs.Puts.{on_err}
use Rattle.pg_explain_json.proofs.Lines.{next_put, next_stopped}
use Rattle.pg_explain_json.proofs.writing.put_lines.Goals as goal

pub all-preserved : goal.all-preserved
all-preserved g c =
    let contents = g.W.Write.contents in
    record {
      well = search rules;
      put =
          next_put (contents c.args.writer.now.inner) (contents c.all.writer.inner) (contents c.put_pieces.new.writer.inner) c.args.buffer.now.items c.all.buffer.items c.put_pieces.new.buffer.items _
          c.all.invariant.put c.in_ok-put_pieces.ensures.ok;
    }

pub returns-in_err-put_pieces-clause-prefix : goal.returns-in_err-put_pieces-clause-prefix
returns-in_err-put_pieces-clause-prefix g c =
    let contents = g.W.Write.contents in
    on_err c.from_residual.result _
    (next_stopped (contents c.args.writer.now.inner) (contents c.all.writer.inner) (contents c.put_pieces.new.writer.inner) c.args.buffer.now.items c.all.buffer.items _ c.all.invariant.put
    c.in_err-put_pieces.ensures.prefix)
