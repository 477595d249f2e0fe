use Rattle.std.proofs.Common.{◌++◌, ap, sym, ◌∙◌}
use Rattle.pg_text_pieces.specs.Writing.{pieces_bytes}
use Rattle.pg_text_pieces.proofs.Puts.{on_err}
use Rattle.pg_predict.specs.Findings.{line_of}
use Rattle.pg_predict_lines.specs.Lines.{front_text, front_at, fronted_line}
use Rattle.pg_predict_lines.proofs.Lines.{two_put, two_first, two_second}
use Rattle.pg_predict_lines.proofs.writing.put_fronted.Goals as goal

pub returns-in_err-put_pieces-clause-prefix : goal.returns-in_err-put_pieces-clause-prefix
returns-in_err-put_pieces-clause-prefix g c =
    let contents = g.W.Write.contents in
    let line = line_of c.args.finding.now.finding in
    let front = c.front_pieces.ensures ∙ ap front_text c.front.ensures ∙ ap (λ p. front_text (front_at c.args.fronts.now p)) c.node.ensures in
    on_err c.from_residual.result _
    (two_first (contents c.args.writer.now.inner) (contents c.put_pieces.new.writer.inner) c.args.buffer.now.items (pieces_bytes c.front_pieces.result) line
    (fronted_line (front_at c.args.fronts.now) c.args.finding.now) (ap (λ bs. bs ++ line) (sym front)) c.in_err-put_pieces.ensures.prefix)

pub returns-in_err-put-clause-prefix : goal.returns-in_err-put-clause-prefix
returns-in_err-put-clause-prefix g c =
    let contents = g.W.Write.contents in
    let line = line_of c.args.finding.now.finding in
    let front = c.front_pieces.ensures ∙ ap front_text c.front.ensures ∙ ap (λ p. front_text (front_at c.args.fronts.now p)) c.node.ensures in
    on_err c.from_residual-in_err-put.result _
    (two_second (contents c.args.writer.now.inner) (contents c.put_pieces.new.writer.inner) (contents c.put.new.writer.inner) c.args.buffer.now.items c.put_pieces.new.buffer.items
    (pieces_bytes c.front_pieces.result) line (fronted_line (front_at c.args.fronts.now) c.args.finding.now) (ap (λ bs. bs ++ line) (sym front))
    c.in_ok-put_pieces.ensures.ok c.in_err-put.ensures.prefix)

pub returns-clause-ok : goal.returns-clause-ok
returns-clause-ok g c =
    let contents = g.W.Write.contents in
    let line = line_of c.args.finding.now.finding in
    let front = c.front_pieces.ensures ∙ ap front_text c.front.ensures ∙ ap (λ p. front_text (front_at c.args.fronts.now p)) c.node.ensures in
    two_put (contents c.args.writer.now.inner) (contents c.put_pieces.new.writer.inner) (contents c.put.new.writer.inner) c.args.buffer.now.items c.put_pieces.new.buffer.items
    c.put.new.buffer.items (pieces_bytes c.front_pieces.result) line (fronted_line (front_at c.args.fronts.now) c.args.finding.now)
    (ap (λ bs. bs ++ line) (sym front)) c.in_ok-put_pieces.ensures.ok c.in_ok-put.ensures.ok
