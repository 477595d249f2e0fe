use Rattle.std.proofs.Common.{ap, rules}
use Rattle.pg_text_pieces.proofs.Puts.{on_err, so_far_next, so_far_stopped}
use Rattle.pg_predict_lines.specs.Lines.{front_at, fronted_line, fronted_lines}
use Rattle.pg_predict_lines.proofs.writing.put_lines.Goals as goal

pub all-preserved : goal.all-preserved
all-preserved g c =
    let contents = g.W.Write.contents in
    let lines = fronted_lines (front_at c.args.fronts.now) in
    record {
      well = search rules;
      put =
          so_far_next (contents c.args.writer.now.inner) (contents c.all.writer.inner) (contents c.put_fronted.new.writer.inner) c.args.buffer.now.items c.all.buffer.items c.put_fronted.new.buffer.items
          (lines c.all.findings) (fronted_line (front_at c.args.fronts.now) c.in-Some.finding) (lines c.next.new.self) (lines c.args.findings.now) c.all.invariant.put
          (ap lines c.in-Some.ensures.first) c.in_ok-put_fronted.ensures.ok;
    }

pub returns-in_err-put_fronted-clause-prefix : goal.returns-in_err-put_fronted-clause-prefix
returns-in_err-put_fronted-clause-prefix g c =
    let contents = g.W.Write.contents in
    let lines = fronted_lines (front_at c.args.fronts.now) in
    on_err c.from_residual.result _
    (so_far_stopped (contents c.args.writer.now.inner) (contents c.all.writer.inner) (contents c.put_fronted.new.writer.inner) c.args.buffer.now.items c.all.buffer.items
    (lines c.all.findings) (fronted_line (front_at c.args.fronts.now) c.in-Some.finding) (lines c.next.new.self) (lines c.args.findings.now) c.all.invariant.put
    (ap lines c.in-Some.ensures.first) c.in_err-put_fronted.ensures.prefix)
