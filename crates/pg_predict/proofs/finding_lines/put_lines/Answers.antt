use Rattle.std.proofs.Common.{ap, rules}
use Rattle.pg_predict.specs.Findings.{line_of}
use Rattle.pg_predict.specs.Found.{lines_found}
use Rattle.pg_text_pieces.proofs.Puts.{on_err, so_far_next, so_far_stopped}
use Rattle.pg_predict.proofs.finding_lines.put_lines.Goals as goal

pub all-preserved : goal.all-preserved
all-preserved g c =
    let contents = g.W.Write.contents in
    record {
      well = search rules;
      put =
          so_far_next (contents c.args.writer.now.inner) (contents c.all.writer.inner) (contents c.put.new.writer.inner) c.args.buffer.now.items c.all.buffer.items c.put.new.buffer.items
          (lines_found c.all.findings) (line_of c.in-Some.finding.finding) (lines_found c.next.new.self) (lines_found c.args.findings.now) c.all.invariant.put
          (ap lines_found c.in-Some.ensures.first) c.in_ok-put.ensures.ok;
    }

pub returns-in_err-put-clause-prefix : goal.returns-in_err-put-clause-prefix
returns-in_err-put-clause-prefix g c =
    let contents = g.W.Write.contents in
    on_err c.from_residual.result _
    (so_far_stopped (contents c.args.writer.now.inner) (contents c.all.writer.inner) (contents c.put.new.writer.inner) c.args.buffer.now.items c.all.buffer.items
    (lines_found c.all.findings) (line_of c.in-Some.finding.finding) (lines_found c.next.new.self) (lines_found c.args.findings.now) c.all.invariant.put
    (ap lines_found c.in-Some.ensures.first) c.in_err-put.ensures.prefix)
