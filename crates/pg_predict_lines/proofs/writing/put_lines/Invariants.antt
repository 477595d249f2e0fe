use Rattle.std.proofs.Common.{◌≡◌, false, length}
use Rattle.pg_text_pieces.proofs.Puts.{IsPutSoFar}
use Rattle.pg_predict_lines.specs.Lines.{front_at, fronted_lines}
use Rattle.pg_predict_lines.proofs.writing.put_lines.Given as goal

abbrev pub invariant-all : goal.invariant-all
invariant-all g l = record {
  well : l.writer.failed ≡ false;
  put : IsPutSoFar (g.W.Write.contents l.initial.writer.inner) l.initial.buffer.items (g.W.Write.contents l.writer.inner) l.buffer.items
      (fronted_lines (front_at l.fronts) l.findings) (fronted_lines (front_at l.fronts) l.initial.findings);
}

abbrev pub decreases-all : goal.decreases-all
decreases-all g l = length l.findings
