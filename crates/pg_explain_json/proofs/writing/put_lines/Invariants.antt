use Rattle.std.proofs.Common.{◌≡◌, false, length}
use Rattle.pg_explain_json.specs.Pages.{PutsLines}
use Rattle.pg_explain_json.proofs.writing.put_lines.Given as goal

abbrev pub invariant-all : goal.invariant-all
invariant-all g l = record {
  well : l.writer.failed ≡ false;
  put : PutsLines (g.W.Write.contents l.initial.writer.inner) l.initial.buffer.items (g.W.Write.contents l.writer.inner) l.buffer.items;
}

abbrev pub decreases-all : goal.decreases-all
decreases-all g l = length l.findings
