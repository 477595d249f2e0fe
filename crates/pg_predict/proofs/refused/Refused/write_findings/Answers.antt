use Rattle.std.proofs.Common.{ap, subst, ◌∙◌}
use Rattle.std.specs.Io.KnownBytes.{Appends}
use Rattle.pg_tree.specs.Bytes.{AppendsPrefix}
use Rattle.pg_predict.specs.Findings.{lines_of}
use Rattle.pg_predict.proofs.Told.{lines_same}
use Rattle.pg_predict.proofs.refused.Refused.write_findings.Goals as goal

pub returns-in-Ok-write_lines-clause-ok : goal.returns-in-Ok-write_lines-clause-ok
returns-in-Ok-write_lines-clause-ok g c =
    subst (Appends (g.W.Write.contents c.args.writer.now.inner) (g.W.Write.contents c.write_lines.new.writer.inner))
    (lines_same c.findings.result ∙ ap lines_of c.findings.ensures.findings) c.in-Ok-write_lines.ensures.ok

pub returns-clause-prefix : goal.returns-clause-prefix
returns-clause-prefix g c is =
    subst (AppendsPrefix (g.W.Write.contents c.args.writer.now.inner) (g.W.Write.contents c.write_lines.new.writer.inner))
    (lines_same c.findings.result ∙ ap lines_of c.findings.ensures.findings) c.in-Err.ensures.prefix
