use Rattle.std.proofs.Common.{◌≡◌, true, ap, ◌∙◌, rules}
use Rattle.pg_corpus.specs.Lines.{first_line, belongs}
use Rattle.pg_corpus.proofs.Cutting.{read_more}
use Rattle.pg_corpus.proofs.lines.cut.Goals as goal

pub loop-read-preserved : goal.loop-read-preserved
loop-read-preserved c =
    let fits : belongs c.args.part c.first_line-line.result.now ≡ true = search rules in
    read_more c.args.part c.args.bytes.now c.loop-read.read c.first_line-line.result.now c.loop-read.invariant c.loop-read-test.true (c.first_line-line.ensures ∙ ap first_line c.behind.ensures) fits
