use Rattle.std.proofs.Common.{ap, ◌∙◌}
use Rattle.pg_predict.specs.Findings.{code_text}
use Rattle.pg_predict.specs.Found.{Found}
use Rattle.pg_predict.proofs.Told.{code_same}
use Rattle.pg_predict.proofs.finding.Finding.code.Goals as goal

pub returns : goal.returns
returns c =
    c.code.ensures ∙ code_same c.self.inside.source.now c.self.inside.place c.self.inside.kind ∙ ap (λ (f : Found). code_text f.finding.number) c.self.view_is
