use Rattle.std.proofs.Common.{ap, ◌∙◌}
use Rattle.pg_predict_conditions.specs.Judged.{noted_grammar}
use Rattle.pg_predict.specs.Found.{violations_of, findings_of}
use Rattle.pg_predict.specs.Refusals.{RefusedGrammar}
use Rattle.pg_predict.proofs.Told.{violations_found, findings_found}
use Rattle.pg_predict.proofs.refused.Refused.findings.Goals as goal

pub returns-clause-violations : goal.returns-clause-violations
returns-clause-violations c =
    let source = c.self.inside.source in
    ap violations_of c.of.ensures ∙ violations_found source (noted_grammar source.grammar source.judge) ∙ ap (λ (r : RefusedGrammar). r.violations) c.self.view_is

pub returns-clause-findings : goal.returns-clause-findings
returns-clause-findings c =
    let source = c.self.inside.source in
    ap findings_of c.of.ensures ∙ findings_found source (noted_grammar source.grammar source.judge) ∙ ap (λ (r : RefusedGrammar). r.findings) c.self.view_is
