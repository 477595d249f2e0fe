use Rattle.std.proofs.Common.{ap, map, ◌∙◌}
use Rattle.pg_predict.specs.Refusals.{RefusedGrammar, violations_at, found_of}
use Rattle.pg_predict.proofs.refused.Refused.findings_at.Goals as goal

pub returns : goal.returns
returns c = c.of.ensures ∙ ap (λ (r : RefusedGrammar). map (found_of r) (violations_at c.args.node r.violations)) c.self.view_is
