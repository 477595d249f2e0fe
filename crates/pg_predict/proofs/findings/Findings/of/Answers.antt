use Rattle.std.proofs.Common.{ap, map, ◌∙◌}
use Rattle.pg_predict.specs.Found.{found_by}
use Rattle.pg_predict.specs.Rest.{rest_of}
use Rattle.pg_predict.proofs.Rest.{of_all}
use Rattle.pg_predict.proofs.findings.Findings.of.Goals as goal

pub returns : goal.returns
returns c =
    let source = c.args.source.now in
    ap (map (found_by source)) (ap (rest_of source.grammar source.judge) c.whole.ensures ∙ of_all source.grammar source.judge c.requires.facts.worked_out.suspects)
