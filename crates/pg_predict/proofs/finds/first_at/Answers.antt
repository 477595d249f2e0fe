use Rattle.std.proofs.Common.{ap, ◌∙◌}
use Rattle.std.specs.Prelude.{Some}
use Rattle.pg_predict.proofs.Rest.{number_some, number_none}
use Rattle.pg_predict.proofs.finds.first_at.Goals as goal

pub returns-in-Some : goal.returns-in-Some
returns-in-Some c =
    ap Some c.condition_number.ensures
    ∙ number_some c.args.judge.now c.args.node c.node-form.result.now c.args.grammar.now c.first-asking.result c.in-Some.kind _ c.requires.suspects c.node-form.ensures.node
    c.first-asking.ensures c.in-Some.ensures

pub returns-in-None : goal.returns-in-None
returns-in-None c =
    number_none c.args.judge.now c.args.node c.node-form.result.now c.args.grammar.now c.first-asking.result c.requires.suspects c.node-form.ensures.node
    c.first-asking.ensures c.in-None.ensures
