use Rattle.std.proofs.Common.{◌≡◌, ap, map, sym, ◌∙◌}
use Rattle.pg_predict_conditions.specs.Conditions.{least_facts}
use Rattle.pg_predict.specs.Found.{found_by}
use Rattle.pg_predict.specs.Rest.{rest_at}
use Rattle.pg_predict.specs.declared.places.Place.{Place}
use Rattle.pg_predict.proofs.AtNode.{noted_there}
use Rattle.pg_predict.proofs.Rest.{at_begin}
use Rattle.pg_predict.proofs.at_node.FindingsAt.of.Goals as goal

pub returns : goal.returns
returns c =
    let source = c.args.source.now in
    let p = c.args.node in
    let there : c.place_of-place.result.node ≡ p = ap (λ (q : Place). q.node) c.place_of-place.ensures in
    ap (map (found_by source))
    (ap (λ q. rest_at source.judge q c.node-form.result.now c.first-asking.result) there
    ∙ at_begin source.judge p c.node-form.result.now source.grammar c.first-asking.result c.requires.source.facts.worked_out.suspects c.node-form.ensures.node c.first-asking.ensures
    ∙ sym (noted_there source.grammar (least_facts source.grammar) source.judge c.requires.source.facts c.requires.source.grammar p c.requires.node))
