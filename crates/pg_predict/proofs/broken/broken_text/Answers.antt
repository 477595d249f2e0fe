use Rattle.std.proofs.Common.{◌≡◌, List, ap, ◌∙◌, arith}
use Rattle.std.proofs.lemmas.Result.{IfOk-weaker}
use Rattle.pg_grammar_value.specs.declared.grammar.Rule.{Rule}
use Rattle.pg_predict.specs.Broken.{condition_text}
use Rattle.pg_predict.specs.Findings.{name_of}
use Rattle.pg_predict.specs.Texts.{place_at}
use Rattle.pg_predict.specs.declared.places.Place.{Place}
use Rattle.pg_predict.proofs.broken.broken_text.Goals as goal

pub place_of-place-requires : goal.place_of-place-requires
place_of-place-requires c =
    let few = c.nodes-count.ensures.grammar.few_nodes in
    let inside = c.requires in
    omega arith

pub returns : goal.returns
returns c =
    let g = c.args.grammar.now in
    let broken = c.args.broken.now in
    let place : c.place_of-place.result ≡ place_at g.rules broken.node =
    c.place_of-place.ensures ∙ ap (λ (rules : List Rule). place_at rules broken.node) c.rules.ensures.all in
    let same =
    ap (λ (rules : List Rule). condition_text broken.condition (name_of rules c.place_of-place.result.rule) c.place_of-place.result.number) c.rules-2.ensures.all
    ∙ ap (λ (at : Place). condition_text broken.condition (name_of g.rules at.rule) at.number) place in
    IfOk-weaker c.text_at.result _ _ (λ text e. e ∙ same) c.text_at.ensures
