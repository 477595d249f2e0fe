use Rattle.std.proofs.Common.{List, length, slice_get, refl, sym, ap, ◌∙◌, arith}
use Rattle.std.proofs.lemmas.Option.{slice_get_read}
use Rattle.pg_grammar_form.specs.Forms.{Node}
use Rattle.pg_grammar_value.proofs.Numbers.{bodies_are_nodes}
use Rattle.pg_certificate_verify.proofs.Violated.{parts_fit, nothing_wrong}
use Rattle.pg_certificate_verify.proofs.breaking.first_node.Goals as goal

pub first_condition-requires-clause-parts : goal.first_condition-requires-clause-parts
first_condition-requires-clause-parts c =
    let i = c.loop-number.number in
    let nodes = c.nodes-nodes.result.now in
    let at = sym (ap (λ (ns : List Node). slice_get ns i) c.nodes-nodes.ensures.all)
    ∙ slice_get_read nodes (length nodes) i c.index-nodes-number.result refl c.loop-number-test.true c.index-nodes-number.is in
    parts_fit c.args.claims.now.grammar.now c.args.claims.now.sets.now i c.index-nodes-number.result c.nodes-nodes.ensures.grammar c.requires.formed at

pub returns : goal.returns
returns c =
    let g = c.args.claims.now.grammar.now in
    let past = c.loop-number-test.false in
    let same = ap length c.nodes-nodes.ensures.all in
    nothing_wrong g c.args.claims.now.sets.now c.args.claims.now.cost c.loop-number.number (bodies_are_nodes g.rules g.nodes c.nodes-nodes.ensures.grammar.bodies) (omega (arith, past, same))
    c.loop-number.invariant
