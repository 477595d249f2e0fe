use Rattle.std.proofs.Common.{◌≡◌, List, length, slice_get, sym, ap, ◌∙◌, arith}
use Rattle.pg_grammar_form.proofs.Each.{get-known}
use Rattle.pg_grammar_form.specs.Forms.{Node}
use Rattle.pg_predict_conditions.proofs.Unsuspected.{parts_of_node, mark_next, mark_all}
use Rattle.pg_predict_conditions.proofs.suspects.suspects.Goals as goal

pub mark_node-requires : goal.mark_node-requires
mark_node-requires c =
    let i = c.loop-node.node-index in
    let at =
    sym (ap (λ (ns : List Node). slice_get ns i) c.nodes-node-items.ensures.all) ∙ get-known c.nodes-node-items.result.now i c.node-item.result c.loop-node-test.true c.node-item.is in
    parts_of_node c.args.grammar.now c.args.sets.now i (length c.loop-node.marks.items) c.node-item.result c.requires c.nodes.ensures.grammar at c.loop-node.invariant.long

pub loop-node-preserved : goal.loop-node-preserved
loop-node-preserved c =
    let i = c.loop-node.node-index in
    let at =
    sym (ap (λ (ns : List Node). slice_get ns i) c.nodes-node-items.ensures.all) ∙ get-known c.nodes-node-items.result.now i c.node-item.result c.loop-node-test.true c.node-item.is in
    mark_next c.args.grammar.now c.args.sets.now c.args.meetings.now i c.loop-node.marks.items c.mark_node.new.marks.items c.node-item.result c.loop-node.invariant at
    c.in_ok-mark_node.ensures.marked c.in_ok-mark_node.ensures.long c.in_ok-mark_node.ensures.more

pub returns : goal.returns
returns c =
    let most = c.loop-node-test.false in
    let least = c.loop-node.auto.node-index-end in
    let all : c.loop-node.node-index ≡ length c.nodes-node-items.result.now = omega arith in
    mark_all c.args.grammar.now c.args.sets.now c.args.meetings.now c.loop-node.node-index c.loop-node.marks.items c.loop-node.invariant (all ∙ ap length c.nodes-node-items.ensures.all)
