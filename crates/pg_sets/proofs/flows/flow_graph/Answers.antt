use Rattle.std.proofs.Common.{◌≡◌, ◌+◌, ◌<◌, ◌∷◌, suc, length, drop, sym, ap, ◌∙◌, arith}
use Rattle.std.proofs.lemmas.List.{with_items_is, drop_more}
use Rattle.std.proofs.Math.Numerals.{add-one}
use Rattle.pg_sets.specs.Flows.{with_flows, node_flows, all_flows}
use Rattle.pg_sets.proofs.Flowing.{with_flows-append}
use Rattle.pg_sets.proofs.flows.flow_graph.Goals as goal

pub loop-number-preserved : goal.loop-number-preserved
loop-number-preserved c =
    let rules = c.rules-rules.result.now in
    let nodes = c.nodes-nodes.result.now in
    let nullable = c.args.nullable.now in
    let keys = c.args.keys.now in
    let count = length nodes in
    let k = c.loop-number.number in
    let graph = c.loop-number.graph.items in
    let node = c.index-nodes-number.result in
    let new = c.join_node.new.graph in
    let flows = node_flows rules nullable keys count k node in
    let others = all_flows rules nullable keys count (suc k) (drop (k + 1) nodes) in
    let inside : k < length nodes = omega arith in
    let long : length new ≡ c.loop-number.graph.len = omega arith in
    let items = with_items_is c.loop-number.graph new long in
    let after : new ≡ with_flows graph flows = c.in_ok-join_node.ensures ∙ ap (λ gr. with_flows gr flows) c.deref_mut.ensures.value in
    let rest : drop k nodes ≡ node ∷ drop (k + 1) nodes = drop_more nodes k node inside ∙ ap (λ n. n ∷ drop (k + 1) nodes) (sym c.index-nodes-number.is) in
    ap (λ gr. with_flows gr (all_flows rules nullable keys count (k + 1) (drop (k + 1) nodes))) items
    ∙ (ap (λ n. with_flows new (all_flows rules nullable keys count n (drop (k + 1) nodes))) (add-one k)
    ∙ (ap (λ gr. with_flows gr others) after
    ∙ (sym (with_flows-append graph flows others)
    ∙ (ap (λ ns. with_flows graph (all_flows rules nullable keys count k ns)) (sym rest) ∙ c.loop-number.invariant))))
