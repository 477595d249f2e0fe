use Rattle.std.proofs.Common.{◌≡◌, ◌+◌, ◌<◌, length, drop, ap, ◌∙◌, arith}
use Rattle.std.proofs.lemmas.List.{with_items_is}
use Rattle.pg_sets.specs.Flows.{with_flows}
use Rattle.pg_certificate_verify.specs.Edges.{claim_flows, flows_of_each}
use Rattle.pg_certificate_verify.proofs.EdgeLists.{each_step}
use Rattle.pg_certificate_verify.proofs.edges.claim_graph.Goals as goal

pub loop-number-preserved : goal.loop-number-preserved
loop-number-preserved c =
    let nodes = c.nodes-nodes.result.now in
    let rules = length c.rules-rules.result.now in
    let k = c.loop-number.number in
    let graph = c.loop-number.graph.items in
    let node = c.index-nodes-number.result in
    let new = c.join_claims.new.graph in
    let flows = claim_flows c.args.nullable.now c.args.keys.now (length nodes) rules in
    let inside : k < length nodes = omega arith in
    let long : length new ≡ c.loop-number.graph.len = omega arith in
    let items = with_items_is c.loop-number.graph new long in
    let added : new ≡ with_flows graph (flows k node) = c.in_ok-join_claims.ensures ∙ ap (λ gr. with_flows gr (flows k node)) c.deref_mut.ensures.value in
    ap (λ gr. with_flows gr (flows_of_each flows (k + 1) (drop (k + 1) nodes))) items
    ∙ each_step flows graph new _ k nodes node inside c.index-nodes-number.is added c.loop-number.invariant
