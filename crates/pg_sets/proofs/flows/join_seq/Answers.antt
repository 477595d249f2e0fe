use Rattle.std.proofs.Common.{◌≡◌, ◌∷◌, sym, ap, ◌∙◌}
use Rattle.pg_sets.specs.Flows.{follow_of, with_flows, flows_of_next, flows_of_some, flows_after_parts}
use Rattle.pg_sets.proofs.Flowing.{with_flows-append}
use Rattle.pg_sets.proofs.flows.join_seq.Goals as goal

pub loop-part-init : goal.loop-part-init
loop-part-init c =
    let some = flows_of_some c.args.nullable.now c.args.parts.now c.args.number in
    let following = flows_after_parts c.args.nullable.now c.args.count c.args.number c.args.parts.now in
    ap (λ graph. with_flows graph following) c.in_ok-join_some.ensures ∙ sym (with_flows-append c.args.graph.now some following)

pub loop-part-preserved : goal.loop-part-preserved
loop-part-preserved c =
    let nullable = c.args.nullable.now in
    let count = c.args.count in
    let number = c.args.number in
    let graph = c.loop-part.graph in
    let part = c.in-Some.part.now in
    let following = c.in-Some.after.now in
    let flows = flows_of_next nullable count following (follow_of count number) (follow_of count part) in
    let others = flows_after_parts nullable count number following in
    let spelled : c.loop-part.rest.now ≡ part ∷ following = c.in-Some.ensures.cases.0 in
    let from = c.follow_of.ensures in
    let to : c.follow_of-in-Some.result ≡ follow_of count part = c.follow_of-in-Some.ensures ∙ ap (follow_of count) c.index.ensures in
    let after : c.join_next.new.graph ≡ with_flows graph flows =
    c.in_ok-join_next.ensures
    ∙ (ap (λ b. with_flows graph (flows_of_next nullable count following b c.follow_of-in-Some.result)) from ∙ ap (λ t. with_flows graph (flows_of_next nullable count following (follow_of count number) t)) to) in
    ap (λ gr. with_flows gr others) after
    ∙ (sym (with_flows-append graph flows others) ∙ (ap (λ rest. with_flows graph (flows_after_parts nullable count number rest)) (sym spelled) ∙ c.loop-part.invariant))
