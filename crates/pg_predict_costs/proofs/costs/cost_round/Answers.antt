use Rattle.std.proofs.Common.{◌≡◌, ◌-◌, ◌<◌, ◌≤◌, length, slice_get, get_or, refl, sym, ap, subst, inl, inr, ◌∙◌, arith}
use Rattle.std.proofs.lemmas.Bool.{cases_eq, true≢false}
use Rattle.std.proofs.lemmas.Option.{slice_get_read, same_Some}
use Rattle.pg_predict_costs.specs.Steps.{number_at, cut_off}
use Rattle.pg_predict_costs.specs.Costs.{node_cost}
use Rattle.pg_predict_costs.proofs.Growing.{still_low, less_room}
use Rattle.pg_predict_costs.proofs.costs.cost_round.Goals as goal

pub loop-p-preserved-then-cost-so_far : goal.loop-p-preserved-then-cost-so_far
loop-p-preserved-then-cost-so_far c =
    let g = c.args.grammar.now in
    let nullable = c.args.sets.now.nullable in
    let i = c.loop-p.p - 1 in
    let costs = c.loop-p.costs in
    let node = c.index-nodes-p.result in
    let nodes = c.nodes-nodes.ensures.all in
    let same = ap length nodes in
    let inside : i < length g.nodes = omega arith in
    let below : i < length costs = omega arith in
    let read : node ≡ get_or g.nodes i node = c.index-nodes-p.is ∙ ap (λ ns. get_or ns i node) nodes in
    let at = slice_get_read g.nodes (length g.nodes) i node refl inside read in
    let is = c.node_cost-cost.ensures in
    let was = c.number_at-so_far.ensures in
    let higher = c.if-cost-so_far.true in
    let room = less_room costs i (node_cost g nullable (number_at costs) node) below (omega arith) in
    let most = c.loop-p.invariant.no_more in
    rw (is)
    (record {
      low = still_low g nullable costs i node below at c.loop-p.invariant.low;
      no_more = omega arith;
      more = omega arith;
      settled = λ e p least n known. absurd (true≢false e);
    })

pub loop-p-preserved : goal.loop-p-preserved
loop-p-preserved c =
    let g = c.args.grammar.now in
    let nullable = c.args.sets.now.nullable in
    let i = c.loop-p.p - 1 in
    let costs = c.loop-p.costs in
    let node = c.index-nodes-p.result in
    let nodes = c.nodes-nodes.ensures.all in
    let same = ap length nodes in
    let inside : i < length g.nodes = omega arith in
    let below : i < length costs = omega arith in
    let read : node ≡ get_or g.nodes i node = c.index-nodes-p.is ∙ ap (λ ns. get_or ns i node) nodes in
    let at = slice_get_read g.nodes (length g.nodes) i node refl inside read in
    let is = c.node_cost-cost.ensures in
    let was = c.number_at-so_far.ensures in
    let lower = c.if-cost-so_far.false in
    let here : cut_off (node_cost g nullable (number_at costs) node) ≤ number_at costs i = omega arith in
    record {
      low = c.loop-p.invariant.low;
      no_more = c.loop-p.invariant.no_more;
      more = c.loop-p.invariant.more;
      settled = λ e p least n known.
          elim (cases_eq p i) [
            | inr other ↦ c.loop-p.invariant.settled e p (omega arith) n known
            | inl where_it_is ↦
                let one = same_Some n node (sym known ∙ (ap (slice_get g.nodes) where_it_is ∙ at)) in
                subst (λ m. cut_off (node_cost g nullable (number_at costs) m) ≤ number_at costs p) (sym one)
                (subst (λ q. cut_off (node_cost g nullable (number_at costs) node) ≤ number_at costs q) (sym where_it_is) here)
          ];
    }
