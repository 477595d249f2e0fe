use Rattle.std.proofs.Common.{◌≡◌, ◌-◌, ◌<◌, length, get_or, refl, ap, ◌∙◌, arith}
use Rattle.std.proofs.lemmas.Option.{slice_get_read}
use Rattle.pg_predict_costs.proofs.Sizing.{still_sized}
use Rattle.pg_predict_costs.proofs.sizes.fill_sizes.Goals as goal

pub loop-p-preserved : goal.loop-p-preserved
loop-p-preserved c =
    let g = c.args.grammar.now in
    let i = c.loop-p.p - 1 in
    let sizes = c.loop-p.sizes in
    let node = c.index-nodes-p.result in
    let nodes = c.nodes-nodes.ensures.all in
    let same = ap length nodes in
    let inside : i < length g.nodes = omega arith in
    let below : i < length sizes = omega arith in
    let read : node ≡ get_or g.nodes i node = c.index-nodes-p.is ∙ ap (λ ns. get_or ns i node) nodes in
    let at = slice_get_read g.nodes (length g.nodes) i node refl inside read in
    let is = c.node_size-size.ensures in
    rw (is)
    (record { sized = still_sized g c.args.costs.now sizes i node c.nodes-nodes.ensures.grammar.preorder below at (λ p later. c.loop-p.invariant.sized p (omega arith)) })
