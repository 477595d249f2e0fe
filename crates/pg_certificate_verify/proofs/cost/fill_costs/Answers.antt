use Rattle.std.proofs.Common.{◌≡◌, ◌-◌, ◌<◌, length, get_or, refl, ap, ◌∙◌, arith}
use Rattle.std.proofs.lemmas.Option.{slice_get_read}
use Rattle.pg_predict_costs.specs.Steps.{cut_off}
use Rattle.pg_certificate_verify.specs.Cost.{cost_by}
use Rattle.pg_certificate_verify.proofs.Locality.{cost_local}
use Rattle.pg_certificate_verify.proofs.OnePass.{still_kept}
use Rattle.pg_certificate_verify.proofs.cost.fill_costs.Goals as goal

pub loop-p-preserved : goal.loop-p-preserved
loop-p-preserved c =
    let g = c.args.grammar.now in
    let i = c.loop-p.p - 1 in
    let kept = c.loop-p.costs in
    let node = c.index-nodes-p.result in
    let nodes = c.nodes-nodes.ensures.all in
    let same = ap length nodes in
    let inside : i < length g.nodes = omega arith in
    let below : i < length kept = omega arith in
    let read : node ≡ get_or g.nodes i node = c.index-nodes-p.is ∙ ap (λ ns. get_or ns i node) nodes in
    let at = slice_get_read g.nodes (length g.nodes) i node refl inside read in
    let is = c.cost_of-cost.ensures in
    rw is
    (record { each = still_kept 0 (λ cost n. cut_off (cost_by g c.args.claims.now c.args.nullable.now cost n)) g kept i node (cost_local g c.args.claims.now c.args.nullable.now) c.nodes-nodes.ensures.grammar.preorder below at (λ p later. c.loop-p.invariant.each p (omega arith)) })
