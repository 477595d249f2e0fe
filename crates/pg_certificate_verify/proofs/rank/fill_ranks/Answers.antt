use Rattle.std.proofs.Common.{◌≡◌, ◌-◌, ◌<◌, length, get_or, refl, ap, ◌∙◌, arith}
use Rattle.std.proofs.lemmas.Option.{slice_get_read}
use Rattle.pg_certificate_verify.specs.Rank.{rank_by}
use Rattle.pg_certificate_verify.proofs.Locality.{rank_local}
use Rattle.pg_certificate_verify.proofs.OnePass.{still_kept}
use Rattle.pg_certificate_verify.proofs.rank.fill_ranks.Goals as goal

pub loop-p-preserved : goal.loop-p-preserved
loop-p-preserved c =
    let g = c.args.grammar.now in
    let i = c.loop-p.p - 1 in
    let kept = c.loop-p.ranks in
    let node = c.index-nodes-p.result in
    let nodes = c.nodes-nodes.ensures.all in
    let same = ap length nodes in
    let inside : i < length g.nodes = omega arith in
    let below : i < length kept = omega arith in
    let read : node ≡ get_or g.nodes i node = c.index-nodes-p.is ∙ ap (λ ns. get_or ns i node) nodes in
    let at = slice_get_read g.nodes (length g.nodes) i node refl inside read in
    let is = c.rank_of-rank.ensures in
    rw is
    (record { each = still_kept 0 (rank_by c.args.claims.now c.args.nullable.now) g kept i node (rank_local c.args.claims.now c.args.nullable.now) c.nodes-nodes.ensures.grammar.preorder below at (λ p later. c.loop-p.invariant.each p (omega arith)) })
