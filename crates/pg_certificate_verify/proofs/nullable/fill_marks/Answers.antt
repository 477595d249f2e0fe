use Rattle.std.proofs.Common.{◌≡◌, ◌-◌, ◌<◌, false, length, get_or, refl, ap, ◌∙◌, arith}
use Rattle.std.proofs.lemmas.Option.{slice_get_read}
use Rattle.pg_certificate_verify.specs.Nullable.{nullable_by}
use Rattle.pg_certificate_verify.proofs.Locality.{nullable_local}
use Rattle.pg_certificate_verify.proofs.OnePass.{still_kept}
use Rattle.pg_certificate_verify.proofs.nullable.fill_marks.Goals as goal

pub loop-p-preserved : goal.loop-p-preserved
loop-p-preserved c =
    let g = c.args.grammar.now in
    let i = c.loop-p.p - 1 in
    let kept = c.loop-p.marks in
    let node = c.index-nodes-p.result in
    let nodes = c.nodes-nodes.ensures.all in
    let same = ap length nodes in
    let inside : i < length g.nodes = omega arith in
    let below : i < length kept = omega arith in
    let read : node ≡ get_or g.nodes i node = c.index-nodes-p.is ∙ ap (λ ns. get_or ns i node) nodes in
    let at = slice_get_read g.nodes (length g.nodes) i node refl inside read in
    let is = c.is_nullable-mark.ensures in
    rw is
    (record { each = still_kept false (nullable_by c.args.claims.now) g kept i node (nullable_local c.args.claims.now) c.nodes-nodes.ensures.grammar.preorder below at (λ p later. c.loop-p.invariant.each p (omega arith)) })
