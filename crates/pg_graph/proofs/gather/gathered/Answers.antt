use Rattle.std.proofs.Common.{◌≡◌, ◌+◌, ◌<◌, [], length, drop, sym, ap, subst, ◌∙◌, arith}
use Rattle.std.proofs.lemmas.List.{take_at, get_or_read}
use Rattle.pg_graph.specs.Graphs.{numbers_at, joined_each, IsReached, IsGathered}
use Rattle.pg_graph.proofs.Joining.{gather_none, gather_more}
use Rattle.pg_graph.proofs.gather.gathered.Goals as goal

pub loop-number-init : goal.loop-number-init
loop-number-init c = gather_none c.args.graph.now c.args.roots.now _ c.in_ok-sets.ensures

pub loop-number-preserved : goal.loop-number-preserved
loop-number-preserved c =
    let graph = c.args.graph.now in
    let roots = c.args.roots.now in
    let k = c.loop-number.number in
    let sets = c.loop-number.sets.items in
    let met = c.in_ok-met.met.items in
    let new = c.join_each.new.lists in
    let long : length new ≡ c.loop-number.sets.len = omega arith in
    let inside : k < length roots = omega arith in
    let from : c.as_slice.result.now ≡ numbers_at roots k = c.as_slice.ensures ∙ get_or_read roots k c.index-roots-number.result inside c.index-roots-number.is [] in
    let after : new ≡ joined_each sets met k =
    c.in_ok-join_each.ensures
    ∙ (ap (λ lists. joined_each lists c.as_slice-in-loop-number.result.now k) c.deref_mut.ensures.value ∙ ap (λ at. joined_each sets at k) c.as_slice-in-loop-number.ensures.value) in
    rw (take_at new (drop (length new) sets) c.loop-number.sets.len long)
    (subst (IsGathered graph roots (k + 1)) (sym after)
    (gather_more graph roots k sets met c.loop-number.invariant c.in_ok-met.ensures.once
    (λ v. (
      λ h. subst (λ rs. IsReached graph rs v) from ((c.in_ok-met.ensures.reached v).0 h),
      λ h. (c.in_ok-met.ensures.reached v).1 (subst (λ rs. IsReached graph rs v) (sym from) h),
    ))))
