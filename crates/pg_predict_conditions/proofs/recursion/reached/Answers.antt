use Rattle.std.proofs.Common.{◌≡◌, ◌<◌, ◌+◌, not, count_by, length, refl, sym, ap, subst, ◌∙◌, arith, replicate, false}
use Rattle.std.proofs.lemmas.Option.{slice_get_read}
use Rattle.pg_graph.specs.Graphs.{numbers_at}
use Rattle.pg_graph.specs.Walk.{Met, with_all_met}
use Rattle.pg_graph.proofs.Walking.{HasWalked, meets_all, walk_starts, walk_goes_on, walk_ends}
use Rattle.pg_predict_conditions.proofs.recursion.reached.Goals as goal

pub loop-next-init : goal.loop-next-init
loop-next-init c =
    let marks = c.in_ok-marks.ensures.items_if_clones_equal (λ y e. e) in
    let few = c.requires in
    subst (λ m. HasWalked c.args.sets.now.heads c.args.roots.now m 0) (sym c.in_ok-meet_all.ensures)
    (walk_starts c.args.sets.now.heads c.args.roots.now c.in_ok-marks.marks.items c.new-met.result.items (marks ∙ ap (λ n. replicate n false) few) c.new-met.ensures.items)

pub loop-next-preserved : goal.loop-next-preserved
loop-next-preserved c =
    let graph = c.args.sets.now.heads in
    let met = c.loop-next.met.items in
    let before : Met = record { marks = c.loop-next.marks.items; met = met } in
    let rule = c.index.result.now in
    let within : c.loop-next.next < length met = omega arith in
    let at = slice_get_read met (length met) c.loop-next.next rule refl within c.index.ensures in
    let targets : c.heads.result.now ≡ numbers_at graph rule = c.heads.ensures ∙ ap (numbers_at graph) c.new-rule.ensures in
    let after = c.in_ok-meet_all-2.ensures ∙ ap (λ ns. with_all_met ns before) targets in
    subst (λ m. HasWalked graph c.args.roots.now m (c.loop-next.next + 1)) (sym after) (walk_goes_on graph c.args.roots.now before c.loop-next.next rule c.loop-next.invariant at)

pub loop-next-smaller : goal.loop-next-smaller
loop-next-smaller c =
    let before : Met = record { marks = c.loop-next.marks.items; met = c.loop-next.met.items } in
    let meets = meets_all c.heads.result.now before c.loop-next.invariant.tidy in
    let same = ap (λ m. count_by not m.marks + length m.met) c.in_ok-meet_all-2.ensures in
    let few = meets.fewer in
    let within : c.loop-next.next < length c.loop-next.met.items = omega arith in
    omega arith

pub returns : goal.returns
returns c = λ v. (
  c.loop-next.invariant.reached v,
  walk_ends c.args.sets.now.heads c.args.roots.now (record { marks = c.loop-next.marks.items; met = c.loop-next.met.items }) c.loop-next.next c.loop-next.invariant (omega arith) v,
)
