use Rattle.std.proofs.Common.{◌≡◌, ◌<◌, ◌+◌, [], not, count_by, length, refl, sym, ap, subst, ◌∙◌, arith}
use Rattle.std.proofs.lemmas.List.{get_or_read}
use Rattle.std.proofs.lemmas.Option.{slice_get_read}
use Rattle.pg_graph.specs.Graphs.{numbers_at}
use Rattle.pg_graph.specs.Walk.{Met, with_all_met}
use Rattle.pg_graph.proofs.Lists.{has_at}
use Rattle.pg_graph.proofs.Walking.{HasWalked, reached_below, meets_all, walk_starts, walk_goes_on, walk_ends}
use Rattle.pg_graph.proofs.walk.reached.Goals as goal

pub loop-next-init : goal.loop-next-init
loop-next-init c =
    let marks = c.in_ok-marks.ensures.items_if_clones_equal (λ y e. e) in
    subst (λ m. HasWalked c.args.graph.now c.args.roots.now m 0) (sym c.in_ok-meet_all.ensures) (walk_starts _ _ _ _ marks c.new-met.ensures.items)

pub prove-unreachable-requires : goal.prove-unreachable-requires
prove-unreachable-requires c =
    let met = c.loop-next.met.items in
    let vertex = c.index-vertex.result.now in
    let within : c.loop-next.next < length met = omega arith in
    let at = slice_get_read met (length met) c.loop-next.next vertex refl within c.index-vertex.ensures in
    let below = reached_below (c.loop-next.invariant.reached vertex (has_at met c.loop-next.next vertex at)) in
    omega arith

pub loop-next-preserved : goal.loop-next-preserved
loop-next-preserved c =
    let graph = c.args.graph.now in
    let roots = c.args.roots.now in
    let met = c.loop-next.met.items in
    let vertex = c.index-vertex.result.now in
    let before : Met = record { marks = c.loop-next.marks.items; met = met } in
    let within : c.loop-next.next < length met = omega arith in
    let at = slice_get_read met (length met) c.loop-next.next vertex refl within c.index-vertex.ensures in
    let inside : vertex < length graph = omega arith in
    let targets : c.as_slice.result.now ≡ numbers_at graph vertex = c.as_slice.ensures ∙ get_or_read graph vertex c.index-graph-vertex.result inside c.index-graph-vertex.is [] in
    let after = c.in_ok-meet_all-2.ensures ∙ ap (λ ns. with_all_met ns before) targets in
    subst (λ m. HasWalked graph roots m (c.loop-next.next + 1)) (sym after) (walk_goes_on graph roots before c.loop-next.next vertex c.loop-next.invariant at)

pub loop-next-smaller : goal.loop-next-smaller
loop-next-smaller c =
    let before : Met = record { marks = c.loop-next.marks.items; met = c.loop-next.met.items } in
    let after : Met = record { marks = c.meet_all-in-loop-next.new.marks.items; met = c.meet_all-in-loop-next.new.met.items } in
    let meets = meets_all c.as_slice.result.now before c.loop-next.invariant.tidy in
    let same = ap (λ m. count_by not m.marks + length m.met) c.in_ok-meet_all-2.ensures in
    let few = meets.fewer in
    let within : c.loop-next.next < length c.loop-next.met.items = omega arith in
    omega arith

pub returns-clause-reached : goal.returns-clause-reached
returns-clause-reached c = λ v. (
  c.loop-next.invariant.reached v,
  walk_ends c.args.graph.now c.args.roots.now (record { marks = c.loop-next.marks.items; met = c.loop-next.met.items }) c.loop-next.next c.loop-next.invariant (omega arith) v,
)
