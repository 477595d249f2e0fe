use Rattle.std.proofs.Common.{◌≡◌, ◌<◌, ◌+◌, [], false, true, length, drop, slice_set, sym, ap, subst, ◌∙◌, arith}
use Rattle.std.proofs.lemmas.List.{take_at, get_or_read}
use Rattle.pg_graph.specs.Graphs.{numbers_at}
use Rattle.pg_graph.specs.Marks.{is_marked}
use Rattle.pg_graph.specs.Spread.{with_number_each, IsHandedOn, vertex_at}
use Rattle.pg_graph_bits.proofs.Inside.{contains_below}
use Rattle.pg_graph.proofs.Spreading.{AreRooted, rooted_more, spreading_starts, spreading_on, spreading_ends}
use Rattle.pg_graph.proofs.handing.spread.Goals as goal

pub loop-number-preserved : goal.loop-number-preserved
loop-number-preserved c =
    let graph = c.args.graph.now in
    let roots = c.args.roots.now in
    let k = c.loop-number.number in
    let sets = c.loop-number.sets.items in
    let new = c.insert_each.new.sets in
    let long : length new ≡ c.loop-number.sets.len = omega arith in
    let inside : k < length roots = omega arith in
    let from : c.as_slice.result.now ≡ numbers_at roots k = c.as_slice.ensures ∙ get_or_read roots k c.index-roots-number.result inside c.index-roots-number.is [] in
    let after : new ≡ with_number_each sets (numbers_at roots k) k =
    c.insert_each.ensures ∙ (ap (λ ss. with_number_each ss c.as_slice.result.now k) c.deref_mut.ensures.value ∙ ap (λ at. with_number_each sets at k) from) in
    rw (take_at new (drop (length new) sets) c.loop-number.sets.len long)
    (subst (AreRooted graph roots (k + 1)) (sym after) (rooted_more graph roots k sets inside c.loop-number.invariant))

pub loop-next-init : goal.loop-next-init
loop-next-init c =
    let waits = c.in_ok-waits.ensures.items_if_clones_equal (λ y e. e) in
    let all : c.loop-number.number ≡ length c.args.roots.now = omega arith in
    spreading_starts c.args.graph.now c.args.roots.now c.loop-number.sets.items c.in_ok-waits.waits.items
    (subst (λ n. AreRooted c.args.graph.now c.args.roots.now n c.loop-number.sets.items) all c.loop-number.invariant) waits

pub loop-next-preserved : goal.loop-next-preserved
loop-next-preserved c =
    let graph = c.args.graph.now in
    let roots = c.args.roots.now in
    let sets = c.loop-next.sets.items in
    let waits = c.loop-next.waits.items in
    let vertex = c.vertex_at-vertex.result in
    let new = c.hand_on.new.sets in
    let waiting = c.hand_on.new.waits in
    let marks = slice_set waits vertex false in
    let all : length c.deref.result.now ≡ length graph = ap length c.deref.ensures.value ∙ c.loop-next.invariant.marks in
    let waited : is_marked waits vertex ≡ true =
    ap (is_marked waits) (c.vertex_at-vertex.ensures ∙ ap (λ n. vertex_at n c.in-Some.next) (sym all)) ∙ subst (λ ws. is_marked ws (vertex_at (length c.deref.result.now) c.in-Some.next) ≡ true) c.deref.ensures.value c.in-Some.ensures.1 in
    let inside : vertex < length graph = subst (λ n. vertex < n) c.loop-next.invariant.marks (contains_below waits vertex waited) in
    let edges : c.as_slice-in-Some.result.now ≡ numbers_at graph vertex = c.as_slice-in-Some.ensures ∙ get_or_read graph vertex c.index-graph-vertex.result inside c.index-graph-vertex.is [] in
    let handed = subst (λ es. IsHandedOn es vertex sets marks new waiting) edges
    (subst (λ ss. IsHandedOn c.as_slice-in-Some.result.now vertex ss marks new waiting) c.deref_mut-in-Some.ensures.value
    (subst (λ ws. IsHandedOn c.as_slice-in-Some.result.now vertex c.deref_mut-in-Some.result.now ws new waiting) c.deref_mut-in-Some-2.ensures.value c.hand_on.ensures)) in
    let on = spreading_on graph roots sets waits c.loop-next.invariant vertex new waiting inside handed in
    let long : length new ≡ c.loop-next.sets.len = omega arith in
    let many : length waiting ≡ c.loop-next.waits.len = omega arith in
    rw (take_at new (drop (length new) sets) c.loop-next.sets.len long) (rw (take_at waiting (drop (length waiting) marks) c.loop-next.waits.len many) on)

pub returns : goal.returns
returns c =
    spreading_ends c.args.graph.now c.args.roots.now c.loop-next.sets.items c.loop-next.waits.items c.loop-next.invariant
    (λ v. subst (λ ws. is_marked ws v ≡ false) c.deref.ensures.value (c.in_default.ensures v))
