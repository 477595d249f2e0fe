use Rattle.std.proofs.Common.{◌≡◌, ◌<◌, ◌+◌, ◌-◌, ℕ, Bool, List, Some, slice_get, length, replicate, false, true≢false, refl, sym, ap, subst, ◌∙◌, arith}
use Rattle.std.specs.Prelude.{◌||◌}
use Rattle.std.proofs.lemmas.List.{length-replicate}
use Rattle.std.proofs.lemmas.Option.{slice_get_read}
use Rattle.pg_graph_bits.proofs.Inside.{contains_none}
use Rattle.pg_graph_bits.specs.Numbers.{contains}
use Rattle.pg_sets_own.specs.declared.listed.ListedStart.{ListedStart}
use Rattle.pg_certificate_verify.specs.Pairs.{HasFirstPair, HasNoPair}
use Rattle.pg_certificate_verify.proofs.Looking.{HaveLooked, look_none, look_more, two_found, none_meet}
use Rattle.pg_certificate_verify.proofs.alternatives.two_meet.Goals as goal

pub loop-next-init : goal.loop-next-init
loop-next-init c =
    let count = length c.args.sets.now.starts in
    let empty = replicate count false in
    subst (HaveLooked c.args.sets.now c.args.parts.now (length c.args.parts.now))
    (sym (c.in_ok-later.ensures ∙ ap (λ (xs : List ListedStart). replicate (length xs) false) c.starts-starts.ensures))
    (look_none c.args.sets.now c.args.parts.now empty (length-replicate {A = Bool} count false) (contains_none count))

pub unite-requires : goal.unite-requires
unite-requires c =
    let parts = c.args.parts.now in
    let next : ℕ = c.loop-next.next - 1 in
    let part = c.index-parts-next.result in
    let test = c.loop-next-test.true in
    let inside = c.loop-next.invariant.inside in
    let below : next < length parts = omega (arith, test, inside) in
    let at : slice_get parts next ≡ Some part = slice_get_read parts (length parts) next part refl below c.index-parts-next.is in
    c.loop-next.invariant.limit ∙ sym (ap length c.first-first.ensures ∙ c.requires next part at)

pub returns-then-is_pair : goal.returns-then-is_pair
returns-then-is_pair c = λ g formed.
    let sets = c.args.sets.now in
    let parts = c.args.parts.now in
    let next : ℕ = c.loop-next.next - 1 in
    let later = c.loop-next.later in
    let part = c.index-parts-next.result in
    let test = c.loop-next-test.true in
    let inside = c.loop-next.invariant.inside in
    let below : next < length parts = omega (arith, test, inside) in
    let one : c.loop-next.next ≡ next + 1 = omega (arith, test) in
    let at : slice_get parts next ≡ Some part = slice_get_read parts (length parts) next part refl below c.index-parts-next.is in
    let has = subst (λ set. HasFirstPair sets.starts set later) c.first-first.ensures
    (subst (λ xs. HasFirstPair xs c.first-first.result.now later) c.starts-starts.ensures (c.is_pair.ensures.met c.if-is_pair.true)) in
    (λ is. two_found sets parts next part later (subst (λ n. HaveLooked sets parts n later) one c.loop-next.invariant) at has g formed, λ two. refl)

pub loop-next-preserved : goal.loop-next-preserved
loop-next-preserved c =
    let sets = c.args.sets.now in
    let parts = c.args.parts.now in
    let next : ℕ = c.loop-next.next - 1 in
    let later = c.loop-next.later in
    let part = c.index-parts-next.result in
    let test = c.loop-next-test.true in
    let inside = c.loop-next.invariant.inside in
    let below : next < length parts = omega (arith, test, inside) in
    let one : c.loop-next.next ≡ next + 1 = omega (arith, test) in
    let at : slice_get parts next ≡ Some part = slice_get_read parts (length parts) next part refl below c.index-parts-next.is in
    let apart = subst (λ set. HasNoPair sets.starts set later) c.first-first.ensures
    (subst (λ xs. HasNoPair xs c.first-first.result.now later) c.starts-starts.ensures (c.is_pair.ensures.apart c.if-is_pair.false)) in
    look_more sets parts next part later (subst (λ n. HaveLooked sets parts n later) one c.loop-next.invariant) at c.unite.new.self apart c.unite.ensures.limit
    (λ n. c.unite.ensures.united n ∙ ap (λ set. contains later n || contains set n) c.first-first.ensures)

pub returns : goal.returns
returns c = λ g formed.
    let sets = c.args.sets.now in
    let parts = c.args.parts.now in
    let test = c.loop-next-test.false in
    let zero : c.loop-next.next ≡ 0 = omega (arith, test) in (
      λ is. absurd (true≢false (sym is)),
      λ two. absurd (none_meet g sets parts c.loop-next.later (subst (λ n. HaveLooked sets parts n c.loop-next.later) zero c.loop-next.invariant) formed two),
    )
