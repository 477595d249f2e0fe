use Rattle.std.proofs.Common.{◌≡◌, ◌<◌, ◌-◌, ℕ, Some, slice_get, length, true≢false, refl, sym, subst, ◌∙◌, arith}
use Rattle.std.specs.Prelude.{◌↔◌, IsTrue}
use Rattle.std.proofs.lemmas.Option.{slice_get_read}
use Rattle.pg_sets.specs.Sets.{HasStart}
use Rattle.pg_certificate_verify.specs.Breaking.{BeginsBy, FollowsBy, SomeMeet}
use Rattle.pg_certificate_verify.proofs.Looking.{none_of_more}
use Rattle.pg_certificate_verify.proofs.alternatives.one_meets_follow.Goals as goal

pub returns-then-sets_meet : goal.returns-then-sets_meet
returns-then-sets_meet c = λ g formed.
    let starts = c.args.sets.now.starts in
    let parts = c.args.parts.now in
    let place : ℕ = c.loop-place.place - 1 in
    let part = c.index-parts-early.result in
    let least = c.loop-place.auto.place in
    let test = c.loop-place-test.true in
    let below : place < length parts = omega (arith, least, test) in
    let at : slice_get parts place ≡ Some part = slice_get_read parts (length parts) place part refl below c.index-parts-early.is in
    let r = c.sets_meet.result in
    let told = subst (λ xs. IsTrue r ↔ SomeMeet g (HasStart starts xs) (FollowsBy c.args.sets.now c.args.node)) c.first.ensures
    (subst (λ xs. IsTrue r ↔ SomeMeet g (HasStart starts c.first.result.now) (HasStart starts xs)) c.follow.ensures (c.sets_meet.ensures g formed)) in
    (λ is. record { place = place; part = part; there = at; early = omega (arith, least, test); meet = told.0 c.if-sets_meet.true }, λ some. refl)

pub loop-place-preserved : goal.loop-place-preserved
loop-place-preserved c = λ g formed.
    let starts = c.args.sets.now.starts in
    let parts = c.args.parts.now in
    let place : ℕ = c.loop-place.place - 1 in
    let part = c.index-parts-early.result in
    let least = c.loop-place.auto.place in
    let test = c.loop-place-test.true in
    let below : place < length parts = omega (arith, least, test) in
    let at : slice_get parts place ≡ Some part = slice_get_read parts (length parts) place part refl below c.index-parts-early.is in
    let r = c.sets_meet.result in
    let told = subst (λ xs. IsTrue r ↔ SomeMeet g (HasStart starts xs) (FollowsBy c.args.sets.now c.args.node)) c.first.ensures
    (subst (λ xs. IsTrue r ↔ SomeMeet g (HasStart starts c.first.result.now) (HasStart starts xs)) c.follow.ensures (c.sets_meet.ensures g formed)) in
    none_of_more parts (λ q. SomeMeet g (BeginsBy c.args.sets.now q) (FollowsBy c.args.sets.now c.args.node)) c.loop-place.place part (omega (arith, least))
    (c.loop-place.invariant g formed) at (λ some. true≢false (sym (told.1 some) ∙ c.if-sets_meet.false))

pub returns : goal.returns
returns c = λ g formed.
    let test = c.loop-place-test.false in (
      λ is. absurd (true≢false (sym is)),
      λ some. (let early = some.early in absurd (c.loop-place.invariant g formed some.place some.part (omega (arith, early, test)) some.there some.meet)),
    )
