use Rattle.std.proofs.Common.{rules, ◌≡◌, ◌<◌, ◌+◌, ◌++◌, ◌∷◌, [], length, take, ap, sym, ◌∙◌}
use Rattle.std.proofs.lemmas.List.{take_more}
use Rattle.pg_certificate_verify.proofs.Standing.{both_grow}
use Rattle.pg_certificate_verify.proofs.starts.starts_of_claims.Goals as goal

pub loop-one-preserved : goal.loop-one-preserved
loop-one-preserved c =
    let g = c.args.basis.now.grammar.now in
    let k = c.loop-one.one-index in
    let claimed = c.args.claimed.now in
    let one = c.one-item.result in
    let inside : k < length claimed = search rules in
    let taken : take (k + 1) claimed ≡ take k claimed ++ one ∷ [] = take_more claimed k one inside ∙ ap (λ y. take k claimed ++ y ∷ []) (sym c.one-item.is) in
    λ listed. rw (taken, c.in_ok-append.ensures.items)
    (both_grow g (take k claimed) one c.loop-one.starts.items c.in_ok-more.more.items listed (c.loop-one.invariant listed) (c.in_ok-more.ensures listed))
