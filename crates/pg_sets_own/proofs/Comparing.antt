-- Several comparisons in turn: those after the first that decides aren't made.
use Rattle.std.proofs.Common.{◌≡◌, true, false, refl, sym}
use Rattle.std.proofs.Common.{Less, Equal, Greater}
use Rattle.std.specs.Ordering.{is_ne, ordering_then}
use Rattle.std.specs.declared.cmp.Ordering.{Ordering}
use Rattle.std.proofs.lemmas.Bool.{true≢false}

-- seven comparisons, with the first two already joined
abbrev pub compared : Ordering → Ordering → Ordering → Ordering → Ordering → Ordering → Ordering
compared keys ranges words heads rests reserved =
    ordering_then (ordering_then (ordering_then (ordering_then (ordering_then keys ranges) words) heads) rests) reserved

pub by_keys : (k r w h e s : Ordering) → is_ne k ≡ true → compared k r w h e s ≡ k
by_keys Less r w h e s is = refl
by_keys Equal r w h e s is = absurd (true≢false (sym is))
by_keys Greater r w h e s is = refl

told : (o h e s : Ordering) → is_ne o ≡ true → ordering_then (ordering_then (ordering_then o h) e) s ≡ o
told Less h e s is = refl
told Equal h e s is = absurd (true≢false (sym is))
told Greater h e s is = refl

pub by_names : (k r w h e s : Ordering) → is_ne k ≡ false → is_ne (ordering_then r w) ≡ true → compared k r w h e s ≡ ordering_then r w
by_names Less r w h e s not_keys is = absurd (true≢false not_keys)
by_names Equal r w h e s not_keys is = told (ordering_then r w) h e s is
by_names Greater r w h e s not_keys is = absurd (true≢false not_keys)

untold : (o h e s : Ordering) → is_ne o ≡ false → ordering_then (ordering_then (ordering_then o h) e) s ≡ ordering_then (ordering_then h e) s
untold Less h e s not_keys = absurd (true≢false not_keys)
untold Equal h e s not_keys = refl
untold Greater h e s not_keys = absurd (true≢false not_keys)

pub by_parts : (k r w h e s : Ordering) → is_ne k ≡ false → is_ne (ordering_then r w) ≡ false → compared k r w h e s ≡ ordering_then (ordering_then h e) s
by_parts Less r w h e s not_keys not_named = absurd (true≢false not_keys)
by_parts Equal r w h e s not_keys not_named = untold (ordering_then r w) h e s not_named
by_parts Greater r w h e s not_keys not_named = absurd (true≢false not_keys)
