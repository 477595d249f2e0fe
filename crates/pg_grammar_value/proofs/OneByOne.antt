-- A fact of all elements of a list, seen one element after another.
use Rattle.std.proofs.Common.{◌≡◌, ◌↔◌, ℕ, suc, ◌+◌, List, ◌∷◌, drop, get_or, ◌<◌, length, ap, sym, ◌∙◌, add-one, drop-cons}
use Rattle.std.specs.List.{AllByRecursion}

-- of the element after the first n, and of those after it, where it holds of all that are after the first n
both-after : {X : Type 0} (P : X → Type 0) (xs : List X) (n : ℕ) (x : X) → n < length xs → x ≡ get_or xs n x
    → AllByRecursion P (drop n xs) ↔ (P x × AllByRecursion P (drop (n + 1) xs))
both-after P xs n x within is =
    let next : drop n xs ≡ x ∷ drop (n + 1) xs = rw add-one (drop-cons xs n x within ∙ ap (λ y. y ∷ drop (suc n) xs) (sym is)) in
    rw next ((λ h. h), (λ h. h))

-- of all, if it does of those after one more, which it holds of
pub all-but-next : {X : Type 0} (P : X → Type 0) (xs : List X) (n : ℕ) (x : X) → n < length xs → x ≡ get_or xs n x → P x
    → (AllByRecursion P (drop n xs) ↔ AllByRecursion P xs) → AllByRecursion P (drop (n + 1) xs) ↔ AllByRecursion P xs
all-but-next P xs n x within is here all =
    let both = both-after P xs n x within is in
    ((λ h. all.0 (both.1 (here, h))), (λ h. (both.0 (all.1 h)).1))
