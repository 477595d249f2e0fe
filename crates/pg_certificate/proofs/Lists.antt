-- What is so of all in a list, one by one.
use Rattle.std.proofs.Common.{◌≡◌, ◌≤◌, ◌<◌, ◌+◌, ◌-◌, ℕ, take, drop, get_or, List, [], ◌∷◌, ◌++◌, length, ap, sym, ◌∙◌, subst, arith}
use Rattle.std.specs.List.{AllByRecursion}
use Rattle.std.proofs.lemmas.List.{take_more, take_all}

all_last : {A : Type 0} (P : A → Type 0) (xs : List A) (x : A) → AllByRecursion P xs → P x → AllByRecursion P (xs ++ x ∷ [])
all_last P [] x h this = (this, tt)
all_last P (y ∷ ys) x h this = (h.0, all_last P ys x h.1 this)

-- one more
pub all_more : {A : Type 0} (P : A → Type 0) (xs : List A) (i : ℕ) (x : A) → i < length xs → x ≡ get_or xs i x → AllByRecursion P (take i xs) → P x
    → AllByRecursion P (take (i + 1) xs)
all_more P xs i x within same before this =
    subst (AllByRecursion P) (sym (take_more xs i x within ∙ ap (λ y. take i xs ++ y ∷ []) (sym same))) (all_last P (take i xs) x before this)

pub all_none : {A : Type 0} (P : A → Type 0) (xs : List A) → length xs < 1 → AllByRecursion P xs
all_none P [] few = tt
all_none P (x ∷ xs) few = absurd (omega arith)

-- a list is its first and the others
pub all_whole : {A : Type 0} (P : A → Type 0) (xs : List A) (i : ℕ) (x : A) → 1 ≤ length xs → x ≡ get_or xs 0 x → P x
    → length (take (length xs - 1) (drop 1 xs)) ≤ i → AllByRecursion P (take i (take (length xs - 1) (drop 1 xs))) → AllByRecursion P xs
all_whole P [] i x some is this whole rest = absurd (omega arith)
all_whole P (y ∷ ys) i x some is this whole rest = (
  subst P is this,
  subst (AllByRecursion P) (take_all i (take (length (y ∷ ys) - 1) ys) whole ∙ take_all (length (y ∷ ys) - 1) ys (omega arith)) rest,
)
