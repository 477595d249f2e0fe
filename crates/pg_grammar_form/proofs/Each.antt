-- Facts that hold of each element of a list.
use Rattle.std.proofs.Common.{◌≡◌, ℕ, zero, suc, Bool, false, ◌||◌, List, [], ◌∷◌, take, drop, map, Some, slice_get, get_or, ◌<◌, length, arith, ap, subst, sym, refl}
use Rattle.std.proofs.lemmas.Bool.{or_parts}
use Rattle.std.specs.List.{AllByRecursion, list_any}

-- of the first n elements
pub all-take : {X : Type 0} (P : X → Type 0) (n : ℕ) (xs : List X) → AllByRecursion P xs → AllByRecursion P (take n xs)
all-take P zero xs h = tt
all-take P (suc n) [] h = tt
all-take P (suc n) (x ∷ xs) h = (h.0, all-take P n xs h.1)

-- of the elements after the first n
pub all-drop : {X : Type 0} (P : X → Type 0) (n : ℕ) (xs : List X) → AllByRecursion P xs → AllByRecursion P (drop n xs)
all-drop P zero xs h = h
all-drop P (suc n) [] h = tt
all-drop P (suc n) (x ∷ xs) h = all-drop P n xs h.1

-- a weaker fact
pub all-weaker : {X : Type 0} (P Q : X → Type 0) → ((x : X) → P x → Q x) → (xs : List X) → AllByRecursion P xs → AllByRecursion Q xs
all-weaker P Q w [] h = tt
all-weaker P Q w (x ∷ xs) h = (w x h.0, all-weaker P Q w xs h.1)

-- a fact of each image
pub all-map : {X Y : Type 0} (P : Y → Type 0) (f : X → Y) → (xs : List X) → AllByRecursion P (map f xs) → AllByRecursion (λ x. P (f x)) xs
all-map P f [] h = tt
all-map P f (x ∷ xs) h = (h.0, all-map P f xs h.1)

-- the element at a place
pub all-get : {X : Type 0} (P : X → Type 0) (xs : List X) (k : ℕ) (x : X) → AllByRecursion P xs → slice_get xs k ≡ Some x → P x
all-get P [] zero x h e = absurd cc
all-get P [] (suc k) x h e = absurd cc
all-get P (y ∷ ys) zero x h e = let same : y ≡ x = cc in subst P same h.0
all-get P (y ∷ ys) (suc k) x h e = all-get P ys k x h.1 e

-- a place within a list has an element
pub get-known : {X : Type 0} (xs : List X) (k : ℕ) (x : X) → k < length xs → x ≡ get_or xs k x → slice_get xs k ≡ Some x
get-known [] k x h e = absurd (omega arith)
get-known (y ∷ ys) zero x h e = ap Some (sym e)
get-known (y ∷ ys) (suc k) x h e = let below : k < length ys = omega arith in get-known ys k x below e

-- a test that fails at all images fails at the image of the element at a place
pub none-get : {X Y : Type 0} (p : Y → Bool) (f : X → Y) (xs : List X) (k : ℕ) (x : X) → list_any p (map f xs) ≡ false → slice_get xs k ≡ Some x → p (f x) ≡ false
none-get p f [] zero x h e = absurd cc
none-get p f [] (suc k) x h e = absurd cc
none-get p f (y ∷ ys) zero x h e = let same : y ≡ x = cc in subst (λ z. p (f z) ≡ false) same (or_parts (p (f y)) (list_any p (map f ys)) h).0
none-get p f (y ∷ ys) (suc k) x h e = none-get p f ys k x (or_parts (p (f y)) (list_any p (map f ys)) h).1 e

-- a test of the images is a test of the elements
pub any-map : {X Y : Type 0} (p : Y → Bool) (f : X → Y) (xs : List X) → list_any p (map f xs) ≡ list_any (λ x. p (f x)) xs
any-map p f [] = refl
any-map p f (x ∷ xs) = ap (λ b. p (f x) || b) (any-map p f xs)

-- a test that fails at all elements fails at the element at a place
pub none-at : {X : Type 0} (p : X → Bool) (xs : List X) (k : ℕ) (x : X) → list_any p xs ≡ false → slice_get xs k ≡ Some x → p x ≡ false
none-at p [] zero x h e = absurd cc
none-at p [] (suc k) x h e = absurd cc
none-at p (y ∷ ys) zero x h e = let same : y ≡ x = cc in subst (λ z. p z ≡ false) same (or_parts (p y) (list_any p ys) h).0
none-at p (y ∷ ys) (suc k) x h e = none-at p ys k x (or_parts (p y) (list_any p ys) h).1 e
