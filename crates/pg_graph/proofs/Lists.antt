-- Facts on lists.
use Rattle.std.proofs.Common.{◌≡◌, ◌≢◌, ℕ, zero, suc, Bool, true, false, ◌||◌, ◌⊎◌, inl, inr, List, [], ◌∷◌, ◌++◌, Some, None, slice_get, map, length, ◌<◌, arith, refl, ap, sym, ◌∙◌}
use Rattle.std.specs.Prelude.{◌==◌}
use Rattle.std.specs.List.{list_any}
use Rattle.std.proofs.Math.Bool.{or-false}
use Rattle.std.proofs.lemmas.Bool.{eq-eqb, eqb-true, ne_eqb, or_left, or_right, or_cases, or_parts, or_from, true≢false}
use Rattle.std.proofs.lemmas.List.Folds.{list_any-append}
use Rattle.pg_graph.specs.Graphs.{has, numbers_at, AreOnce}
use Rattle.pg_graph.specs.Marks.{is_marked}

-- an element that passes a test, and where it stands
pub record Passes {X : Type 0} (test : X → Bool) (xs : List X) : Type 0 where
  pub place : ℕ
  pub element : X
  pub there : slice_get xs place ≡ Some element
  pub passes : test element ≡ true

-- where a test passes, an element passes it
pub passes-from_any : {X : Type 0} (test : X → Bool) (xs : List X) → list_any test xs ≡ true → Passes test xs
passes-from_any test [] e = absurd cc
passes-from_any {X} test (x ∷ xs) e = go (test x) refl e (λ h. passes-from_any test xs h)
  where
    go : (b : Bool) → test x ≡ b → (b || list_any test xs) ≡ true → (list_any test xs ≡ true → Passes test xs) → Passes test (x ∷ xs)
    go true is h ih = record { place = zero; element = x; there = refl; passes = is }
    go false is h ih = let rest = ih h in record { place = suc rest.place; element = rest.element; there = rest.there; passes = rest.passes }

-- the numbers that an element has among those of all
pub map_at : {X : Type 0} (f : X → List ℕ) (xs : List X) (k : ℕ) (x : X) → slice_get xs k ≡ Some x → numbers_at (map f xs) k ≡ f x
map_at f [] zero x e = absurd cc
map_at f [] (suc k) x e = absurd cc
map_at f (y ∷ ys) zero x e = let same : y ≡ x = cc in ap f same
map_at f (y ∷ ys) (suc k) x e = map_at f ys k x e

pub map_past : {X : Type 0} (f : X → List ℕ) (xs : List X) (k : ℕ) → slice_get xs k ≡ None → numbers_at (map f xs) k ≡ []
map_past f [] zero e = refl
map_past f [] (suc k) e = refl
map_past f (y ∷ ys) zero e = absurd cc
map_past f (y ∷ ys) (suc k) e = map_past f ys k e

-- ---- numbers among others

-- a number that stands at a place is there
pub has_at : (xs : List ℕ) (k n : ℕ) → slice_get xs k ≡ Some n → has xs n ≡ true
has_at [] zero n e = absurd cc
has_at [] (suc k) n e = absurd cc
has_at (x ∷ xs) zero n e = let same : x ≡ n = cc in or_left (x == n) (has xs n) (eq-eqb x n same)
has_at (x ∷ xs) (suc k) n e = or_right (x == n) (has xs n) (has_at xs k n e)

-- where a number stands that is there
pub record StandsIn (xs : List ℕ) (n : ℕ) : Type 0 where
  pub place : ℕ
  pub there : slice_get xs place ≡ Some n

pub stands : (xs : List ℕ) (n : ℕ) → has xs n ≡ true → StandsIn xs n
stands xs n e =
    let found = passes-from_any (λ m. m == n) xs e in
    record { place = found.place; there = found.there ∙ ap Some (eqb-true found.element n found.passes) }

-- one number more
pub has_push : (xs : List ℕ) (n m : ℕ) → has (xs ++ n ∷ []) m ≡ (has xs m || (n == m))
has_push xs n m = list_any-append (λ x. x == m) xs (n ∷ []) ∙ ap (λ b. has xs m || b) (or-false (n == m))

pub has_append : (xs ys : List ℕ) (m : ℕ) → has (xs ++ ys) m ≡ (has xs m || has ys m)
has_append xs ys m = list_any-append (λ x. x == m) xs ys

pub has_first : (xs : List ℕ) (n : ℕ) → has (n ∷ xs) n ≡ true
has_first xs n = or_left (n == n) (has xs n) (eq-eqb n n refl)

pub has_after : (xs : List ℕ) (n m : ℕ) → has xs m ≡ true → has (n ∷ xs) m ≡ true
has_after xs n m h = or_right (n == m) (has xs m) h

-- the first, or one after it
pub has_cases : (xs : List ℕ) (n m : ℕ) → has (n ∷ xs) m ≡ true → (n ≡ m) ⊎ (has xs m ≡ true)
has_cases xs n m h = elim (or_cases (n == m) (has xs m) h) [ inl e ↦ inl (eqb-true n m e) | inr e ↦ inr e ]

pub has_other : (xs : List ℕ) (n m : ℕ) → n ≢ m → has (n ∷ xs) m ≡ has xs m
has_other xs n m ne = ap (λ b. b || has xs m) (ne_eqb n m ne)

-- a number among one is that one
pub only_one : (n m : ℕ) → has (n ∷ []) m ≡ true → n ≡ m
only_one n m h = elim (has_cases [] n m h) [ inl e ↦ e | inr none ↦ absurd (true≢false (sym none)) ]

-- a number more that isn't among those that stand once
pub once_push : (xs : List ℕ) (x : ℕ) → AreOnce xs → has xs x ≡ false → AreOnce (xs ++ x ∷ [])
once_push [] x once out = (refl, tt)
once_push (y ∷ ys) x once out =
    let parts = or_parts (y == x) (has ys x) out in
    let ne : (x == y) ≡ false = ne_eqb x y (λ e. absurd (true≢false (sym (eq-eqb y x (sym e)) ∙ parts.0))) in
    (has_push ys x y ∙ or_from (has ys y) (x == y) once.0 ne, once_push ys x once.1 parts.1)

-- ---- marks

pub marked_before : (marks : List Bool) (mark : Bool) (p : ℕ) → p < length marks → is_marked (marks ++ mark ∷ []) p ≡ is_marked marks p
marked_before [] mark p below = absurd (omega arith)
marked_before (m ∷ ms) mark zero below = cc
marked_before (m ∷ ms) mark (suc p) below = marked_before ms mark p (omega arith)

pub marked_last : (marks : List Bool) (mark : Bool) → is_marked (marks ++ mark ∷ []) (length marks) ≡ mark
marked_last [] mark = cc
marked_last (m ∷ ms) mark = marked_last ms mark

-- ---- one element more

-- where an element stands in a list with one more: it stood there, or is that one
pub at_before : {X : Type 0} (xs : List X) (y : X) (k : ℕ) (x : X) → slice_get (xs ++ y ∷ []) k ≡ Some x → (slice_get xs k ≡ Some x) ⊎ ((k ≡ length xs) × (y ≡ x))
at_before [] y zero x e = let same : y ≡ x = cc in inr (refl, same)
at_before [] y (suc k) x e = absurd cc
at_before (z ∷ zs) y zero x e = inl cc
at_before (z ∷ zs) y (suc k) x e = elim (at_before zs y k x e) [ inl old ↦ inl old | inr new ↦ inr (ap suc new.0, new.1) ]
