-- The starts whose numbers are in a set, as a list.
use Rattle.std.proofs.Common.{◌≡◌, ◌+◌, ◌⊎◌, inl, inr, ℕ, zero, suc, List, [], ◌∷◌, Bool, true, false, cond, Some, slice_get, refl, sym, ap, ◌∙◌, subst, arith}
use Rattle.std.specs.List.{Contains}
use Rattle.pg_start.specs.declared.kind.StartKind.{StartKind}
use Rattle.pg_graph_bits.specs.Numbers.{contains}
use Rattle.pg_sets.specs.Sets.{HasStart}
use Rattle.pg_sets_own.specs.declared.listed.ListedStart.{ListedStart}
use Rattle.pg_derive.specs.LeastSets.{numbered_in}

pub contains_first : {X : Type 0} (x : X) (xs : List X) → Contains (x ∷ xs) x
contains_first x xs = (zero, omega arith, refl)

pub contains_after : {X : Type 0} (x y : X) (xs : List X) → Contains xs y → Contains (x ∷ xs) y
contains_after x y xs (k, l, e) = (suc k, omega arith, e)

pub contains_none : {X : Type 0} (x : X) → Contains [] x → ⊥
contains_none x (k, l, e) = omega arith

pub contains_cases : {X : Type 0} (x y : X) (xs : List X) → Contains (x ∷ xs) y → (x ≡ y) ⊎ Contains xs y
contains_cases x y xs (zero, l, e) = inl e
contains_cases x y xs (suc k, l, e) = inr (k, omega arith, e)

-- where a start stands whose number is in the set
record Picked (is_in : ℕ → Bool) (k : ℕ) (starts : List ListedStart) (s : StartKind) : Type 0 where
  place : ℕ
  listed : ListedStart
  member : is_in (k + place) ≡ true
  there : slice_get starts place ≡ Some listed
  same : listed.start ≡ s

picked_after : {is_in : ℕ → Bool} {k : ℕ} {starts : List ListedStart} {s : StartKind} (one : ListedStart) → Picked is_in (suc k) starts s → Picked is_in k (one ∷ starts) s
picked_after {is_in} {k} one p =
    let place = p.place in
    let next : suc k + place ≡ k + suc place = omega arith in
    record { place = suc place; listed = p.listed; member = ap is_in (sym next) ∙ p.member; there = p.there; same = p.same }

picked : (is_in : ℕ → Bool) (k : ℕ) (starts : List ListedStart) (s : StartKind) → Contains (numbered_in is_in k starts) s → Picked is_in k starts s
picked is_in k [] s h = absurd (contains_none s h)
picked is_in k (one ∷ others) s h = go (is_in k) refl h (λ rest. picked is_in (suc k) others s rest)
  where
    here : is_in k ≡ true → one.start ≡ s → Picked is_in k (one ∷ others) s
    here is same = let at : k + 0 ≡ k = omega arith in record { place = zero; listed = one; member = ap is_in at ∙ is; there = refl; same = same }

    go : (b : Bool) → is_in k ≡ b → Contains (cond b (one.start ∷ numbered_in is_in (suc k) others) (numbered_in is_in (suc k) others)) s →
        (Contains (numbered_in is_in (suc k) others) s → Picked is_in (suc k) others s) → Picked is_in k (one ∷ others) s
    go true is c ih =
        elim (contains_cases one.start s (numbered_in is_in (suc k) others) c) [ inl same ↦ here is same | inr after ↦ picked_after one (ih after) ]
    go false is c ih = picked_after one (ih c)

unpicked : (is_in : ℕ → Bool) (k : ℕ) (starts : List ListedStart) (place : ℕ) (listed : ListedStart) → slice_get starts place ≡ Some listed → is_in (k + place) ≡ true →
    Contains (numbered_in is_in k starts) listed.start
unpicked is_in k [] zero listed e m = absurd cc
unpicked is_in k [] (suc place) listed e m = absurd cc
unpicked is_in k (one ∷ others) zero listed e m =
    let same : one ≡ listed = cc in
    let at : k + 0 ≡ k = omega arith in
    let rest = numbered_in is_in (suc k) others in
    let is : cond (is_in k) (one.start ∷ rest) rest ≡ one.start ∷ rest = ap (λ b. cond b (one.start ∷ rest) rest) (ap is_in (sym at) ∙ m) in
    subst (λ (l : List StartKind). Contains l listed.start) (sym is) (subst (λ (x : ListedStart). Contains (one.start ∷ rest) x.start) same (contains_first one.start rest))
unpicked is_in k (one ∷ others) (suc place) listed e m =
    let next : suc k + place ≡ k + suc place = omega arith in
    let rest = numbered_in is_in (suc k) others in
    let later : Contains rest listed.start = unpicked is_in (suc k) others place listed e (ap is_in next ∙ m) in
    go (is_in k) later
  where
    go : (b : Bool) → Contains (numbered_in is_in (suc k) others) listed.start →
        Contains (cond b (one.start ∷ numbered_in is_in (suc k) others) (numbered_in is_in (suc k) others)) listed.start
    go true h = contains_after one.start listed.start (numbered_in is_in (suc k) others) h
    go false h = h

pub start_from_list : (starts : List ListedStart) (set : List Bool) (s : StartKind) → Contains (numbered_in (contains set) 0 starts) s → HasStart starts set s
start_from_list starts set s h =
    let p = picked (contains set) 0 starts s h in
    let at : 0 + p.place ≡ p.place = omega arith in
    record { number = p.place; listed = p.listed; member = ap (contains set) (sym at) ∙ p.member; there = p.there; same = p.same }

pub list_from_start : (starts : List ListedStart) (set : List Bool) (s : StartKind) → HasStart starts set s → Contains (numbered_in (contains set) 0 starts) s
list_from_start starts set s h =
    let at : 0 + h.number ≡ h.number = omega arith in
    subst (Contains (numbered_in (contains set) 0 starts)) h.same (unpicked (contains set) 0 starts h.number h.listed h.there (ap (contains set) at ∙ h.member))
