-- What runs note on a predictive grammar: a run that goes on gave nothing back, and one that gave a place back doesn't go on.
--
-- Where the start of what is run doesn't match, a run notes nothing. Where a `try` gave a place back, the start matched there, so
-- that nothing that may come next does: what is run from there on notes nothing.
use Rattle.std.proofs.Common.{◌≡◌, ℕ, List, [], ◌∷◌, ◌++◌, Bool, true, false, refl, sym, subst, ◌∙◌, append-nil}
use Rattle.pg_derive_bound.proofs.Paid as paid
use Rattle.pg_derive_bound.proofs.Paid.{End, joined, returned}
use Rattle.pg_derive_backtracking.specs.Events.{Event, Consumed, GaveBack}
use Rattle.pg_derive_backtracking.specs.Backtracking.{ConsumesNothing, ReadsNothingTwice}

-- ---- logs

-- nothing is given back
abbrev pub GivesNothingBack : List Event → Type 0
GivesNothingBack [] = Unit {0}
GivesNothingBack (Consumed i ∷ l) = GivesNothingBack l
GivesNothingBack (GaveBack i ∷ l) = ⊥

pub none_back : (l k : List Event) → GivesNothingBack l → GivesNothingBack k → GivesNothingBack (l ++ k)
none_back [] k h g = g
none_back (Consumed i ∷ l) k h g = none_back l k h g
none_back (GaveBack i ∷ l) k h g = absurd h

pub none_twice : (l k : List Event) → GivesNothingBack l → ReadsNothingTwice k → ReadsNothingTwice (l ++ k)
none_twice [] k h g = g
none_twice (Consumed i ∷ l) k h g = none_twice l k h g
none_twice (GaveBack i ∷ l) k h g = absurd h

pub no_more_consumed : (l : List Event) (i : ℕ) → ConsumesNothing l → ConsumesNothing (l ++ (GaveBack i ∷ []))
no_more_consumed [] i h = tt
no_more_consumed (Consumed j ∷ l) i h = absurd h
no_more_consumed (GaveBack j ∷ l) i h = no_more_consumed l i h

pub back_at_end : (l : List Event) (i : ℕ) → ReadsNothingTwice l → ReadsNothingTwice (l ++ (GaveBack i ∷ []))
back_at_end [] i h = tt
back_at_end (Consumed j ∷ l) i h = back_at_end l i h
back_at_end (GaveBack j ∷ l) i h = no_more_consumed l i h

pub never_twice : (l : List Event) → GivesNothingBack l → ReadsNothingTwice l
never_twice [] h = tt
never_twice (Consumed i ∷ l) h = never_twice l h
never_twice (GaveBack i ∷ l) h = absurd h

alone_back : (l : List Event) → GivesNothingBack l → GivesNothingBack (l ++ [])
alone_back l h = none_back l [] h tt

alone_once : (l : List Event) → GivesNothingBack l → ReadsNothingTwice (l ++ [])
alone_once l h = none_twice l [] h tt

alone_twice : (l : List Event) → ReadsNothingTwice l → ReadsNothingTwice (l ++ [])
alone_twice l h = subst ReadsNothingTwice (sym (append-nil l)) h

-- ---- what a run notes

-- A run from the place i ends so. Empty is so where it may be ok on nothing, Bare where no start of what is run matches at i,
-- After of a place where no start matches of what can come next.
pub data Notes (Empty Bare : Type 0) (After : ℕ → Type 0) (i : ℕ) : End → List Event → Type 0 where
  refuses : Notes Empty Bare After i (paid.stops false) []
  rests : {j : ℕ} → Empty → i ≡ j → Notes Empty Bare After i (paid.ends false j) []
  goes : {j : ℕ} {l : List Event} → (Bare → ⊥) → GivesNothingBack l → Notes Empty Bare After i (paid.ends true j) l
  -- it failed after consumed input, or after a place was given back
  breaks : {c : Bool} {l : List Event} → (Bare → ⊥) → ReadsNothingTwice l → Notes Empty Bare After i (paid.stops c) l
  -- it is ok, and its end was given back
  gives_back : {c : Bool} {j : ℕ} {l : List Event} → (Bare → ⊥) → After j → ReadsNothingTwice l → Notes Empty Bare After i (paid.ends c j) l
  stuck : {l : List Event} → Notes Empty Bare After i paid.never l

pub noted_as : {E B : Type 0} {A : ℕ → Type 0} {i : ℕ} {z : End} {l k : List Event} → l ≡ k → Notes E B A i z l → Notes E B A i z k
noted_as {E} {B} {A} {i} {z} e x = subst (λ l. Notes E B A i z l) e x

-- with more around it
pub around : {E F E' F' : Type 0} {A A' : ℕ → Type 0} {i : ℕ} {z : End} {l : List Event} → (E → E') → (F' → F) → ((j : ℕ) → A j → A' j) → Notes E F A i z l → Notes E' F' A' i z l
around e b a refuses = refuses
around e b a (rests x same) = rests (e x) same
around e b a (goes x h) = goes (λ n. x (b n)) h
around e b a (breaks x h) = breaks (λ n. x (b n)) h
around e b a (gives_back {j = j} x after h) = gives_back (λ n. x (b n)) (a j after) h
around e b a stuck = stuck

-- and nothing noted behind it
pub and_nothing : {E B : Type 0} {A : ℕ → Type 0} {i : ℕ} {z : End} {l : List Event} → Notes E B A i z l → Notes E B A i z (l ++ [])
and_nothing {l = l} x = noted_as (sym (append-nil l)) x

-- ---- one run after another

-- of a part that is ok from i to k, and of what is run after it
module _ (Eq Er E Bq B : Type 0) (Br Aq A : ℕ → Type 0) (i : ℕ) (first : B → Bq) (second : Eq → B → Br i) (after : (k : ℕ) → Aq k → Br k) (over : (k : ℕ) → Aq k → Er → A k) (both : Eq → Er → E) where
  beside_rest : (k : ℕ) → Eq → i ≡ k → (z : End) (l : List Event) → Notes Er (Br k) A k z l → Notes E B A i (joined false z) l
  beside_rest k e same z l refuses = refuses
  beside_rest k e same z l (rests r on) = rests (both e r) (same ∙ on)
  beside_rest k e same z l (goes b h) = goes (λ n. b (subst Br same (second e n))) h
  beside_rest k e same z l (breaks b h) = breaks (λ n. b (subst Br same (second e n))) h
  beside_rest k e same z l (gives_back b a h) = gives_back (λ n. b (subst Br same (second e n))) a h
  beside_rest k e same z l stuck = stuck

  beyond_rest : (k : ℕ) (p : List Event) → (Bq → ⊥) → GivesNothingBack p → (z : End) (l : List Event) → Notes Er (Br k) A k z l → Notes E B A i (joined true z) (p ++ l)
  beyond_rest k p b c z l refuses = breaks (λ n. b (first n)) (alone_once p c)
  beyond_rest k p b c z l (rests r on) = goes (λ n. b (first n)) (alone_back p c)
  beyond_rest k p b c z l (goes b' h) = goes (λ n. b (first n)) (none_back p l c h)
  beyond_rest k p b c z l (breaks b' h) = breaks (λ n. b (first n)) (none_twice p l c h)
  beyond_rest k p b c z l (gives_back b' a h) = gives_back (λ n. b (first n)) a (none_twice p l c h)
  beyond_rest k p b c z l stuck = stuck

  back_rest : (c : Bool) (k : ℕ) (p : List Event) → (Bq → ⊥) → Aq k → ReadsNothingTwice p → (z : End) (l : List Event) → Notes Er (Br k) A k z l → Notes E B A i (joined c z) (p ++ l)
  back_rest c k p b a t z l refuses = breaks (λ n. b (first n)) (alone_twice p t)
  back_rest c k p b a t z l (rests r on) = gives_back (λ n. b (first n)) (subst A on (over k a r)) (alone_twice p t)
  back_rest c k p b a t z l (goes b' h) = absurd (b' (after k a))
  back_rest c k p b a t z l (breaks b' h) = absurd (b' (after k a))
  back_rest c k p b a t z l (gives_back b' a' h) = absurd (b' (after k a))
  back_rest c k p b a t z l stuck = stuck

  pub and_rest : {c : Bool} {k : ℕ} {p : List Event} → Notes Eq Bq Aq i (paid.ends c k) p → {z : End} {l : List Event} → Notes Er (Br k) A k z l → Notes E B A i (joined c z) (p ++ l)
  and_rest {k = k} (rests e same) {z = z} {l = l} y = beside_rest k e same z l y
  and_rest {k = k} {p = p} (goes b h) {z = z} {l = l} y = beyond_rest k p b h z l y
  and_rest {c = c} {k = k} {p = p} (gives_back b a h) {z = z} {l = l} y = back_rest c k p b a h z l y

-- ---- one run where another failed

module _ (Eq Er E Bq Br B : Type 0) (Aq A : ℕ → Type 0) (i : ℕ) (first : B → Bq) (second : B → Br) (apart : (Bq → ⊥) → Br) (over : (Bq → ⊥) → Er → A i) (empty : Er → E) where
  back_or : (p : List Event) → (Bq → ⊥) → ReadsNothingTwice p → (z : End) (l : List Event) → Notes Er Br A i z l → Notes E B A i z (p ++ l)
  back_or p b t z l refuses = breaks (λ n. b (first n)) (alone_twice p t)
  back_or p b t z l (rests r on) = gives_back (λ n. b (first n)) (subst A on (over b r)) (alone_twice p t)
  back_or p b t z l (goes b' h) = absurd (b' (apart b))
  back_or p b t z l (breaks b' h) = absurd (b' (apart b))
  back_or p b t z l (gives_back b' a' h) = absurd (b' (apart b))
  back_or p b t z l stuck = stuck

  pub or_else : {p : List Event} → Notes Eq Bq Aq i (paid.stops false) p → {z : End} {l : List Event} → Notes Er Br A i z l → Notes E B A i z (p ++ l)
  or_else refuses y = around empty second (λ j a. a) y
  or_else {p = p} (breaks b h) {z = z} {l = l} y = back_or p b h z l y

-- ---- a failure that gives way to an ok answer

pub or_return : {Eq E Bq B : Type 0} {Aq A : ℕ → Type 0} {i : ℕ} {c : Bool} {l : List Event} → E → (B → Bq) → ((Bq → ⊥) → A i) → Notes Eq Bq Aq i (paid.stops c) l → Notes E B A i (returned i (paid.stops c)) l
or_return e b a refuses = rests e refl
or_return {c = true} e b a (breaks none h) = breaks (λ n. none (b n)) h
or_return {c = false} e b a (breaks none h) = gives_back (λ n. none (b n)) (a none) h
