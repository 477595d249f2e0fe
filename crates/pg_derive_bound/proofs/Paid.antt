-- What runs pay for the nodes that they enter: each node costs two steps, and what is consumed pays for them.
--
-- A run that consumes nothing stays within a cost. One that consumes pays at a rate for each character, and may exceed that by
-- a toll. Where a `try` gives a place back, the run pays with all characters up to the end of the text, whatever is left of
-- them: nothing that is run from there on consumes, as no start matches there of what can come next.
use Rattle.std.proofs.Common.{◌≡◌, ◌<◌, ◌≤◌, ◌+◌, ℕ, Bool, true, false, ◌||◌, refl, ap, subst, ◌∙◌, arith, ◌⊎◌, inl, inr}
use Rattle.pg_language.specs.Outcomes.{Outcome, ok, failed, empty_round}

-- ---- how a run ends

pub data End : Type 0 where
  -- ok up to a place
  ends : (consumed : Bool) (place : ℕ) → End
  stops : (consumed : Bool) → End
  -- a repetition met an empty round
  never : End

abbrev pub end_of : Outcome → End
end_of (ok c b v t e) = ends c b.place
end_of (failed c e) = stops c
end_of empty_round = never

-- after a part that was ok
abbrev pub joined : Bool → End → End
joined c (ends d j) = ends (c || d) j
joined c (stops d) = stops (c || d)
joined c never = never

-- where a failure that consumed nothing gives way to an ok answer at the place
abbrev pub returned : ℕ → End → End
returned i (ends c j) = ends c j
returned i (stops true) = stops true
returned i (stops false) = ends false i
returned i never = never

-- ---- what it pays

-- what each character pays, where the text ends, and what all characters before a place pay together
pub record Fare : Type 0 where
  pub rate : ℕ
  pub last : ℕ
  pub due : ℕ → ℕ
  pub rises : (i j : ℕ) → i < j → due i + rate ≤ due j

-- A run from the place i that enters m nodes ends so. Empty is so where it may be ok on nothing, Bare where no start of what
-- is run matches at i, After of a place where no start matches of what can come next.
pub data Paid (f : Fare) (Empty Bare : Type 0) (After : ℕ → Type 0) (cost toll i : ℕ) : End → ℕ → Type 0 where
  refuses : {m : ℕ} → m + m ≤ cost → Paid f Empty Bare After cost toll i (stops false) m
  rests : {j m : ℕ} → Empty → i ≡ j → m + m ≤ cost → Paid f Empty Bare After cost toll i (ends false j) m
  goes : {j m : ℕ} → (Bare → ⊥) → i < j → j ≤ f.last → m + m + (f.due i + f.rate) ≤ toll + f.due j → Paid f Empty Bare After cost toll i (ends true j) m
  -- it failed after consumed input, or after a place was given back
  breaks : {c : Bool} {m : ℕ} → (Bare → ⊥) → m + m + (f.due i + f.rate) ≤ toll + f.due f.last → Paid f Empty Bare After cost toll i (stops c) m
  -- it is ok, and its end was given back
  gives_back : {c : Bool} {j m : ℕ} → (Bare → ⊥) → After j → m + m + (f.due i + f.rate) ≤ toll + f.due f.last → Paid f Empty Bare After cost toll i (ends c j) m
  stuck : {m : ℕ} → Paid f Empty Bare After cost toll i never m

-- ---- the same with more around it

pub no_later : (f : Fare) (i j : ℕ) → i ≤ j → f.due i ≤ f.due j
no_later f i j l = elim (or_same i j l) [ inl less ↦ let up = f.rises i j less in omega arith | inr same ↦ let e = ap f.due same in omega arith ]
  where
    or_same : (i j : ℕ) → i ≤ j → (i < j) ⊎ (i ≡ j)
    or_same i j l = grind arith

-- with k more steps
pub raised : (f : Fare) {E F E' F' : Type 0} {A A' : ℕ → Type 0} {cost toll cost' toll' i : ℕ} (k : ℕ) {z : End} {m n : ℕ} → n + n ≤ k + (m + m) → k + cost ≤ cost' → k + toll ≤ toll' →
    (E → E') → (F' → F) → ((j : ℕ) → A j → A' j) → Paid f E F A cost toll i z m → Paid f E' F' A' cost' toll' i z n
raised f k l c t e b a (refuses x) = refuses (omega arith)
raised f k l c t e b a (rests x same y) = rests (e x) same (omega arith)
raised f k l c t e b a (goes x up in_text y) = goes (λ h. x (b h)) up in_text (omega arith)
raised f k l c t e b a (breaks x y) = breaks (λ h. x (b h)) (omega arith)
raised f k l c t e b a (gives_back {j = j} x after y) = gives_back (λ h. x (b h)) (a j after) (omega arith)
raised f k l c t e b a stuck = stuck

-- ---- one run after another

-- of a part that is ok from i to k, and of what is run after it: near where the part consumed nothing, far where it did
module _ (f : Fare) (Eq Er E Bq B : Type 0) (Br Aq A : ℕ → Type 0) (cq tq cr near far cost toll i : ℕ)
    (first : B → Bq) (second : Eq → B → Br i) (after : (k : ℕ) → Aq k → Br k) (over : (k : ℕ) → Aq k → Er → A k) (both : Eq → Er → E)
    (quiet : Eq → cq + cr ≤ cost) (beside : Eq → cq + near ≤ toll) (ended : tq + cr ≤ toll) (further : tq + far ≤ toll + f.rate) where
  beside_rest : (k m : ℕ) → Eq → i ≡ k → m + m ≤ cq → (z : End) (n : ℕ) → Paid f Er (Br k) A cr near k z n → Paid f E B A cost toll i (joined false z) (m + n)
  beside_rest k m e same l z n (refuses x) = let q = quiet e in refuses (omega arith)
  beside_rest k m e same l z n (rests r on x) = let q = quiet e in rests (both e r) (same ∙ on) (omega arith)
  beside_rest k m e same l z n (goes b up in_text x) =
      let q = beside e in let due = ap f.due same in goes (λ h. b (subst Br same (second e h))) (omega arith) in_text (omega arith)
  beside_rest k m e same l z n (breaks b x) = let q = beside e in let due = ap f.due same in breaks (λ h. b (subst Br same (second e h))) (omega arith)
  beside_rest k m e same l z n (gives_back b a x) = let q = beside e in let due = ap f.due same in gives_back (λ h. b (subst Br same (second e h))) a (omega arith)
  beside_rest k m e same l z n stuck = stuck

  beyond_rest : (k m : ℕ) → (Bq → ⊥) → i < k → k ≤ f.last → m + m + (f.due i + f.rate) ≤ tq + f.due k → (z : End) (n : ℕ) → Paid f Er (Br k) A cr far k z n →
      Paid f E B A cost toll i (joined true z) (m + n)
  beyond_rest k m b up in_text l z n (refuses x) = let later = no_later f k f.last in_text in breaks (λ h. b (first h)) (omega arith)
  beyond_rest k m b up in_text l z n (rests r on x) = let due = ap f.due on in goes (λ h. b (first h)) (omega arith) (omega arith) (omega arith)
  beyond_rest k m b up in_text l z n (goes b' up' in' x) = goes (λ h. b (first h)) (omega arith) in' (omega arith)
  beyond_rest k m b up in_text l z n (breaks b' x) = breaks (λ h. b (first h)) (omega arith)
  beyond_rest k m b up in_text l z n (gives_back b' a x) = gives_back (λ h. b (first h)) a (omega arith)
  beyond_rest k m b up in_text l z n stuck = stuck

  back_rest : (c : Bool) (k m : ℕ) → (Bq → ⊥) → Aq k → m + m + (f.due i + f.rate) ≤ tq + f.due f.last → (z : End) (n : ℕ) → Paid f Er (Br k) A cr far k z n →
      Paid f E B A cost toll i (joined c z) (m + n)
  back_rest c k m b a l z n (refuses x) = breaks (λ h. b (first h)) (omega arith)
  back_rest c k m b a l z n (rests r on x) = gives_back (λ h. b (first h)) (subst A on (over k a r)) (omega arith)
  back_rest c k m b a l z n (goes b' up in_text x) = absurd (b' (after k a))
  back_rest c k m b a l z n (breaks b' x) = absurd (b' (after k a))
  back_rest c k m b a l z n (gives_back b' a' x) = absurd (b' (after k a))
  back_rest c k m b a l z n stuck = stuck

  pub and_rest : {c : Bool} {k m : ℕ} → Paid f Eq Bq Aq cq tq i (ends c k) m → {z : End} {n : ℕ} → (Eq → i ≡ k → Paid f Er (Br k) A cr near k z n) → Paid f Er (Br k) A cr far k z n →
      Paid f E B A cost toll i (joined c z) (m + n)
  and_rest {k = k} {m = m} (rests e same l) {z = z} {n = n} x y = beside_rest k m e same l z n (x e same)
  and_rest {k = k} {m = m} (goes b up in_text l) {z = z} {n = n} x y = beyond_rest k m b up in_text l z n y
  and_rest {c = c} {k = k} {m = m} (gives_back b a l) {z = z} {n = n} x y = back_rest c k m b a l z n y

-- ---- one run where another failed

module _ (f : Fare) (Eq Er E Bq Br B : Type 0) (Aq A : ℕ → Type 0) (cq tq cr tr cost toll i : ℕ)
    (first : B → Bq) (second : B → Br) (apart : (Bq → ⊥) → Br) (over : (Bq → ⊥) → Er → A i) (empty : Er → E)
    (quiet : cq + cr ≤ cost) (next : cq + tr ≤ toll) (ended : tq + cr ≤ toll) where
  back_or : (m : ℕ) → (Bq → ⊥) → m + m + (f.due i + f.rate) ≤ tq + f.due f.last → (z : End) (n : ℕ) → Paid f Er Br A cr tr i z n → Paid f E B A cost toll i z (m + n)
  back_or m b l z n (refuses x) = breaks (λ h. b (first h)) (omega arith)
  back_or m b l z n (rests r on x) = gives_back (λ h. b (first h)) (subst A on (over b r)) (omega arith)
  back_or m b l z n (goes b' up in_text x) = absurd (b' (apart b))
  back_or m b l z n (breaks b' x) = absurd (b' (apart b))
  back_or m b l z n (gives_back b' a' x) = absurd (b' (apart b))
  back_or m b l z n stuck = stuck

  pub or_else : {m : ℕ} → Paid f Eq Bq Aq cq tq i (stops false) m → {z : End} {n : ℕ} → Paid f Er Br A cr tr i z n → Paid f E B A cost toll i z (m + n)
  or_else {m = m} (refuses l) {n = n} x = raised f cq (omega arith) (omega arith) (omega arith) empty second (λ j a. a) x
  or_else {m = m} (breaks b l) {z = z} {n = n} x = back_or m b l z n x

-- ---- a failure that gives way to an ok answer

pub or_return : (f : Fare) {Eq E Bq B : Type 0} {Aq A : ℕ → Type 0} {cq tq cost toll i : ℕ} {c : Bool} {m : ℕ} → E → (B → Bq) → ((Bq → ⊥) → A i) → cq ≤ cost → tq ≤ toll →
    Paid f Eq Bq Aq cq tq i (stops c) m → Paid f E B A cost toll i (returned i (stops c)) m
or_return f e b a x y (refuses l) = rests e refl (omega arith)
or_return f {c = true} e b a x y (breaks none l) = breaks (λ h. none (b h)) (omega arith)
or_return f {c = false} e b a x y (breaks none l) = gives_back (λ h. none (b h)) (a none) (omega arith)
