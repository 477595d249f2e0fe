-- Questions that are answered either way, and the least number for which one is answered yes.
use Rattle.std.proofs.Common.{◌≡◌, ◌<◌, ◌⊎◌, inl, inr, ℕ, zero, suc, List, Bool, true, false, refl, sym, subst, arith}
use Rattle.std.specs.Str.{bytes_eq}
use Rattle.std.proofs.lemmas.Bool.{cases_order, true≢false}
use Rattle.std.proofs.lemmas.Slice.Eq.{bytes_eq-Decides}

abbrev pub Decided : Type 0 → Type 0
Decided A = A ⊎ (A → ⊥)

pub decided_true : (b : Bool) → Decided (b ≡ true)
decided_true true = inl refl
decided_true false = inr (λ e. true≢false (sym e))

pub decided_false : (b : Bool) → Decided (b ≡ false)
decided_false true = inr true≢false
decided_false false = inl refl

pub decided_both : {A B : Type 0} → Decided A → Decided B → Decided (A × B)
decided_both (inl a) (inl b) = inl (a, b)
decided_both (inl a) (inr n) = inr (λ h. n h.1)
decided_both (inr n) d = inr (λ h. n h.0)

pub decided_either : {A B : Type 0} → Decided A → Decided B → Decided (A ⊎ B)
decided_either (inl a) d = inl (inl a)
decided_either (inr n) (inl b) = inl (inr b)
decided_either (inr n) (inr m) = inr (λ h. elim h [ inl a ↦ n a | inr b ↦ m b ])

pub decided_not : {A : Type 0} → Decided A → Decided (A → ⊥)
decided_not (inl a) = inr (λ n. n a)
decided_not (inr n) = inl n

-- an answer to one question is one to another that says the same
pub decided_as : {A B : Type 0} → (A → B) → (B → A) → Decided A → Decided B
decided_as there back (inl a) = inl (there a)
decided_as there back (inr n) = inr (λ b. n (back b))

pub decided_same : (xs ys : List ℕ) → Decided (xs ≡ ys)
decided_same xs ys = decided_as (bytes_eq-Decides xs ys).0 (bytes_eq-Decides xs ys).1 (decided_true (bytes_eq xs ys))

-- ---- the least number

pub record LeastOf (P : ℕ → Type 0) : Type 0 where
  pub number : ℕ
  pub holds : P number
  pub least : (k : ℕ) → k < number → P k → ⊥

one_further : {P : ℕ → Type 0} (n : ℕ) → ((k : ℕ) → k < n → P k → ⊥) → (P n → ⊥) → (k : ℕ) → k < suc n → P k → ⊥
one_further {P} n none not k l h =
    elim (cases_order k n) [
      | inl same ↦ not (subst P same h)
      | inr differ ↦ elim differ [ inl less ↦ none k less h | inr more ↦ omega arith ]
    ]

found_next : {P : ℕ → Type 0} (n : ℕ) → LeastOf P ⊎ ((k : ℕ) → k < n → P k → ⊥) → Decided (P n) → LeastOf P ⊎ ((k : ℕ) → k < suc n → P k → ⊥)
found_next n (inl found) d = inl found
found_next n (inr none) (inl h) = inl (record { number = n; holds = h; least = none })
found_next n (inr none) (inr not) = inr (one_further n none not)

pub least_below : (P : ℕ → Type 0) → ((k : ℕ) → Decided (P k)) → (n : ℕ) → LeastOf P ⊎ ((k : ℕ) → k < n → P k → ⊥)
least_below P decide zero = inr (λ k l h. omega arith)
least_below P decide (suc n) = found_next n (least_below P decide n) (decide n)

-- where there is one, there is a least one
pub least_from : (P : ℕ → Type 0) → ((k : ℕ) → Decided (P k)) → (n : ℕ) → P n → LeastOf P
least_from P decide n h = elim (least_below P decide (suc n)) [ inl found ↦ found | inr none ↦ absurd (none n (omega arith) h) ]

-- whether there is one, where none is as great as the bound
pub decided_some : (P : ℕ → Type 0) → ((k : ℕ) → Decided (P k)) → (bound : ℕ) → ((k : ℕ) → P k → k < bound) → Decided ((k : ℕ) × P k)
decided_some P decide bound below =
    elim (least_below P decide bound) [ inl found ↦ inl (found.number, found.holds) | inr none ↦ inr (λ h. none h.0 (below h.0 h.1) h.1) ]
