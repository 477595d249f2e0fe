-- Places whose positions go up, but for those within a line end.
use Rattle.std.proofs.Common.{◌≡◌, ◌≤◌, ◌<◌, ◌+◌, ◌-◌, ◌⊎◌, ℕ, zero, suc, Bool, true, false, cond, inl, inr, refl, sym, ◌∙◌, ap, subst, arith}
use Rattle.std.proofs.lemmas.Bool.{both_ways}
use Rattle.std.proofs.lemmas.Bool.Decides.{nat_tests}
use Rattle.pg_server_positions.specs.declared.position.Position.{Position}
use Rattle.pg_server_positions.specs.Positions.{is_past}

-- a test is true or false
pub split : (b : Bool) → (b ≡ true) ⊎ (b ≡ false)
split true = inl refl
split false = inr refl

-- what is past something past a position is past that position
pub past_past : (x y z : Position) → is_past x y ≡ true → is_past y z ≡ true → is_past x z ≡ true
past_past x y z p q = grind (arith, nat_tests)

-- no position is past itself
pub past_itself : (x : Position) → is_past x x ≡ false
past_itself x = grind (arith, nat_tests)

module _ (n : ℕ) (at : ℕ → Position) (inside : ℕ → Bool)
    (stays : (k : ℕ) → k < n → inside k ≡ true → at (k + 1) ≡ at k)
    (goes : (k : ℕ) → k < n → inside k ≡ false → is_past (at (k + 1)) (at k) ≡ true)
    (apart : (k : ℕ) → k < n → inside k ≡ true → inside (k + 1) ≡ false)
    (ends : (k : ℕ) → inside k ≡ true → k < n) where
  -- a later place is past one before it, or is the next one within a line end
  abbrev Later : ℕ → ℕ → Type 0
  Later p q = (is_past (at q) (at p) ≡ true) ⊎ ((q ≡ p + 1) × (inside p ≡ true))

  first : (p q : ℕ) → q ≡ p + 1 → q ≤ n → (inside p ≡ true) ⊎ (inside p ≡ false) → Later p q
  first p q e h (inl t) = inr (e, t)
  first p q e h (inr f) = inl (subst (λ k. is_past (at k) (at p) ≡ true) (sym e) (goes p (omega arith) f))

  next : (p r q : ℕ) → q ≡ r + 1 → q ≤ n → p < r → Later p r → (inside r ≡ true) ⊎ (inside r ≡ false) → Later p q
  next p r q e h less (inl past) (inl t) =
      inl (subst (λ x. is_past x (at p) ≡ true) (sym (ap at e ∙ stays r (omega arith) t)) past)
  next p r q e h less (inl past) (inr f) =
      inl (past_past (at q) (at r) (at p) (subst (λ k. is_past (at k) (at r) ≡ true) (sym e) (goes r (omega arith) f)) past)
  next p r q e h less (inr both) (inl t) =
      absurd (both_ways (inside r) (subst (λ k. inside k ≡ false) (sym both.0) (apart p (omega arith) both.1)) t)
  next p r q e h less (inr both) (inr f) =
      let same : at r ≡ at p = ap at both.0 ∙ stays p (omega arith) both.1 in
      inl (subst (λ x. is_past (at q) x ≡ true) same (subst (λ k. is_past (at k) (at r) ≡ true) (sym e) (goes r (omega arith) f)))

  later : (p m q : ℕ) → q ≡ p + m + 1 → q ≤ n → Later p q
  later p zero q e h = first p q (omega arith) h (split (inside p))
  later p (suc m) q e h =
      next p (p + m + 1) q (omega arith) h (omega arith) (later p m (p + m + 1) refl (omega arith)) (split (inside (p + m + 1)))

  here : (p : ℕ) → ((k : ℕ) → p < k → k ≤ n → is_past (at k) (at p) ≡ true) → (inside p ≡ true) ⊎ (inside p ≡ false) → p ≡ cond (inside p) (p + 1) p
  here p last (inl t) =
      let less : p < n = ends p t in
      absurd (both_ways _ (past_itself (at p))
      (subst (λ x. is_past x (at p) ≡ true) (stays p less t) (last (p + 1) (omega arith) (omega arith))))
  here p last (inr f) = subst (λ b. p ≡ cond b (p + 1) p) (sym f) refl

  ahead : (p f : ℕ) → is_past (at f) (at p) ≡ false → Later p f → f ≡ cond (inside p) (p + 1) p
  ahead p f reached (inl past) = absurd (both_ways _ reached past)
  ahead p f reached (inr both) = subst (λ b. f ≡ cond b (p + 1) p) (sym both.1) both.0

  -- the last place that isn't past a place's position is that place, or the next one within a line end
  pub leads_back : (p f : ℕ) → p ≤ n → f ≤ n → is_past (at f) (at p) ≡ false → ((k : ℕ) → f < k → k ≤ n → is_past (at k) (at p) ≡ true) →
      (f ≡ p) ⊎ ((f < p) ⊎ (p < f)) → f ≡ cond (inside p) (p + 1) p
  leads_back p f hp hf reached last (inl e) =
      e ∙ here p (λ k less within. last k (subst (λ j. j < k) (sym e) less) within) (split (inside p))
  leads_back p f hp hf reached last (inr (inl less)) = absurd (both_ways _ (past_itself (at p)) (last p less hp))
  leads_back p f hp hf reached last (inr (inr less)) = ahead p f reached (later p (f - p - 1) f (omega arith) hf)
