-- Two classes from whose fronts ranges are left after.
use Rattle.std.proofs.Common.{◌≡◌, ◌↔◌, ℕ, ◌<◌, ◌≤◌, Bool, true, false, ◌||◌, List, ◌∷◌, arith, refl, ap, ◌∙◌, sym, subst}
use Rattle.std.proofs.lemmas.Bool.{or_right}
use Rattle.pg_class.specs.Ranges.{Range, AreDisjoint, IsClass, in_range, has}
use Rattle.pg_class.proofs.Unique.{first_least, to_last}

-- what stands after the first range of a class is a class
pub IsClass-rest : (xs rs : List Range) (r : Range) → xs ≡ r ∷ rs → IsClass xs → IsClass rs
IsClass-rest xs rs r e h = let k : IsClass (r ∷ rs) = subst IsClass e h in k.2

-- its characters are the class's
pub has-rest : (xs rs : List Range) (r : Range) (c : ℕ) → xs ≡ r ∷ rs → has rs c ≡ true → has xs c ≡ true
has-rest xs rs r c e h = ap (λ l. has l c) e ∙ or_right (in_range c r) (has rs c) h

-- a character of a class is in its first range or after it
pub has_split : (r : Range) (rs : List Range) (c : ℕ) (P : Type 0) → has (r ∷ rs) c ≡ true → (in_range c r ≡ true → P) → (has rs c ≡ true → P) → P
has_split r rs c P h first rest = by_case (in_range c r) refl h
  where
    by_case : (b : Bool) → in_range c r ≡ b → (b || has rs c) ≡ true → P
    by_case true e k = first e
    by_case false e k = rest k

-- a class has no character below its first range
pub low_first : (ys ss : List Range) (s : Range) (c : ℕ) → ys ≡ s ∷ ss → IsClass ys → has ys c ≡ true → s.0 ≤ c
low_first ys ss s c e k h = first_least s ss c (subst IsClass e k) (sym (ap (λ l. has l c) e) ∙ h)

-- a range that ends below the first of the other class is left after
pub leave_first : (xs rs ys ss : List Range) (r s : Range) → xs ≡ r ∷ rs → ys ≡ s ∷ ss → IsClass ys → r.1 < s.0
    → (AreDisjoint rs ys ↔ AreDisjoint xs ys)
leave_first xs rs ys ss r s e f k l = (
  λ apart c sc p q.
      let low = low_first ys ss s c f k q in
      has_split r rs c ⊥ (sym (ap (λ t. has t c) e) ∙ p)
      (λ m. let high = to_last r c m in omega arith)
      (λ m. apart c sc m q),
  λ apart c sc p q. apart c sc (has-rest xs rs r c e p) q,
)

-- being disjoint knows no order
pub AreDisjoint-swap : (xs ys : List Range) → AreDisjoint xs ys → AreDisjoint ys xs
AreDisjoint-swap xs ys h c sc p q = h c sc q p

-- so is the first range of the other class, where it ends below that of the first
pub leave_other : (xs rs ys ss : List Range) (r s : Range) → xs ≡ r ∷ rs → ys ≡ s ∷ ss → IsClass xs → s.1 < r.0
    → (AreDisjoint xs ss ↔ AreDisjoint xs ys)
leave_other xs rs ys ss r s e f k l =
    let swapped = leave_first ys ss xs rs s r f e k l in
    (λ h. AreDisjoint-swap ys xs (swapped.0 (AreDisjoint-swap xs ss h)), λ h. AreDisjoint-swap ss xs (swapped.1 (AreDisjoint-swap xs ys h)))
