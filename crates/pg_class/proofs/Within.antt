-- A class within another, from whose fronts ranges are left after.
use Rattle.std.proofs.Common.{◌≡◌, ◌↔◌, ℕ, ◌<◌, ◌≤◌, true, List, [], ◌∷◌, arith, ap, ◌∙◌, sym, subst}
use Rattle.std.proofs.lemmas.Bool.{false≢true}
use Rattle.pg_class.specs.Ranges.{Range, IsWithin, IsClass, in_range, has}
use Rattle.pg_class.proofs.Disjoint.{has-rest, has_split, low_first}
use Rattle.pg_class.proofs.Unique.{IsNext-next_character, next_character, first_ends, from_first, has-first, to_last}

-- a range that ends below the last character of the first of the class within is left after: a character stands after
-- it that its class leaves out
pub leave_low : (xs rs ys ss : List Range) (r s : Range) → xs ≡ r ∷ rs → ys ≡ s ∷ ss → IsClass xs → IsClass ys → s.1 < r.1
    → (IsWithin xs ss ↔ IsWithin xs ys)
leave_low xs rs ys ss r s e f h k l = (
  λ within c sc p. has-rest ys ss s c f (within c sc p),
  λ within c sc p.
      has_split s ss c (has ss c ≡ true) (sym (ap (λ t. has t c) f) ∙ within c sc p)
      (λ m. absurd (cut within c p m))
      (λ m. m),
)
  where
    class : IsClass (r ∷ rs)
    class = subst IsClass e h

    other : IsClass (s ∷ ss)
    other = subst IsClass f k

    -- a character of the range would be in the first of the class within, and so would the next one after the range
    cut : IsWithin xs ys → (c : ℕ) → has xs c ≡ true → in_range c s ≡ true → ⊥
    cut within c p m =
        let next = IsNext-next_character s.1 r.1 other.0.last class.0.last l in
        let n = next_character s.1 in
        let low = low_first xs rs r c e h p in
        let high = to_last s c m in
        let above = next.above in
        let rises : r.0 ≤ n = omega arith in
        let there = within n next.scalar (ap (λ t. has t n) e ∙ has-first r rs n rises next.within) in
        first_ends s ss n other.1 next.above next.index (sym (ap (λ t. has t n) f) ∙ there)

-- a range of the class within that lies in the first of the other is left after
pub leave_covered : (xs rs ys ss : List Range) (r s : Range) → xs ≡ r ∷ rs → ys ≡ s ∷ ss → s.0 ≤ r.0 → r.1 ≤ s.1
    → (IsWithin rs ys ↔ IsWithin xs ys)
leave_covered xs rs ys ss r s e f low high = (
  λ within c sc p.
      has_split r rs c (has ys c ≡ true) (sym (ap (λ t. has t c) e) ∙ p)
      (λ m.
      let from = from_first r c m in
      let to = to_last r c m in
      ap (λ t. has t c) f ∙ has-first s ss c (omega arith) (omega arith))
      (λ m. within c sc m),
  λ within c sc p. within c sc (has-rest xs rs r c e p),
)

-- the first character of a class
pub has_lowest : (xs rs : List Range) (r : Range) → xs ≡ r ∷ rs → IsClass xs → has xs r.0 ≡ true
has_lowest xs rs r e h =
    let class : IsClass (r ∷ rs) = subst IsClass e h in
    ap (λ t. has t r.0) e ∙ has-first r rs r.0 (omega arith) class.0.ascends

-- a class that begins below another isn't within it
pub begins_below : (xs rs ys ss : List Range) (r s : Range) → xs ≡ r ∷ rs → ys ≡ s ∷ ss → IsClass xs → IsClass ys → r.0 < s.0 → IsWithin xs ys → ⊥
begins_below xs rs ys ss r s e f h k l within =
    let class : IsClass (r ∷ rs) = subst IsClass e h in
    let low = low_first ys ss s r.0 f k (within r.0 class.0.first (has_lowest xs rs r e h)) in
    omega arith

-- nor is one with a range within the class of no characters
pub not_within_nothing : (xs rs ys : List Range) (r : Range) → xs ≡ r ∷ rs → ys ≡ [] → IsClass xs → IsWithin xs ys → ⊥
not_within_nothing xs rs ys r e f h within =
    let class : IsClass (r ∷ rs) = subst IsClass e h in
    false≢true (sym (ap (λ t. has t r.0) f) ∙ within r.0 class.0.first (has_lowest xs rs r e h))

-- the class of no characters is within every class
pub nothing_within : (xs ys : List Range) → xs ≡ [] → IsWithin xs ys
nothing_within xs ys e = λ c sc p. absurd (false≢true (sym (ap (λ t. has t c) e) ∙ p))
