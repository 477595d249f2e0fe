-- A class is given by the characters that it has.
use Rattle.std.proofs.Common.{◌≡◌, ℕ, ◌+◌, ◌<◌, ◌≤◌, Bool, true, false, ◌||◌, ◌==◌, cond, List, [], ◌∷◌, arith, refl, ap, ◌∙◌, sym, subst}
use Rattle.std.proofs.lemmas.Bool.Decides.{leb_tells}
use Rattle.std.specs.Char.{IsScalar, scalar_index}
use Rattle.pg_class.specs.Ranges.{Range, IsRange, AllApart, IsClass, SameCharacters, in_range, has, apart}

-- the character after one that isn't the last: the surrogates are passed over
abbrev pub next_character : ℕ → ℕ
next_character c = cond (c == 0xD7FF) 0xE000 (c + 1)

-- what is known of it, where d is a character above
pub record IsNext (c d n : ℕ) : Type 0 where
  pub scalar : IsScalar n
  pub above : c < n
  pub within : n ≤ d
  pub index : scalar_index n ≡ scalar_index c + 1

-- the next character is one, up to any that is above
pub IsNext-next_character : (c d : ℕ) → IsScalar c → IsScalar d → c < d → IsNext c d (next_character c)
IsNext-next_character c d h k l = record {
  scalar = grind (arith, leb_tells);
  above = grind (arith, leb_tells);
  within = grind (arith, leb_tells);
  index = grind (arith, leb_tells);
}

-- the places of characters rise with their codes
pub scalar_index-mono : (a b : ℕ) → a ≤ b → scalar_index a ≤ scalar_index b
scalar_index-mono a b h = omega arith

-- two numbers of which none is below the other
equal_unless_lt : (a b : ℕ) → (a < b → ⊥) → (b < a → ⊥) → a ≡ b
equal_unless_lt a b h k = grind (arith, h, k)

-- the two truth values differ
false_ne_true : false ≡ true → ⊥
false_ne_true e = grind (arith, e)

-- what the test of a range says
pub from_first : (r : Range) (c : ℕ) → in_range c r ≡ true → r.0 ≤ c
from_first r c e = grind (arith, leb_tells, e)

pub to_last : (r : Range) (c : ℕ) → in_range c r ≡ true → c ≤ r.1
to_last r c e = grind (arith, leb_tells, e)

-- a range has what lies within its ends
pub in_range-within : (r : Range) (c : ℕ) → r.0 ≤ c → c ≤ r.1 → in_range c r ≡ true
in_range-within r c h k = grind (arith, leb_tells, h, k)

-- `above`, by whether the first of the ranges has the character
above_step : (r s : Range) (rs : List Range) (c : ℕ) → apart r s ≡ true → (has rs c ≡ true → scalar_index r.1 + 1 < scalar_index c)
    → (b : Bool) → in_range c s ≡ b → (b || has rs c) ≡ true → scalar_index r.1 + 1 < scalar_index c
above_step r s rs c a ih true e h = let m = scalar_index-mono s.0 c (from_first s c e) in grind (arith, leb_tells, m, a)
above_step r s rs c a ih false e h = ih h

-- a character of ranges that all stand apart from r is above r, with a character between
pub above : (r : Range) (rs : List Range) (c : ℕ) → AllApart r rs → has rs c ≡ true → scalar_index r.1 + 1 < scalar_index c
above r [] c h e = grind (arith, e)
above r (s ∷ rs) c h e = above_step r s rs c h.0 (above r rs c h.1) (in_range c s) refl e

-- no character of a range is in those that stand apart from it
pub has-apart : (r : Range) (rs : List Range) (c : ℕ) → AllApart r rs → c ≤ r.1 → (b : Bool) → has rs c ≡ b → b ≡ false
has-apart r rs c h k true e = let a = above r rs c h e in let m = scalar_index-mono c r.1 k in absurd (omega arith)
has-apart r rs c h k false e = refl

-- `first_least`, by whether the first range has the character
head_step : (s : Range) (ss : List Range) (c : ℕ) → IsRange s → AllApart s ss → (b : Bool) → in_range c s ≡ b → (b || has ss c) ≡ true → s.0 ≤ c
head_step s ss c h k true e f = from_first s c e
head_step s ss c h k false e f = let a = above s ss c k f in let b = h.ascends in omega arith

-- a class has no character below its first range
pub first_least : (s : Range) (ss : List Range) (c : ℕ) → IsClass (s ∷ ss) → has (s ∷ ss) c ≡ true → s.0 ≤ c
first_least s ss c k e = head_step s ss c k.0 k.1 (in_range c s) refl e

-- a class has its first range's characters
pub has-first : (s : Range) (ss : List Range) (c : ℕ) → s.0 ≤ c → c ≤ s.1 → has (s ∷ ss) c ≡ true
has-first s ss c h k = ap (λ b. b || has ss c) (in_range-within s c h k)

-- the first range of a class begins no higher than that of another with the same characters
pub first_le : (r s : Range) (rs ss : List Range) → IsClass (r ∷ rs) → IsClass (s ∷ ss) → SameCharacters (r ∷ rs) (s ∷ ss) → s.0 ≤ r.0
first_le r s rs ss h k same =
    let ascends = h.0.ascends in
    first_least s ss r.0 k (sym (same r.0 h.0.first) ∙ has-first r rs r.0 (omega arith) ascends)

-- `first_ends`, by whether the first range has the character
beyond_step : (r : Range) (rs : List Range) (n : ℕ) → AllApart r rs → r.1 < n → scalar_index n ≡ scalar_index r.1 + 1
    → (b : Bool) → in_range n r ≡ b → (b || has rs n) ≡ true → ⊥
beyond_step r rs n h l i true e f = let m = to_last r n e in omega arith
beyond_step r rs n h l i false e f = let a = above r rs n h f in omega arith

-- the character right after a class's first range isn't in the class
pub first_ends : (r : Range) (rs : List Range) (n : ℕ) → AllApart r rs → r.1 < n → scalar_index n ≡ scalar_index r.1 + 1 → has (r ∷ rs) n ≡ true → ⊥
first_ends r rs n h l i e = beyond_step r rs n h l i (in_range n r) refl e

-- nor does it end below it, since the class has the character right after
pub last_not_lt : (r s : Range) (rs ss : List Range) → IsClass (r ∷ rs) → IsClass (s ∷ ss) → SameCharacters (r ∷ rs) (s ∷ ss) → r.1 < s.1 → ⊥
last_not_lt r s rs ss h k same l =
    let next = IsNext-next_character r.1 s.1 h.0.last k.0.last l in
    let n = next_character r.1 in
    let low = first_le r s rs ss h k same in
    let ascends = h.0.ascends in
    let rises : s.0 ≤ n = let a = next.above in omega arith in
    first_ends r rs n h.1 next.above next.index (same n next.scalar ∙ has-first s ss n rises next.within)

-- two classes with the same characters have the same first range
pub same_first : (r s : Range) (rs ss : List Range) → IsClass (r ∷ rs) → IsClass (s ∷ ss) → SameCharacters (r ∷ rs) (s ∷ ss) → r ≡ s
same_first r s rs ss h k same =
    let back : SameCharacters (s ∷ ss) (r ∷ rs) = λ c sc. sym (same c sc) in
    let low = first_le r s rs ss h k same in
    let low_back = first_le s r ss rs k h back in
    let high = last_not_lt r s rs ss h k same in
    let high_back = last_not_lt s r ss rs k h back in
    let first : r.0 ≡ s.0 = omega arith in
    let last : r.1 ≡ s.1 = equal_unless_lt r.1 s.1 high high_back in
    ap (λ (a : ℕ). (a, r.1)) first ∙ ap (λ (b : ℕ). (s.0, b)) last

-- `same_rest` at a character, by whether the first range has it
rest_step : (r : Range) (rs ss : List Range) (c : ℕ) → AllApart r rs → AllApart r ss → (b : Bool) → in_range c r ≡ b
    → (b || has rs c) ≡ (b || has ss c) → has rs c ≡ has ss c
rest_step r rs ss c h k true e f =
    has-apart r rs c h (to_last r c e) (has rs c) refl ∙ sym (has-apart r ss c k (to_last r c e) (has ss c) refl)
rest_step r rs ss c h k false e f = f

-- two classes with the same characters and the same first range have the same characters after it
pub same_rest : (r s : Range) (rs ss : List Range) → r ≡ s → IsClass (r ∷ rs) → IsClass (s ∷ ss) → SameCharacters (r ∷ rs) (s ∷ ss) → SameCharacters rs ss
same_rest r s rs ss e h k same = λ c sc.
    let apart_ss : AllApart r ss = subst (λ t. AllApart t ss) (sym e) k.1 in
    rest_step r rs ss c h.1 apart_ss (in_range c r) refl (same c sc ∙ ap (λ t. in_range c t || has ss c) (sym e))

-- a class that begins with a range has a character
pub not_empty : (s : Range) (ss : List Range) → IsRange s → false ≡ has (s ∷ ss) s.0 → ⊥
not_empty s ss h e = false_ne_true (e ∙ has-first s ss s.0 (omega arith) h.ascends)

-- two classes with the same characters are the same list
pub same_class : (rs ss : List Range) → IsClass rs → IsClass ss → SameCharacters rs ss → rs ≡ ss
same_class [] [] h k same = refl
same_class [] (s ∷ ss) h k same = absurd (not_empty s ss k.0 (same s.0 k.0.first))
same_class (r ∷ rs) [] h k same = absurd (not_empty r rs h.0 (sym (same r.0 h.0.first)))
same_class (r ∷ rs) (s ∷ ss) h k same =
    let first : r ≡ s = same_first r s rs ss h k same in
    ap (λ t. t ∷ rs) first ∙ ap (λ l. s ∷ l) (same_class rs ss h.2 k.2 (same_rest r s rs ss first h k same))
