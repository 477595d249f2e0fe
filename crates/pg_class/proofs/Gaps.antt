-- The gaps of a class are a class, and have the characters that it doesn't have.
use Rattle.std.proofs.Common.{◌≡◌, ℕ, ◌+◌, ◌<◌, ◌≤◌, Bool, true, false, not, ◌&&◌, ◌||◌, nat_lt, nat_le, cond, List, [], ◌∷◌, arith, refl, ap, ◌∙◌}
use Rattle.std.proofs.lemmas.Bool.Decides.{leb_tells}
use Rattle.std.specs.Char.{IsScalar, scalar_index}
use Rattle.pg_class.specs.Ranges.{Range, IsRange, AllApart, IsClass, in_range, has, apart}
use Rattle.pg_class.specs.Gaps.{after, before, gaps}
use Rattle.pg_class.proofs.Unique.{has-apart, scalar_index-mono}

-- no range begins below a character
abbrev pub AllFrom : ℕ → List Range → Type 0
AllFrom low [] = Unit {0}
AllFrom low (r ∷ rs) = low ≤ r.0

-- what is known of the character after one, which may be past the last
pub record IsAfter (c n : ℕ) : Type 0 where
  pub scalar : n < 0x110000 → IsScalar n
  pub above : c < n
  pub next : scalar_index n ≡ scalar_index c + 1

pub IsAfter-after : (c : ℕ) → IsScalar c → IsAfter c (after c)
IsAfter-after c h = record {
  scalar = λ l. grind (arith, leb_tells);
  above = grind (arith, leb_tells);
  next = grind (arith, leb_tells);
}

-- what is known of the character before one
pub record IsBefore (c p : ℕ) : Type 0 where
  pub scalar : IsScalar p
  pub below : p < c
  pub next : scalar_index c ≡ scalar_index p + 1

pub IsBefore-before : (c : ℕ) → IsScalar c → 0 < c → IsBefore c (before c)
IsBefore-before c h l = record {
  scalar = grind (arith, leb_tells);
  below = grind (arith, leb_tells);
  next = grind (arith, leb_tells);
}

-- the characters at or after the one after b are those above b
pub above_after : (b c : ℕ) → IsScalar b → IsScalar c → nat_le (after b) c ≡ nat_lt b c
above_after b c h k = grind (arith, leb_tells)

-- the characters up to the one before a are those below a
pub below_before : (a c : ℕ) → IsScalar a → IsScalar c → 0 < a → nat_le c (before a) ≡ nat_lt c a
below_before a c h k l = grind (arith, leb_tells)

-- a character in a gap, in a range, or after it
with_gap : (low a b c : ℕ) (p : Bool) → low < a → a ≤ b → (c ≤ b → p ≡ false)
    → ((nat_le low c && nat_lt c a) || (nat_lt b c && not p)) ≡ (nat_le low c && not ((nat_le a c && nat_le c b) || p))
with_gap low a b c true l m h = grind (arith, leb_tells, h)
with_gap low a b c false l m h = grind (arith, leb_tells)

without_gap : (low a b c : ℕ) (p : Bool) → low ≤ a → a ≤ low → a ≤ b → (c ≤ b → p ≡ false)
    → (nat_lt b c && not p) ≡ (nat_le low c && not ((nat_le a c && nat_le c b) || p))
without_gap low a b c true l k m h = grind (arith, leb_tells, h)
without_gap low a b c false l k m h = grind (arith, leb_tells)

-- the next range of a class begins above the character after a range
from_next : (r s : Range) → IsRange r → IsRange s → apart r s ≡ true → after r.1 ≤ s.0
from_next r s h k e = let l = h.last in let f = k.first in grind (arith, leb_tells, e)

pub AllFrom-after : (r : Range) (rs : List Range) → IsRange r → AllApart r rs → IsClass rs → AllFrom (after r.1) rs
AllFrom-after r [] h k m = tt
AllFrom-after r (s ∷ rs) h k m = from_next r s h m.0 k.0

-- `has-gaps`, by whether a gap stands below the first range
has_step : (low : ℕ) (r : Range) (rs : List Range) (c : ℕ) → IsRange r → AllApart r rs → IsScalar c → low ≤ r.0
    → has (gaps (after r.1) rs) c ≡ (nat_le (after r.1) c && not (has rs c)) → (b : Bool) → nat_lt low r.0 ≡ b
    → has (cond b ((low, before r.0) ∷ gaps (after r.1) rs) (gaps (after r.1) rs)) c ≡ (nat_le low c && not (has (r ∷ rs) c))
has_step low r rs c h k sc l ih true e =
    let below : low < r.0 = grind (arith, leb_tells, e) in
    let first : nat_le c (before r.0) ≡ nat_lt c r.0 = below_before r.0 c h.first sc (omega arith) in
    let last = above_after r.1 c h.last sc in
    ap (λ t. in_range c (low, before r.0) || t) ih
    ∙ ap (λ t. (nat_le low c && nat_le c (before r.0)) || (t && not (has rs c))) last
    ∙ ap (λ t. (nat_le low c && t) || (nat_lt r.1 c && not (has rs c))) first
    ∙ with_gap low r.0 r.1 c (has rs c) below h.ascends (λ m. has-apart r rs c k m (has rs c) refl)
has_step low r rs c h k sc l ih false e =
    let above : r.0 ≤ low = grind (arith, leb_tells, e) in
    ih
    ∙ ap (λ t. t && not (has rs c)) (above_after r.1 c h.last sc)
    ∙ without_gap low r.0 r.1 c (has rs c) l above h.ascends (λ m. has-apart r rs c k m (has rs c) refl)

-- no range is left: every character from one on is in the gap after them
has_last : (low c : ℕ) → IsScalar c → (b : Bool) → nat_lt low 0x110000 ≡ b
    → has (cond b ((low, 0x10FFFF) ∷ []) []) c ≡ (nat_le low c && true)
has_last low c sc true e = grind (arith, leb_tells)
has_last low c sc false e = grind (arith, leb_tells, e)

-- the gaps from a character on have the characters from it on that the class doesn't have
pub has-gaps : (rs : List Range) (low c : ℕ) → IsClass rs → AllFrom low rs → IsScalar c
    → has (gaps low rs) c ≡ (nat_le low c && not (has rs c))
has-gaps [] low c h k sc = has_last low c sc (nat_lt low 0x110000) refl
has-gaps (r ∷ rs) low c h k sc =
    has_step low r rs c h.0 h.1 sc k (has-gaps rs (after r.1) c h.2 (AllFrom-after r rs h.0 h.1 h.2) sc) (nat_lt low r.0) refl

-- `AllApart-gaps`, by whether a gap stands below the first range
apart_step : (t r : Range) (low : ℕ) (gs : List Range) → scalar_index t.1 + 1 < scalar_index low → AllApart t gs → (b : Bool)
    → AllApart t (cond b ((low, before r.0) ∷ gs) gs)
apart_step t r low gs l h true = (grind (arith, leb_tells, l), h)
apart_step t r low gs l h false = h

apart_last : (t : Range) (low : ℕ) → scalar_index t.1 + 1 < scalar_index low → (b : Bool) → AllApart t (cond b ((low, 0x10FFFF) ∷ []) [])
apart_last t low l true = (grind (arith, leb_tells, l), tt)
apart_last t low l false = tt

-- gaps from a character on stand apart from what ends far enough below it
pub AllApart-gaps : (rs : List Range) (t : Range) (low : ℕ) → scalar_index t.1 + 1 < scalar_index low → AllFrom low rs → IsClass rs
    → AllApart t (gaps low rs)
AllApart-gaps [] t low l h k = apart_last t low l (nat_lt low 0x110000)
AllApart-gaps (r ∷ rs) t low l h k =
    let next = (IsAfter-after r.1 k.0.last).next in
    let rises = scalar_index-mono low r.0 h in
    let ascends = scalar_index-mono r.0 r.1 k.0.ascends in
    let below : scalar_index t.1 + 1 < scalar_index (after r.1) = omega arith in
    let rest = AllApart-gaps rs t (after r.1) below (AllFrom-after r rs k.0 k.1 k.2) k.2 in
    apart_step t r low (gaps (after r.1) rs) l rest (nat_lt low r.0)

-- `IsClass-gaps`, by whether a gap stands below the first range
class_step : (low : ℕ) (r : Range) (rs : List Range) → IsClass (r ∷ rs) → (low < 0x110000 → IsScalar low)
    → IsClass (gaps (after r.1) rs) → (b : Bool) → nat_lt low r.0 ≡ b
    → IsClass (cond b ((low, before r.0) ∷ gaps (after r.1) rs) (gaps (after r.1) rs))
class_step low r rs h sc ih false e = ih
class_step low r rs h sc ih true e =
    let below : low < r.0 = grind (arith, leb_tells, e) in
    let first = h.0.first in
    let last = IsBefore-before r.0 first (omega arith) in
    let next = IsAfter-after r.1 h.0.last in
    let scalar : IsScalar low = sc (grind (arith, leb_tells)) in
    let range : IsRange (low, before r.0) = record {
      ascends = let n = last.next in grind (arith, leb_tells);
      first = scalar;
      last = last.scalar;
    } in
    let ascends = scalar_index-mono r.0 r.1 h.0.ascends in
    let far : scalar_index (before r.0) + 1 < scalar_index (after r.1) = omega (arith, last.next, next.next) in
    (range, AllApart-gaps rs (low, before r.0) (after r.1) far (AllFrom-after r rs h.0 h.1 h.2) h.2, ih)

class_last : (low : ℕ) → (low < 0x110000 → IsScalar low) → (b : Bool) → nat_lt low 0x110000 ≡ b → IsClass (cond b ((low, 0x10FFFF) ∷ []) [])
class_last low sc false e = tt
class_last low sc true e =
    let below : low < 0x110000 = grind (arith, leb_tells, e) in
    let range : IsRange (low, 0x10FFFF) = record { ascends = omega arith; first = sc below; last = refl } in
    (range, tt, tt)

-- the gaps of a class are a class
pub IsClass-gaps : (rs : List Range) (low : ℕ) → IsClass rs → (low < 0x110000 → IsScalar low) → IsClass (gaps low rs)
IsClass-gaps [] low h sc = class_last low sc (nat_lt low 0x110000) refl
IsClass-gaps (r ∷ rs) low h sc =
    class_step low r rs h sc (IsClass-gaps rs (after r.1) h.2 (IsAfter-after r.1 h.0.last).scalar) (nat_lt low r.0) refl

-- no range begins below the first character
pub AllFrom-0 : (rs : List Range) → AllFrom 0 rs
AllFrom-0 [] = tt
AllFrom-0 (r ∷ rs) = omega arith

-- every character is one from the first on
from_first : (c : ℕ) (p : Bool) → (nat_le 0 c && p) ≡ p
from_first c p = grind (arith, leb_tells)

-- the gaps from the first character on have the characters that the class doesn't have
pub has-gaps-0 : (rs : List Range) (c : ℕ) → IsClass rs → IsScalar c → has (gaps 0 rs) c ≡ not (has rs c)
has-gaps-0 rs c h sc = has-gaps rs 0 c h (AllFrom-0 rs) sc ∙ from_first c (not (has rs c))
