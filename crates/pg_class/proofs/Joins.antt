-- What a list of ranges has once one more is joined to it.
use Rattle.std.proofs.Common.{◌≡◌, ℕ, ◌+◌, ◌<◌, ◌≤◌, Bool, true, false, ◌&&◌, ◌||◌, nat_lt, nat_le, cond, min, max, List, [], ◌∷◌, ◌++◌, ◌-◌, zero, suc, All, length, get_or, take, Some, None, slice_get, slice_set, arith, refl, ap, sym, subst, ◌∙◌}
use Rattle.std.proofs.Math.Bool.{or_assoc, or_comm}
use Rattle.std.proofs.lemmas.Bool.Decides.{leb_tells}
use Rattle.std.proofs.lemmas.List.{get_or_default, take_all, take_more}
use Rattle.std.proofs.lemmas.List.Folds.{list_any_more}
use Rattle.std.proofs.lemmas.List.Elements.{All-append, All-cons, All-nil, All-head, All-tail, All-weaker}
use Rattle.std.proofs.lemmas.Option.{get_or_from_slice_get, slice_get-get_or}
use Rattle.std.specs.List.Sorted.{IsNonDecreasingBy}
use Rattle.std.specs.Char.{IsScalar, scalar_index}
use Rattle.pg_class.specs.Ranges.{Range, IsRange, AllApart, in_range, has, apart, IsClass, with_range}
use Rattle.pg_class.proofs.Unique.{scalar_index-mono}

-- two ranges with no character between them, and one from the lower first to the higher last, have the same
pub joined_same : (a b x y c : ℕ) → a ≤ b → x ≤ y → (b < c → c < x → ⊥) → (y < c → c < a → ⊥)
    → (nat_le (min a x) c && nat_le c (max b y)) ≡ (nat_le a c && nat_le c b || nat_le x c && nat_le c y)
joined_same a b x y c ab xy h k = grind (arith, leb_tells, h, k)

-- no character stands between two that have none between them
pub no_gap : (b c x : ℕ) → IsScalar b → IsScalar c → IsScalar x → nat_lt (scalar_index b + 1) (scalar_index x) ≡ false → b < c → c < x → ⊥
no_gap b c x sb sc sx e h k = grind (arith, leb_tells)

-- of three, the second may stand first
pub or_swap : (p q r : Bool) → (p || (q || r)) ≡ (q || (p || r))
or_swap true true r = refl
or_swap true false r = refl
or_swap false q r = refl

-- the lower and the higher of two characters are characters
pub scalar_min : (a b : ℕ) → IsScalar a → IsScalar b → IsScalar (min a b)
scalar_min a b h k = grind (arith, leb_tells, h, k)

pub scalar_max : (a b : ℕ) → IsScalar a → IsScalar b → IsScalar (max a b)
scalar_max a b h k = grind (arith, leb_tells, h, k)

-- two ranges as one
abbrev pub merged : Range → Range → Range
merged r s = (min r.0 s.0, max r.1 s.1)

-- of two ranges that do not descend one is made that does not
pub IsRange-merged : (r s : Range) → IsRange r → IsRange s → IsRange (merged r s)
IsRange-merged r s h k = record {
  ascends = let a = h.ascends in let b = k.ascends in grind arith;
  first = scalar_min r.0 s.0 h.first k.first;
  last = scalar_max r.1 s.1 h.last k.last;
}

-- it has the characters of both, where neither stands apart from the other
pub in_range-merged : (r s : Range) (c : ℕ) → IsRange r → IsRange s → IsScalar c → apart r s ≡ false → apart s r ≡ false
    → in_range c (merged r s) ≡ (in_range c r || in_range c s)
in_range-merged r s c h k sc e f =
    joined_same _ _ _ _ c h.ascends k.ascends (no_gap _ _ _ h.last sc k.first e) (no_gap _ _ _ k.last sc h.first f)

-- where the new range meets s, from what is known of the rest
has_step : (r s : Range) (rs : List Range) (c : ℕ) → IsRange r → IsRange s → IsScalar c
    → ((t : Range) → IsRange t → has (with_range t rs) c ≡ (in_range c t || has rs c)) → (b d : Bool) → apart s r ≡ b → apart r s ≡ d
    → has (cond b (s ∷ with_range r rs) (cond d (r ∷ s ∷ rs) (with_range (merged r s) rs))) c ≡ (in_range c r || (in_range c s || has rs c))
has_step r s rs c h k sc ih true d e f = ap (λ b. in_range c s || b) (ih r h) ∙ or_swap (in_range c s) (in_range c r) (has rs c)
has_step r s rs c h k sc ih false true e f = refl
has_step r s rs c h k sc ih false false e f =
    ih (merged r s) (IsRange-merged r s h k)
    ∙ (ap (λ b. b || has rs c) (in_range-merged r s c h k sc f e) ∙ or_assoc (in_range c r) (in_range c s) (has rs c))

-- joining a range to a class adds its characters and no other
pub has-with_range : (rs : List Range) (r : Range) (c : ℕ) → IsRange r → IsClass rs → IsScalar c → has (with_range r rs) c ≡ (in_range c r || has rs c)
has-with_range [] r c h k sc = refl
has-with_range (s ∷ rs) r c h k sc =
    has_step r s rs c h k.0 sc (λ t m. has-with_range rs t c m k.2 sc) (apart s r) (apart r s) refl refl

-- what stands below two ranges stands below the one that they make
pub apart-merged : (t r s : Range) → apart t r ≡ true → apart t s ≡ true → apart t (merged r s) ≡ true
apart-merged t r s h k = grind (arith, leb_tells, h, k)

-- what stands below a range stands below those above it
pub apart-trans : (r s t : Range) → IsRange s → apart r s ≡ true → apart s t ≡ true → apart r t ≡ true
apart-trans r s t k h e = let a = k.ascends in let b = k.first in let c = k.last in grind (arith, leb_tells, h, e)

-- `AllApart-with_range`, by where the new range meets the next
all_step : (t r s : Range) (rs : List Range) → apart t r ≡ true → AllApart t (s ∷ rs)
    → ((u : Range) → apart t u ≡ true → AllApart t (with_range u rs)) → (b d : Bool)
    → AllApart t (cond b (s ∷ with_range r rs) (cond d (r ∷ s ∷ rs) (with_range (merged r s) rs)))
all_step t r s rs e h ih true d = (h.0, ih r e)
all_step t r s rs e h ih false true = (e, h)
all_step t r s rs e h ih false false = ih (merged r s) (apart-merged t r s e h.0)

-- what stands below a range and below a list stands below the list with the range
pub AllApart-with_range : (rs : List Range) (t r : Range) → apart t r ≡ true → AllApart t rs → AllApart t (with_range r rs)
AllApart-with_range [] t r e h = (e, tt)
AllApart-with_range (s ∷ rs) t r e h = all_step t r s rs e h (λ u x. AllApart-with_range rs t u x h.1) (apart s r) (apart r s)

-- what stands below the first stands below the others
pub AllApart-apart : (rs : List Range) (r s : Range) → IsRange s → apart r s ≡ true → AllApart s rs → AllApart r rs
AllApart-apart [] r s k e h = tt
AllApart-apart (t ∷ rs) r s k e h = (apart-trans r s t k e h.0, AllApart-apart rs r s k e h.1)

-- `IsClass-with_range`, by where the new range meets the next
class_step : (r s : Range) (rs : List Range) → IsRange r → IsClass (s ∷ rs) → ((u : Range) → IsRange u → IsClass (with_range u rs))
    → (b d : Bool) → apart s r ≡ b → apart r s ≡ d
    → IsClass (cond b (s ∷ with_range r rs) (cond d (r ∷ s ∷ rs) (with_range (merged r s) rs)))
class_step r s rs h k ih true d e f = (k.0, AllApart-with_range rs s r e k.1, ih r h)
class_step r s rs h k ih false true e f = (h, (f, AllApart-apart rs r s k.0 f k.1), k)
class_step r s rs h k ih false false e f = ih (merged r s) (IsRange-merged r s h k.0)

-- joining a range to a class makes a class
pub IsClass-with_range : (rs : List Range) (r : Range) → IsRange r → IsClass rs → IsClass (with_range r rs)
IsClass-with_range [] r h k = (h, tt, tt)
IsClass-with_range (s ∷ rs) r h k = class_step r s rs h k (λ u m. IsClass-with_range rs u m k.2) (apart s r) (apart r s) refl refl

-- ---- a range behind all others

below_step : (s r : Range) (rs : List Range) → apart s r ≡ true → with_range r (s ∷ rs) ≡ s ∷ with_range r rs
below_step s r rs e = ap (λ b. cond b (s ∷ with_range r rs) (cond (apart r s) (r ∷ s ∷ rs) (with_range (merged r s) rs))) e

-- what stands below some ranges stands below the last of them
AllApart-last : (rs : List Range) (r l : Range) → AllApart r (rs ++ l ∷ []) → apart r l ≡ true
AllApart-last [] r l h = h.0
AllApart-last (s ∷ rs) r l h = AllApart-last rs r l h.1

IsClass-last : (rs : List Range) (l : Range) → IsClass (rs ++ l ∷ []) → IsRange l
IsClass-last [] l h = h.0
IsClass-last (s ∷ rs) l h = IsClass-last rs l h.2

-- a range that stands apart from the last of a class is put behind it
with_range-above : (rs : List Range) (l r : Range) → IsClass (rs ++ l ∷ []) → apart l r ≡ true
    → with_range r (rs ++ l ∷ []) ≡ (rs ++ l ∷ []) ++ r ∷ []
with_range-above [] l r h e = below_step l r [] e
with_range-above (s ∷ rs) l r h e =
    below_step s r (rs ++ l ∷ []) (apart-trans s l r (IsClass-last rs l h.2) (AllApart-last rs s l h.1) e)
    ∙ ap (λ xs. s ∷ xs) (with_range-above rs l r h.2 e)

-- the same of the last one as it is looked up
pub with_range-last : (rs : List Range) (l r : Range) → IsClass rs → slice_get rs (length rs - 1) ≡ Some l → apart l r ≡ true
    → with_range r rs ≡ rs ++ r ∷ []
with_range-last [] l r h got e = refl
with_range-last (s ∷ rs) l r h got e =
    let all = s ∷ rs in
    let i = length all - 1 in
    let within : i < length all = omega arith in
    let split : all ≡ take i all ++ l ∷ [] =
    sym (take_all (i + 1) all (omega arith)) ∙ take_more all i s within
    ∙ ap (λ x. take i all ++ x ∷ []) (get_or_from_slice_get all i l s got) in
    ap (with_range r) split ∙ with_range-above (take i all) l r (subst IsClass split h) e ∙ ap (λ xs. xs ++ r ∷ []) (sym split)

-- ---- a range that joins the last

-- what stands below a range stands below one that begins no earlier
apart-later : (s t r : Range) → apart s t ≡ true → t.0 ≤ r.0 → apart s r ≡ true
apart-later s t r e h = let m = scalar_index-mono t.0 r.0 h in grind (arith, leb_tells, e, m)

-- a range that begins no earlier than another doesn't stand below it
not_below : (l r : Range) → l.0 ≤ r.0 → r.0 ≤ r.1 → apart r l ≡ false
not_below l r h k = let m = scalar_index-mono l.0 r.1 in grind (arith, leb_tells, h, k, m)

-- one range, made longer
longer : (l r : Range) → l.0 ≤ r.0 → (b d : Bool) → apart l r ≡ b → apart r l ≡ d → b ≡ false → d ≡ false
    → (l.0, max l.1 r.1) ∷ [] ≡ cond b (l ∷ r ∷ []) (cond d (r ∷ l ∷ []) (merged r l ∷ []))
longer l r h true d e f is_b is_d = absurd (grind (arith, is_b))
longer l r h false true e f is_b is_d = absurd (grind (arith, is_d))
longer l r h false false e f is_b is_d =
    let first : l.0 ≡ min r.0 l.0 = grind (arith, leb_tells, h) in
    let last : max l.1 r.1 ≡ max r.1 l.1 = grind (arith, leb_tells) in
    ap (λ (a : ℕ). (a, max l.1 r.1) ∷ []) first ∙ ap (λ (b : ℕ). (min r.0 l.0, b) ∷ []) last

-- a range begins at a character or before it
abbrev pub begun_by : ℕ → Range → Type 0
begun_by low r = r.0 ≤ low

-- a range that begins in the last of a class, or right after it, makes it longer
joins_last : (rs : List Range) (i : ℕ) (l r : Range) → length rs ≡ i + 1 → IsClass rs → All (λ before. before.0 ≤ r.0) rs → r.0 ≤ r.1
    → slice_get rs i ≡ Some l → apart l r ≡ false → slice_set rs i (l.0, max l.1 r.1) ≡ with_range r rs
joins_last [] i l r n h begins k got e = absurd (omega arith)
joins_last (s ∷ []) zero l r n h begins k got e =
    let same : s ≡ l = get_or_from_slice_get (s ∷ []) 0 l s got in
    let low : l.0 ≤ r.0 = subst (λ (t : Range). t.0 ≤ r.0) same (All-head (begun_by r.0) s [] begins) in
    longer l r low (apart l r) (apart r l) refl refl e (not_below l r low k) ∙ ap (λ t. with_range r (t ∷ [])) (sym same)
joins_last (s ∷ []) (suc i) l r n h begins k got e = absurd (omega arith)
joins_last (s ∷ (t ∷ rs)) zero l r n h begins k got e = absurd (omega arith)
joins_last (s ∷ (t ∷ rs)) (suc i) l r n h begins k got e =
    let rest : length (t ∷ rs) ≡ i + 1 = omega arith in
    let after = All-tail (begun_by r.0) s (t ∷ rs) begins in
    ap (λ xs. s ∷ xs) (joins_last (t ∷ rs) i l r rest h.2 after k got e)
    ∙ sym (below_step s r (t ∷ rs) (apart-later s t r h.1.0 (All-head (begun_by r.0) t rs after)))

-- the same of the last one as it is looked up
pub joins_at_end : (rs : List Range) (l r : Range) → IsClass rs → All (λ before. before.0 ≤ r.0) rs → r.0 ≤ r.1
    → slice_get rs (length rs - 1) ≡ Some l → apart l r ≡ false → slice_set rs (length rs - 1) (l.0, max l.1 r.1) ≡ with_range r rs
joins_at_end [] l r h begins k got e = absurd (grind (arith, got))
joins_at_end (s ∷ rs) l r h begins k got e = joins_last (s ∷ rs) (length (s ∷ rs) - 1) l r (omega arith) h begins k got e

-- a range is put into no ranges
pub joins_none : (rs : List Range) (r : Range) → slice_get rs (length rs - 1) ≡ None → with_range r rs ≡ rs ++ r ∷ []
joins_none [] r got = refl
joins_none (s ∷ rs) r got =
    let all = s ∷ rs in
    absurd (grind (arith, sym (slice_get-get_or all (length all - 1) s (omega arith)) ∙ got))

-- ---- ranges joined in the order in which they begin

-- each of some ranges begins by the one with this number, if there is one
abbrev pub BeginBy : List Range → List Range → ℕ → Type 0
BeginBy rs ranges i = (d : Range) → i < length ranges → All (begun_by (get_or ranges i d).0) rs

-- with a range that begins by a character too, each still does
begins_step : (low : ℕ) (r s : Range) (rs : List Range) → r.0 ≤ low → s.0 ≤ low → All (begun_by low) rs
    → ((t : Range) → t.0 ≤ low → All (begun_by low) (with_range t rs)) → (b d : Bool)
    → All (begun_by low) (cond b (s ∷ with_range r rs) (cond d (r ∷ s ∷ rs) (with_range (merged r s) rs)))
begins_step low r s rs h k all ih true d = All-cons (begun_by low) s (with_range r rs) k (ih r h)
begins_step low r s rs h k all ih false true = All-cons (begun_by low) r (s ∷ rs) h (All-cons (begun_by low) s rs k all)
begins_step low r s rs h k all ih false false = ih (merged r s) (grind (arith, leb_tells, h))

pub begins-with_range : (low : ℕ) (rs : List Range) (r : Range) → r.0 ≤ low → All (begun_by low) rs → All (begun_by low) (with_range r rs)
begins-with_range low [] r h all = All-cons (begun_by low) r [] h all
begins-with_range low (s ∷ rs) r h all =
    let rest = All-tail (begun_by low) s rs all in
    begins_step low r s rs h (All-head (begun_by low) s rs all) rest (λ t k. begins-with_range low rs t k rest) (apart s r) (apart r s)

-- with the range of this number, each begins by the next
pub begin_by_next : (rs ranges : List Range) (i : ℕ) (d : Range) → IsNonDecreasingBy (λ (r : Range). r.0) ranges → i < length ranges
    → BeginBy rs ranges i → BeginBy (with_range (get_or ranges i d) rs) ranges (i + 1)
begin_by_next rs ranges i d rise here begin e within =
    let r = get_or ranges i d in
    let next = (get_or ranges (i + 1) e).0 in
    let same : (get_or ranges i e).0 ≡ r.0 = ap (λ (s : Range). s.0) (get_or_default ranges i e d here) in
    let low = rise i (i + 1) e (omega arith) within in
    let by : r.0 ≤ next = omega arith in
    All-weaker (begun_by r.0) (begun_by next) (λ s k. omega arith) (with_range r rs) (begins-with_range r.0 rs r (omega arith) (begin d here))

-- the ranges up to one more have what is in it or in the others
pub has-take_more : (ranges : List Range) (i : ℕ) (d : Range) (c : ℕ) → i < length ranges
    → (in_range c (get_or ranges i d) || has (take i ranges) c) ≡ has (take (i + 1) ranges) c
has-take_more ranges i d c h = or_comm (in_range c (get_or ranges i d)) (has (take i ranges) c) ∙ sym (list_any_more (in_range c) ranges i d h)

-- ---- a class with a range more

pub class-more : (rs xs ys : List Range) (r : Range) → IsRange r → IsClass rs → xs ≡ rs → ys ≡ with_range r xs → IsClass ys
class-more rs xs ys r h k same is = subst IsClass (sym (is ∙ ap (with_range r) same)) (IsClass-with_range rs r h k)

pub has-more : (rs xs ys : List Range) (r : Range) → IsRange r → IsClass rs → xs ≡ rs → ys ≡ with_range r xs → (c : ℕ) → IsScalar c
    → has ys c ≡ (in_range c r || has rs c)
has-more rs xs ys r h k same is c sc = ap (λ all. has all c) (is ∙ ap (with_range r) same) ∙ has-with_range rs r c h k sc

-- ---- the ranges of two classes

-- no range of a class descends
pub class_ascends : (rs : List Range) → IsClass rs → All (λ (r : Range). r.0 ≤ r.1) rs
class_ascends [] h = All-nil (λ (r : Range). r.0 ≤ r.1)
class_ascends (r ∷ rs) h = All-cons (λ (s : Range). s.0 ≤ s.1) r rs h.0.ascends (class_ascends rs h.2)

-- nor does one of two classes
pub both_ascend : (rs ss : List Range) → IsClass rs → IsClass ss → All (λ (r : Range). r.0 ≤ r.1) (rs ++ ss)
both_ascend rs ss h k = All-append (λ (r : Range). r.0 ≤ r.1) rs ss (class_ascends rs h) (class_ascends ss k)
