-- The bounds of starts: what they are of a class and of a key, and that starts whose bounds don't overlap are apart.
use Rattle.std.proofs.Common.{◌≡◌, ◌↔◌, ◌⊎◌, inl, inr, ℕ, zero, suc, ◌+◌, ◌-◌, ◌<◌, ◌≤◌, Bool, true, false, not, List, [], ◌∷◌, ◌++◌, Option, Some, None, length, length-append, slice_get, take, IsTrue, arith, refl, ap, ◌∙◌, sym, subst}
use Rattle.std.proofs.lemmas.Bool.{cases_eq, or_right, false≢true}
use Rattle.std.proofs.lemmas.Option.{same_Some, slice_get_within}
use Rattle.std.specs.Char.{IsScalar}
use Rattle.pg_class.specs.Ranges.{Range, IsRange, IsClass, AreDisjoint, has, in_range}
use Rattle.pg_class.proofs.Unique.{above, first_least, has-first, scalar_index-mono, to_last}
use Rattle.pg_class.proofs.Disjoint.{has_split}
use Rattle.pg_start.specs.Prefixes.{begins_in, IsPrefix}
use Rattle.pg_start.specs.Apart.{Apart, KeysApart, differ, begins_outside}
use Rattle.pg_start.specs.declared.kind.StartKind.{StartKind}
use Rattle.pg_start.specs.declared.kind.StartKind.TheVariants.{Class, Key, Word, End}
use Rattle.pg_sets_own.specs.declared.listed.ListedStart.{ListedStart}
use Rattle.pg_predict_conditions.specs.Bounds.{BeginsWith, AreEnds, TellsClass, IsFurther, IsNotFurther, TellsFurther, AreStartBounds, AreBounds, DontOverlap, Differ, GoOnApart, TellApart, ShareAnEnd}
use Rattle.pg_predict_conditions.specs.declared.bounds.Bounds.{Bounds}

-- ---- a class

-- the last of some ranges
abbrev pub last_of : Range → List Range → Range
last_of r [] = r
last_of r (s ∷ rs) = last_of s rs

-- it stands at the end, its last character is in the class, and none in the class is above that
last_there : (r : Range) (rs : List Range) → slice_get (r ∷ rs) (length rs) ≡ Some (last_of r rs)
last_there r [] = refl
last_there r (s ∷ rs) = last_there s rs

has_last : (r : Range) (rs : List Range) → IsClass (r ∷ rs) → has (r ∷ rs) (last_of r rs).1 ≡ true
has_last r [] class = let ascends = class.0.ascends in has-first r [] r.1 ascends (omega arith)
has_last r (s ∷ rs) class = or_right (in_range (last_of s rs).1 r) (has (s ∷ rs) (last_of s rs).1) (has_last s rs class.2)

up_to_last : (r : Range) (rs : List Range) → IsClass (r ∷ rs) → (c : ℕ) → has (r ∷ rs) c ≡ true → c ≤ (last_of r rs).1
up_to_last r [] class c is = has_split r [] c (c ≤ r.1) is (λ m. to_last r c m) (λ m. absurd (false≢true m))
up_to_last r (s ∷ rs) class c is =
    has_split r (s ∷ rs) c (c ≤ (last_of s rs).1) is
    (λ m.
    let within = to_last r c m in
    let last = has_last s rs class.2 in
    let far = above r (s ∷ rs) (last_of s rs).1 class.1 last in
    let mono = scalar_index-mono (last_of s rs).1 r.1 in
    omega arith)
    (λ m. up_to_last s rs class.2 c m)

-- the first and the last character of a class that isn't empty
pub class_ends : (class : List Range) (first last : Range) → IsClass class → slice_get class 0 ≡ Some first → slice_get class (length class - 1) ≡ Some last
    → AreEnds (λ c. has class c ≡ true) (record { lowest = first.0; highest = last.1; of_class = true; second = None; third = None; fourth = None })
class_ends [] first last class there end = cc
class_ends (r ∷ rs) first last class there end =
    let is_first : r ≡ first = cc in
    let short : length (r ∷ rs) - 1 ≡ length rs = omega arith in
    let is_last : last_of r rs ≡ last = (let e = sym (last_there r rs) ∙ (sym (ap (slice_get (r ∷ rs)) short) ∙ end) in cc) in
    let ascends = class.0.ascends in
    subst (λ (x : Range). AreEnds (λ c. has (r ∷ rs) c ≡ true) (record { lowest = x.0; highest = last.1; of_class = true; second = None; third = None; fourth = None })) is_first
    (subst (λ (x : Range). AreEnds (λ c. has (r ∷ rs) c ≡ true) (record { lowest = r.0; highest = x.1; of_class = true; second = None; third = None; fourth = None })) is_last
    record {
      lowest = has-first r rs r.0 (omega arith) ascends;
      highest = has_last r rs class;
      between = λ c is. (first_least r rs c class is, up_to_last r rs class c is);
    })

-- each range of a class is one, from a character to another
pub range_of : (class : List Range) (k : ℕ) (r : Range) → IsClass class → slice_get class k ≡ Some r → IsRange r
range_of [] k r is at = cc
range_of (s ∷ rs) zero r is at = subst IsRange (same_Some s r at) is.0
range_of (s ∷ rs) (suc k) r is at = range_of rs k r is.2 at

-- ---- starts with no character in common

-- a key doesn't begin in a class that its first character isn't in
key_outside : (class : List Range) (key : List ℕ) (b : ℕ) → slice_get key 0 ≡ Some b → (has class b ≡ true → ⊥) → begins_in class key ≡ false
key_outside class [] b there none = refl
key_outside class (x ∷ xs) b there none = by_case (has class x) refl
  where
    by_case : (t : Bool) → has class x ≡ t → t ≡ false
    by_case true e = let same : x ≡ b = cc in absurd (none (sym (ap (has class) same) ∙ e))
    by_case false e = refl

-- two keys of which one begins with the other have the same first character
same_first : (key other : List ℕ) (a b : ℕ) → slice_get key 0 ≡ Some a → slice_get other 0 ≡ Some b → IsPrefix key other → a ≡ b
same_first [] other a b first second prefix = cc
same_first (x ∷ xs) [] a b first second prefix = cc
same_first (x ∷ xs) (y ∷ ys) a b first second prefix = cc

-- two starts that begin with something, and with nothing in common, are apart
apart_of : (one other : StartKind) (a b : ℕ) → BeginsWith one a → BeginsWith other b → ((c : ℕ) → BeginsWith one c → BeginsWith other c → ⊥) → Apart one other
apart_of (Class x) (Class y) a b p q none = λ c scalar m n. none c m n
apart_of (Class x) (Key k e) a b p q none = key_outside x k b q (λ m. none b m q)
apart_of (Class x) (Word h r d) a b p q none = λ c scalar m n. none c m n
apart_of (Class x) End a b p q none = absurd q
apart_of (Key k e) (Class x) a b p q none = key_outside x k a p (λ m. none a p m)
apart_of (Key k e) (Key l f) a b p q none =
    differ
    (λ prefix. none a p (q ∙ ap Some (sym (same_first k l a b p q prefix))))
    (λ prefix. none a p (q ∙ ap Some (same_first l k b a q p prefix)))
apart_of (Key k e) (Word h r d) a b p q none = begins_outside (key_outside h k a p (λ m. none a p m))
apart_of (Key k e) End a b p q none = absurd q
apart_of (Word h r d) (Class x) a b p q none = λ c scalar m n. none c m n
apart_of (Word h r d) (Key k e) a b p q none = begins_outside (key_outside h k b q (λ m. none b m q))
apart_of (Word h r d) (Word i s f) a b p q none = λ c scalar m n. none c m n
apart_of (Word h r d) End a b p q none = absurd q
apart_of End other a b p q none = absurd p

-- so are two whose bounds don't overlap
pub apart_by_bounds : (one other : StartKind) (own others : Option Bounds) → AreStartBounds one own → AreStartBounds other others → DontOverlap own others → Apart one other
apart_by_bounds one other None others is are below = absurd below
apart_by_bounds one other (Some a) None is are below = absurd below
apart_by_bounds one other (Some a) (Some b) is are below =
    apart_of one other a.lowest b.lowest is.0.lowest are.0.lowest
    (λ c p q. let left = is.0.between c p in let right = are.0.between c q in
    elim below [ inl h ↦ omega arith | inr h ↦ omega arith ])

-- a key and another that it begins with have the same characters as far as both go
same_at : (key other : List ℕ) (k a b : ℕ) → slice_get key k ≡ Some a → slice_get other k ≡ Some b → IsPrefix key other → a ≡ b
same_at [] other k a b one two prefix = cc
same_at (x ∷ xs) [] k a b one two prefix = cc
same_at (x ∷ xs) (y ∷ ys) zero a b one two prefix = cc
same_at (x ∷ xs) (y ∷ ys) (suc k) a b one two prefix = let behind : take (length xs) ys ≡ xs = cc in same_at xs ys k a b one two behind

-- keys that differ somewhere are apart
apart_at : (key other : List ℕ) (excluded others : List Range) (k : ℕ) (one two : Option ℕ) → one ≡ slice_get key k → two ≡ slice_get other k → Differ one two
    → KeysApart key excluded other others
apart_at key other excluded others k None two is are ne = absurd ne
apart_at key other excluded others k (Some a) None is are ne = absurd ne
apart_at key other excluded others k (Some a) (Some b) is are ne =
    differ (λ prefix. ne (same_at key other k a b (sym is) (sym are) prefix)) (λ prefix. ne (sym (same_at other key k b a (sym are) (sym is) prefix)))

-- where there is nothing nothing differs
none_differs : (one two : Option ℕ) → one ≡ None → Differ one two → ⊥
none_differs None two is ne = ne
none_differs (Some a) two is ne = cc

none_differs_from : (one two : Option ℕ) → two ≡ None → Differ one two → ⊥
none_differs_from None two is ne = ne
none_differs_from (Some a) None is ne = ne
none_differs_from (Some a) (Some b) is ne = cc

abbrev Further : Bounds → Bounds → Type 0
Further a b = Differ a.second b.second ⊎ (Differ a.third b.third ⊎ Differ a.fourth b.fourth)

none_further : (a b : Bounds) → IsNotFurther a → Further a b → ⊥
none_further a b lacks (inl ne) = none_differs a.second b.second lacks.second ne
none_further a b lacks (inr (inl ne)) = none_differs a.third b.third lacks.third ne
none_further a b lacks (inr (inr ne)) = none_differs a.fourth b.fourth lacks.fourth ne

no_further_than : (a b : Bounds) → IsNotFurther b → Further a b → ⊥
no_further_than a b lacks (inl ne) = none_differs_from a.second b.second lacks.second ne
no_further_than a b lacks (inr (inl ne)) = none_differs_from a.third b.third lacks.third ne
no_further_than a b lacks (inr (inr ne)) = none_differs_from a.fourth b.fourth lacks.fourth ne

keys_apart : (key other : List ℕ) (excluded others : List Range) (a b : Bounds) → IsFurther key a → IsFurther other b → Further a b → KeysApart key excluded other others
keys_apart key other excluded others a b is are (inl ne) = apart_at key other excluded others 1 a.second b.second is.second are.second ne
keys_apart key other excluded others a b is are (inr (inl ne)) = apart_at key other excluded others 2 a.third b.third is.third are.third ne
keys_apart key other excluded others a b is are (inr (inr ne)) = apart_at key other excluded others 3 a.fourth b.fourth is.fourth are.fourth ne

further_apart : (one other : StartKind) (a b : Bounds) → TellsFurther one a → TellsFurther other b → Further a b → Apart one other
further_apart (Class x) other a b is are ne = absurd (none_further a b is ne)
further_apart (Word h r d) other a b is are ne = absurd (none_further a b is ne)
further_apart End other a b is are ne = absurd (none_further a b is ne)
further_apart (Key k e) (Class x) a b is are ne = absurd (no_further_than a b are ne)
further_apart (Key k e) (Word h r d) a b is are ne = absurd (no_further_than a b are ne)
further_apart (Key k e) End a b is are ne = absurd (no_further_than a b are ne)
further_apart (Key k e) (Key l f) a b is are ne = keys_apart k l e f a b is are ne

-- so are two whose bounds go on apart
apart_further : (one other : StartKind) (own others : Option Bounds) → AreStartBounds one own → AreStartBounds other others → GoOnApart own others → Apart one other
apart_further one other None others is are ne = absurd ne
apart_further one other (Some a) None is are ne = absurd ne
apart_further one other (Some a) (Some b) is are ne = further_apart one other a b is.2 are.2 ne

apart_as_told : (one other : StartKind) (own others : Option Bounds) → AreStartBounds one own → AreStartBounds other others → TellApart own others → Apart one other
apart_as_told one other own others is are told =
    elim told [ inl below ↦ apart_by_bounds one other own others is are below | inr ne ↦ apart_further one other own others is are ne ]

-- classes with a character in common aren't apart
met_at : (class other : List Range) (a b : ℕ) → IsScalar a → has class a ≡ true → has other b ≡ true → a ≡ b → AreDisjoint class other → ⊥
met_at class other a b scalar is are same apart = apart a scalar is (subst (λ c. has other c ≡ true) (sym same) are)

-- nor are those that begin or end with the same one
meet_at_an_end : (class other : List Range) (a b : Bounds) → AreEnds (λ c. has class c ≡ true) a → AreEnds (λ c. has other c ≡ true) b → IsScalar a.lowest × IsScalar a.highest
    → (a.lowest ≡ b.lowest) ⊎ (a.highest ≡ b.highest) → AreDisjoint class other → ⊥
meet_at_an_end class other a b is are scalars (inl same) apart = met_at class other a.lowest b.lowest scalars.0 is.lowest are.lowest same apart
meet_at_an_end class other a b is are scalars (inr same) apart = met_at class other a.highest b.highest scalars.1 is.highest are.highest same apart

met_by_ends : (one other : StartKind) (a b : Bounds) → AreEnds (BeginsWith one) a × TellsClass one a → AreEnds (BeginsWith other) b × TellsClass other b
    → a.of_class ≡ true → b.of_class ≡ true → (a.lowest ≡ b.lowest) ⊎ (a.highest ≡ b.highest) → Apart one other → ⊥
met_by_ends (Class x) (Class y) a b is are p q same apart = meet_at_an_end x y a b is.0 are.0 is.1 same apart
met_by_ends (Class x) (Word h r d) a b is are p q same apart = meet_at_an_end x h a b is.0 are.0 is.1 same apart
met_by_ends (Class x) (Key k e) a b is are p q same apart = false≢true (sym are.1 ∙ q)
met_by_ends (Class x) End a b is are p q same apart = false≢true (sym are.1 ∙ q)
met_by_ends (Word h r d) (Class x) a b is are p q same apart = meet_at_an_end h x a b is.0 are.0 is.1 same apart
met_by_ends (Word h r d) (Word i s f) a b is are p q same apart = meet_at_an_end h i a b is.0 are.0 is.1 same apart
met_by_ends (Word h r d) (Key k e) a b is are p q same apart = false≢true (sym are.1 ∙ q)
met_by_ends (Word h r d) End a b is are p q same apart = false≢true (sym are.1 ∙ q)
met_by_ends (Key k e) other a b is are p q same apart = false≢true (sym is.1 ∙ p)
met_by_ends End other a b is are p q same apart = false≢true (sym is.1 ∙ p)

-- nor are starts whose bounds share an end
pub meet_by_bounds : (one other : StartKind) (own others : Option Bounds) → AreStartBounds one own → AreStartBounds other others → ShareAnEnd own others → Apart one other → ⊥
meet_by_bounds one other None others is are share apart = share
meet_by_bounds one other (Some a) None is are share apart = share
meet_by_bounds one other (Some a) (Some b) is are share apart = met_by_ends one other a b (is.0, is.1) (are.0, are.1) share.0 share.1 share.2 apart

-- whether two starts meet, where bounds tell
pub told_by_bounds : (one other : StartKind) (own others : Option Bounds) (told : Bool) → AreStartBounds one own → AreStartBounds other others
    → (IsTrue told ↔ TellApart own others) → told ≡ true → IsTrue (not told) ↔ (Apart one other → ⊥)
told_by_bounds one other own others true is are says e =
    (λ h. absurd (false≢true h), λ meets. absurd (meets (apart_as_told one other own others is are (says.0 refl))))
told_by_bounds one other own others false is are says e = absurd (false≢true e)

pub told_by_ends : (one other : StartKind) (own others : Option Bounds) (told : Bool) → AreStartBounds one own → AreStartBounds other others
    → (IsTrue told ↔ ShareAnEnd own others) → told ≡ true → IsTrue told ↔ (Apart one other → ⊥)
told_by_ends one other own others true is are says e = (λ h. meet_by_bounds one other own others is are (says.0 refl), λ meets. refl)
told_by_ends one other own others false is are says e = absurd (false≢true e)

-- where they don't
pub told_apart : (one other : StartKind) (told : Bool) → (IsTrue told ↔ Apart one other) → IsTrue (not told) ↔ (Apart one other → ⊥)
told_apart one other true says = (λ h. absurd (false≢true h), λ meets. absurd (meets (says.0 refl)))
told_apart one other false says = (λ h apart. false≢true (says.1 apart), λ meets. refl)

-- ---- the bounds of several starts

-- the bounds of the first `count` starts
pub record BoundsSoFar (starts : List ListedStart) (count : ℕ) (bounds : List (Option Bounds)) : Type 0 where
  pub long : length bounds ≡ count
  pub each : (k : ℕ) (listed : ListedStart) (own : Option Bounds) → slice_get starts k ≡ Some listed → slice_get bounds k ≡ Some own
      → AreStartBounds listed.start own

read_before : {A : Type 0} (xs : List A) (y z : A) (k : ℕ) → k < length xs → slice_get (xs ++ y ∷ []) k ≡ Some z → slice_get xs k ≡ Some z
read_before [] y z k below at = absurd (omega arith)
read_before (x ∷ xs) y z zero below at = at
read_before (x ∷ xs) y z (suc k) below at = read_before xs y z k (omega arith) at

read_last : {A : Type 0} (xs : List A) (y z : A) → slice_get (xs ++ y ∷ []) (length xs) ≡ Some z → y ≡ z
read_last [] y z at = cc
read_last (x ∷ xs) y z at = read_last xs y z at

pub bounds_more : (starts : List ListedStart) (k : ℕ) (one : ListedStart) (own : Option Bounds) (bounds : List (Option Bounds)) → BoundsSoFar starts k bounds
    → slice_get starts k ≡ Some one → AreStartBounds one.start own → BoundsSoFar starts (k + 1) (bounds ++ own ∷ [])
bounds_more starts k one own bounds before there is =
    let long = before.long in
    let longer : length (bounds ++ own ∷ []) ≡ length bounds + 1 = length-append bounds (own ∷ []) in
    record {
      long = omega arith;
      each = λ i listed other here at.
          elim (cases_eq i k) [
            | inl same ↦
                let as_one : one ≡ listed = same_Some one listed (sym there ∙ (sym (ap (slice_get starts) same) ∙ here)) in
                let as_own : own ≡ other = read_last bounds own other (sym (ap (slice_get (bounds ++ own ∷ [])) (same ∙ sym long)) ∙ at) in
                subst (AreStartBounds listed.start) as_own (subst (λ (x : ListedStart). AreStartBounds x.start own) as_one is)
            | inr ne ↦
                let within = slice_get_within (bounds ++ own ∷ []) i other at in
                let below : i < length bounds = omega arith in
                before.each i listed other here (read_before bounds own other i below at)
          ];
    }

pub bounds_all : (starts : List ListedStart) (count : ℕ) (bounds : List (Option Bounds)) → BoundsSoFar starts count bounds → count ≡ length starts → AreBounds starts bounds
bounds_all starts count bounds are all = record { long = are.long ∙ all; each = are.each }
