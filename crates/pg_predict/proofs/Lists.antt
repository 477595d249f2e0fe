-- What is among what was noted, and in which order it stands.
use Rattle.std.proofs.Common.{◌≡◌, ℕ, zero, suc, ◌<◌, Bool, true, false, List, [], ◌∷◌, ◌++◌, Option, Some, None, map, refl, sym, ap, subst, ◌∙◌, ◌⊎◌, inl, inr, arith}
use Rattle.std.proofs.Common.{Less, Equal}
use Rattle.std.specs.Cmp.Lexicographic.{slice_cmp}
use Rattle.std.specs.List.{Contains, AllByRecursion}
use Rattle.std.specs.List.Sorted.{IsStrictlySortedBy}
use Rattle.std.specs.Ordering.{nat_cmp, ordering_then}
use Rattle.std.proofs.lemmas.Bool.{cases_eq, true≢false}
use Rattle.pg_sets_own.specs.declared.listed.ListedStart.{ListedStart}
use Rattle.pg_predict_conditions.specs.WithStarts.{Starts, kind_with_starts, with_starts}
use Rattle.pg_predict.specs.Findings.{condition_number, order_within, violation_key, violation_order}
use Rattle.pg_predict_conditions.specs.Judged.{noted, noted_meeting, noted_start, all_below}
use Rattle.pg_predict_conditions.specs.Violations.{Violation}
use Rattle.pg_predict_conditions.specs.declared.violation.ViolationKind.{ViolationKind}
use Rattle.pg_predict_conditions.specs.declared.violation.ViolationKind.TheVariants.{LeftRecursion, EmptyRound, EmptyAlternative, AlternativesMeet, AlternativeMeetsFollow, RoundMeetsFollow, EmptyOperand, OperandMeetsOperators, FollowMeetsOperators, GapMeets, StepCostOver}
use Rattle.pg_predict_conditions.specs.declared.meetings.Meeting.{Meeting}

-- ---- what is among others

abbrev pub In : List (Violation ℕ) → Violation ℕ → Type 0
In [] b = ⊥
In (x ∷ xs) b = (x ≡ b) ⊎ In xs b

pub in_left : (xs ys : List (Violation ℕ)) (b : Violation ℕ) → In xs b → In (xs ++ ys) b
in_left [] ys b is = absurd is
in_left (x ∷ xs) ys b (inl e) = inl e
in_left (x ∷ xs) ys b (inr is) = inr (in_left xs ys b is)

pub in_right : (xs ys : List (Violation ℕ)) (b : Violation ℕ) → In ys b → In (xs ++ ys) b
in_right [] ys b is = is
in_right (x ∷ xs) ys b is = inr (in_right xs ys b is)

pub in_cases : (xs ys : List (Violation ℕ)) (b : Violation ℕ) → In (xs ++ ys) b → In xs b ⊎ In ys b
in_cases [] ys b is = inr is
in_cases (x ∷ xs) ys b (inl e) = inl (inl e)
in_cases (x ∷ xs) ys b (inr is) = elim (in_cases xs ys b is) [ inl a ↦ inl (inr a) | inr c ↦ inr c ]

-- it was noted for a number
pub record NotedFor (f : ℕ → List (Violation ℕ)) (n : ℕ) (b : Violation ℕ) : Type 0 where
  pub number : ℕ
  pub below : number < n
  pub noted_for : In (f number) b

pub in_all_below : (f : ℕ → List (Violation ℕ)) (n : ℕ) (b : Violation ℕ) → In (all_below f n) b → NotedFor f n b
in_all_below f zero b is = absurd is
in_all_below f (suc n) b is =
    elim (in_cases (all_below f n) (f n) b is) [
      | inl before ↦ let for = in_all_below f n b before in let below = for.below in record { number = for.number; below = omega arith; noted_for = for.noted_for }
      | inr last ↦ record { number = n; below = omega arith; noted_for = last }
    ]

pub all_below_has : (f : ℕ → List (Violation ℕ)) (n k : ℕ) (b : Violation ℕ) → k < n → In (f k) b → In (all_below f n) b
all_below_has f zero k b below is = absurd (omega arith)
all_below_has f (suc n) k b below is =
    elim (cases_eq k n) [
      | inl same ↦ in_right (all_below f n) (f n) b (subst (λ (m : ℕ). In (f m) b) same is)
      | inr other ↦ in_left (all_below f n) (f n) b (all_below_has f n k b (omega arith) is)
    ]

-- a test
pub in_noted : (t : Bool) (p : ℕ) (what : ViolationKind ℕ) (b : Violation ℕ) → In (noted t p what) b → (t ≡ true) × (record { node = p; kind = what } ≡ b)
in_noted true p what b (inl e) = (refl, e)
in_noted true p what b (inr is) = absurd is
in_noted false p what b is = absurd is

pub noted_has : (t : Bool) (p : ℕ) (what : ViolationKind ℕ) → t ≡ true → In (noted t p what) (record { node = p; kind = what })
noted_has true p what e = inl refl
noted_has false p what e = absurd (true≢false (sym e))

-- a meeting
pub record NotedMeeting (o : Option Meeting) (p : ℕ) (what : ℕ → ℕ → ViolationKind ℕ) (b : Violation ℕ) : Type 0 where
  pub meeting : Meeting
  pub found : o ≡ Some meeting
  pub same : record { node = p; kind = what meeting.one meeting.other } ≡ b

pub in_noted_meeting : (o : Option Meeting) (p : ℕ) (what : ℕ → ℕ → ViolationKind ℕ) (b : Violation ℕ) → In (noted_meeting o p what) b → NotedMeeting o p what b
in_noted_meeting (Some m) p what b (inl e) = record { meeting = m; found = refl; same = e }
in_noted_meeting (Some m) p what b (inr is) = absurd is
in_noted_meeting None p what b is = absurd is

pub noted_meeting_has : (o : Option Meeting) (p : ℕ) (what : ℕ → ℕ → ViolationKind ℕ) (m : Meeting) → o ≡ Some m → In (noted_meeting o p what) (record { node = p; kind = what m.one m.other })
noted_meeting_has (Some k) p what m e = let same : k ≡ m = cc in inl (ap (λ (x : Meeting). record { node = p; kind = what x.one x.other }) same)
noted_meeting_has None p what m e = absurd cc

-- a start
pub record NotedStart (o : Option ℕ) (p : ℕ) (what : ℕ → ViolationKind ℕ) (b : Violation ℕ) : Type 0 where
  pub start : ℕ
  pub found : o ≡ Some start
  pub same : record { node = p; kind = what start } ≡ b

pub in_noted_start : (o : Option ℕ) (p : ℕ) (what : ℕ → ViolationKind ℕ) (b : Violation ℕ) → In (noted_start o p what) b → NotedStart o p what b
in_noted_start (Some s) p what b (inl e) = record { start = s; found = refl; same = e }
in_noted_start (Some s) p what b (inr is) = absurd is
in_noted_start None p what b is = absurd is

pub noted_start_has : (o : Option ℕ) (p : ℕ) (what : ℕ → ViolationKind ℕ) (s : ℕ) → o ≡ Some s → In (noted_start o p what) (record { node = p; kind = what s })
noted_start_has (Some x) p what s e = let same : x ≡ s = cc in inl (ap (λ (y : ℕ). record { node = p; kind = what y }) same)
noted_start_has None p what s e = absurd cc

-- ---- the order

-- the one stands before the other
abbrev pub Precedes : Violation ℕ → Violation ℕ → Type 0
Precedes b c = violation_order b c ≡ Less

abbrev pub Ascends : List (Violation ℕ) → Type 0
Ascends [] = Unit {0}
Ascends (b ∷ bs) = ((c : Violation ℕ) → In bs c → Precedes b c) × Ascends bs

pub ascends_append : (xs ys : List (Violation ℕ)) → Ascends xs → Ascends ys → ((b c : Violation ℕ) → In xs b → In ys c → Precedes b c) → Ascends (xs ++ ys)
ascends_append [] ys up_xs up_ys before = up_ys
ascends_append (x ∷ xs) ys up_xs up_ys before = (
  λ c is. elim (in_cases xs ys c is) [ inl here ↦ up_xs.0 c here | inr after ↦ before x c (inl refl) after ],
  ascends_append xs ys up_xs.1 up_ys (λ b c is_b is_c. before b c (inr is_b) is_c),
)

pub ascends_below : (f : ℕ → List (Violation ℕ)) → ((k : ℕ) → Ascends (f k))
    → ((j k : ℕ) (b c : Violation ℕ) → j < k → In (f j) b → In (f k) c → Precedes b c) → (n : ℕ) → Ascends (all_below f n)
ascends_below f each across zero = tt
ascends_below f each across (suc n) =
    ascends_append (all_below f n) (f n) (ascends_below f each across n) (each n)
    (λ b c is_b is_c. let for = in_all_below f n b is_b in across for.number n b c for.below for.noted_for is_c)

pub ascends_noted : (t : Bool) (p : ℕ) (what : ViolationKind ℕ) → Ascends (noted t p what)
ascends_noted true p what = (λ c is. absurd is, tt)
ascends_noted false p what = tt

pub ascends_meeting : (o : Option Meeting) (p : ℕ) (what : ℕ → ℕ → ViolationKind ℕ) → Ascends (noted_meeting o p what)
ascends_meeting (Some m) p what = (λ c is. absurd is, tt)
ascends_meeting None p what = tt

pub ascends_start : (o : Option ℕ) (p : ℕ) (what : ℕ → ViolationKind ℕ) → Ascends (noted_start o p what)
ascends_start (Some s) p what = (λ c is. absurd is, tt)
ascends_start None p what = tt

-- ---- keys

less_is : (a b : ℕ) → a < b → nat_cmp a b ≡ Less
less_is a b below = grind (arith, below)

equal_is : (a : ℕ) → nat_cmp a a ≡ Equal
equal_is a = grind arith

pub key_less : (a b : ℕ) (xs ys : List ℕ) → a < b → slice_cmp nat_cmp (a ∷ xs) (b ∷ ys) ≡ Less
key_less a b xs ys below = ap (λ o. ordering_then o (slice_cmp nat_cmp xs ys)) (less_is a b below)

pub key_same : (a : ℕ) (xs ys : List ℕ) → slice_cmp nat_cmp xs ys ≡ Less → slice_cmp nat_cmp (a ∷ xs) (a ∷ ys) ≡ Less
key_same a xs ys less = ap (λ o. ordering_then o (slice_cmp nat_cmp xs ys)) (equal_is a) ∙ less

-- by node
pub node_precedes : (b c : Violation ℕ) → b.node < c.node → Precedes b c
node_precedes b c below = key_less b.node c.node (condition_number b.kind ∷ order_within b.kind) (condition_number c.kind ∷ order_within c.kind) below

-- it is noted of a node, under a number
pub record Tagged (p n : ℕ) (b : Violation ℕ) : Type 0 where
  pub node : b.node ≡ p
  pub number : condition_number b.kind ≡ n

-- by number, at one node
pub tags_precede : (p m n : ℕ) (b c : Violation ℕ) → m < n → Tagged p m b → Tagged p n c → Precedes b c
tags_precede p m n b c below tag_b tag_c =
    let node_b = tag_b.node in
    let node_c = tag_c.node in
    let number_b = tag_b.number in
    let number_c = tag_c.number in
    let same : b.node ≡ c.node = node_b ∙ sym node_c in
    let less : condition_number b.kind < condition_number c.kind = omega arith in
    subst (λ (q : ℕ). slice_cmp nat_cmp (violation_key b) (q ∷ condition_number c.kind ∷ order_within c.kind) ≡ Less) same
    (key_same b.node (condition_number b.kind ∷ order_within b.kind) (condition_number c.kind ∷ order_within c.kind)
    (key_less (condition_number b.kind) (condition_number c.kind) (order_within b.kind) (order_within c.kind) less))

-- ---- with starts

-- the number of the condition is the same
pub same_number : (starts : Starts) (kind : ViolationKind ℕ) → condition_number (kind_with_starts starts kind) ≡ condition_number kind
same_number starts LeftRecursion = refl
same_number starts EmptyRound = refl
same_number starts (EmptyAlternative k) = refl
same_number starts (AlternativesMeet j k s t) = refl
same_number starts (AlternativeMeetsFollow k s t) = refl
same_number starts (RoundMeetsFollow s t) = refl
same_number starts EmptyOperand = refl
same_number starts (OperandMeetsOperators s) = refl
same_number starts (FollowMeetsOperators s) = refl
same_number starts (GapMeets s) = refl
same_number starts StepCostOver = refl

-- and so is all that the order sees
same_key : (starts : Starts) (p : ℕ) (kind : ViolationKind ℕ) → violation_key (with_starts starts (record { node = p; kind = kind })) ≡ violation_key {S = ℕ} (record { node = p; kind = kind })
same_key starts p LeftRecursion = refl
same_key starts p EmptyRound = refl
same_key starts p (EmptyAlternative k) = refl
same_key starts p (AlternativesMeet j k s t) = refl
same_key starts p (AlternativeMeetsFollow k s t) = refl
same_key starts p (RoundMeetsFollow s t) = refl
same_key starts p EmptyOperand = refl
same_key starts p (OperandMeetsOperators s) = refl
same_key starts p (FollowMeetsOperators s) = refl
same_key starts p (GapMeets s) = refl
same_key starts p StepCostOver = refl

precedes_with : (starts : Starts) (b c : Violation ℕ) → Precedes b c → violation_order (with_starts starts b) (with_starts starts c) ≡ Less
precedes_with starts b c less =
    ap (λ key. slice_cmp nat_cmp key (violation_key (with_starts starts c))) (same_key starts b.node b.kind)
    ∙ (ap (slice_cmp nat_cmp (violation_key b)) (same_key starts c.node c.kind) ∙ less)

-- ---- as lists of violations

-- what was noted is among the violations
pub contains_noted : (starts : Starts) (bs : List (Violation ℕ)) (b : Violation ℕ) → In bs b → Contains (map (with_starts starts) bs) (with_starts starts b)
contains_noted starts [] b is = absurd is
contains_noted starts (x ∷ xs) b (inl e) = (0, omega arith, ap (with_starts starts) e)
contains_noted starts (x ∷ xs) b (inr is) = let rest = contains_noted starts xs b is in let below = rest.1 in (suc rest.0, omega arith, rest.2)

pub record NotedAs (starts : Starts) (bs : List (Violation ℕ)) (v : Violation ListedStart) : Type 0 where
  pub violation : Violation ℕ
  pub there : In bs violation
  pub same : with_starts starts violation ≡ v

pub noted_contains : (starts : Starts) (bs : List (Violation ℕ)) (v : Violation ListedStart) → Contains (map (with_starts starts) bs) v → NotedAs starts bs v
noted_contains starts [] v is = let below = is.1 in absurd (omega arith)
noted_contains starts (x ∷ xs) v (zero, below, e) = record { violation = x; there = inl refl; same = e }
noted_contains starts (x ∷ xs) v (suc k, below, e) = let rest = noted_contains starts xs v (k, omega arith, e) in record { violation = rest.violation; there = inr rest.there; same = rest.same }

all_after : (starts : Starts) (b : Violation ℕ) (bs : List (Violation ℕ)) → ((c : Violation ℕ) → In bs c → Precedes b c)
    → AllByRecursion (λ v. violation_order (with_starts starts b) v ≡ Less) (map (with_starts starts) bs)
all_after starts b [] before = tt
all_after starts b (c ∷ cs) before = (precedes_with starts b c (before c (inl refl)), all_after starts b cs (λ d is. before d (inr is)))

pub ascends_sorted : (starts : Starts) (bs : List (Violation ℕ)) → Ascends bs → IsStrictlySortedBy violation_order (map (with_starts starts) bs)
unfolding IsStrictlySortedBy
ascends_sorted starts [] up = tt
ascends_sorted starts (b ∷ bs) up = (all_after starts b bs up.0, ascends_sorted starts bs up.1)
