-- The first meeting of two sets.
use Rattle.std.proofs.Common.{◌≡◌, ℕ, ◌+◌, ◌<◌, ◌≤◌, Bool, true, false, List, [], Option, Some, None, length, refl, sym, ap, subst, ◌∙◌, inl, inr, arith}
use Rattle.std.specs.Prelude.{is_some}
use Rattle.std.specs.Option.{MatchOption, option_and_then, option_map}
use Rattle.std.proofs.lemmas.Bool.{cases_eq, cases_lt, true≢false, and_parts, and_from}
use Rattle.std.proofs.lemmas.List.{get_or_past}
use Rattle.pg_graph_bits.specs.Numbers.{contains, in_both, set_at, IsNext}
use Rattle.pg_graph_bits.proofs.Inside.{contains_below}
use Rattle.pg_predict_conditions.specs.Meetings.{least, least_met, is_met, with_least_met, first_meeting}
use Rattle.pg_predict_conditions.specs.declared.meetings.Meeting.{Meeting}
use Rattle.pg_predict_conditions.proofs.Least.{IsLeast, least_from, none_from, least_is, least_none, found, Found}
use Rattle.pg_predict_conditions.proofs.Least as found_by

-- ---- sets

pub both_below : (a b : List Bool) (k : ℕ) → in_both a b k ≡ true → k < length b
both_below a b k h = contains_below b k (and_parts (contains a k) (contains b k) h).1

-- the least common number, as it is found by words
pub common_is : (a b : List Bool) (k : ℕ) → IsNext (in_both a b) 0 k → least (in_both a b) (length b) ≡ Some k
common_is a b k is = least_from (in_both a b) (length b) k (record { below = both_below a b k is.passes; passes = is.passes; before = λ j below. is.before j (omega arith) below })

pub common_none : (a b : List Bool) → ((n : ℕ) → in_both a b n ≡ false) → least (in_both a b) (length b) ≡ None
common_none a b out = none_from (in_both a b) (length b) (λ j below. out j)

pub common_least : (a b : List Bool) (r : Option ℕ) → MatchOption r ((n : ℕ) → in_both a b n ≡ false) (λ k. IsNext (in_both a b) 0 k) → r ≡ least (in_both a b) (length b)
common_least a b None out = sym (common_none a b out)
common_least a b (Some k) is = sym (common_is a b k is)

-- nothing meets a start that isn't there
pub past_least : (meetings : List (List Bool)) (b : List Bool) (s : ℕ) → length meetings ≤ s → least_met meetings b s ≡ None
past_least meetings b s past = ap (λ set. least (in_both set b) (length b)) (get_or_past meetings s [] past) ∙ common_none [] b (λ n. refl)

-- ---- first meetings

-- these two starts meet
pub record Met (meetings : List (List Bool)) (one other : List Bool) (s t : ℕ) : Type 0 where
  pub begins : contains one s ≡ true
  pub both : in_both (set_at meetings s) other t ≡ true

-- they are the first two
pub record IsFirstMeeting (meetings : List (List Bool)) (one other : List Bool) (m : Meeting) : Type 0 where
  pub met : Met meetings one other m.one m.other
  pub first_one : (s t : ℕ) → s < m.one → Met meetings one other s t → ⊥
  pub first_other : (t : ℕ) → t < m.other → in_both (set_at meetings m.one) other t ≡ false

-- there are first two, or none meet
pub data MeetingFound (meetings : List (List Bool)) (one other : List Bool) : Option Meeting → Type 0 where
  some : {m : Meeting} → IsFirstMeeting meetings one other m → MeetingFound meetings one other (Some m)
  none : ((s t : ℕ) → Met meetings one other s t → ⊥) → MeetingFound meetings one other None

-- whatever is met is among what is looked through
met_is_met : (meetings : List (List Bool)) (one other : List Bool) (s t : ℕ) → Met meetings one other s t → is_met meetings one other s ≡ true
met_is_met meetings one other s t met = and_from (contains one s) (is_some (least_met meetings other s)) met.begins (go (least_met meetings other s) (found (in_both (set_at meetings s) other) (length other)))
  where
    go : (r : Option ℕ) → Found (in_both (set_at meetings s) other) (length other) r → is_some r ≡ true
    go (Some k) (found_by.some is) = refl
    go None (found_by.none out) = absurd (true≢false (sym met.both ∙ out t (both_below (set_at meetings s) other t met.both)))

pub meeting_found : (meetings : List (List Bool)) (one other : List Bool) → MeetingFound meetings one other (first_meeting meetings one other)
meeting_found meetings one other = go (least (is_met meetings one other) (length one)) (found (is_met meetings one other) (length one))
  where
    at : (s : ℕ) → IsLeast (is_met meetings one other) (length one) s → (r : Option ℕ) → Found (in_both (set_at meetings s) other) (length other) r → least_met meetings other s ≡ r
        → MeetingFound meetings one other (option_map (λ t. record { one = s; other = t }) r)
    at s is (Some t) (found_by.some there) e =
        some (record {
          met = record { begins = (and_parts (contains one s) (is_some (least_met meetings other s)) is.passes).0; both = there.passes };
          first_one = λ r u below met. absurd (true≢false (sym (met_is_met meetings one other r u met) ∙ is.before r below));
          first_other = there.before;
        })
    at s is None (found_by.none out) e =
        absurd (true≢false (sym (and_parts (contains one s) (is_some (least_met meetings other s)) is.passes).1 ∙ ap is_some e))

    go : (r : Option ℕ) → Found (is_met meetings one other) (length one) r → MeetingFound meetings one other (option_and_then (with_least_met meetings other) r)
    go (Some s) (found_by.some is) = at s is (least_met meetings other s) (found (in_both (set_at meetings s) other) (length other)) refl
    go None (found_by.none out) =
        none (λ s t met. absurd (true≢false (sym (met_is_met meetings one other s t met) ∙ out s (contains_below one s met.begins))))

-- the first two are the ones that are found
pub meeting_from : (meetings : List (List Bool)) (one other : List Bool) (m : Meeting) → IsFirstMeeting meetings one other m → first_meeting meetings one other ≡ Some m
meeting_from meetings one other m is = go (first_meeting meetings one other) (meeting_found meetings one other)
  where
    same_other : (s t u : ℕ) → Met meetings one other s t → Met meetings one other s u → ((v : ℕ) → v < t → in_both (set_at meetings s) other v ≡ false)
        → ((v : ℕ) → v < u → in_both (set_at meetings s) other v ≡ false) → t ≡ u
    same_other s t u a b before_t before_u =
        elim (cases_lt t u) [
          | inl less ↦ absurd (true≢false (sym a.both ∙ before_u t less))
          | inr more ↦ elim (cases_eq t u) [ inl same ↦ same | inr other ↦ absurd (true≢false (sym b.both ∙ before_t u (omega arith))) ]
        ]

    go : (r : Option Meeting) → MeetingFound meetings one other r → r ≡ Some m
    go None (none out) = absurd (out m.one m.other is.met)
    go (Some k) (some there) =
        let same : k.one ≡ m.one = elim (cases_lt k.one m.one) [
          | inl less ↦ absurd (is.first_one k.one k.other less there.met)
          | inr more ↦ elim (cases_eq k.one m.one) [ inl e ↦ e | inr ne ↦ absurd (there.first_one m.one m.other (omega arith) is.met) ]
        ] in
        let met = subst (λ s. Met meetings one other s k.other) same there.met in
        let first = subst (λ s. (v : ℕ) → v < k.other → in_both (set_at meetings s) other v ≡ false) same there.first_other in
        let others = same_other m.one k.other m.other met is.met first is.first_other in
        ap Some (ap (λ (s : ℕ). record k { one = s }) same ∙ ap (λ (t : ℕ). record m { other = t }) others)

pub no_meeting : (meetings : List (List Bool)) (one other : List Bool) → ((s t : ℕ) → Met meetings one other s t → ⊥) → first_meeting meetings one other ≡ None
no_meeting meetings one other out = go (first_meeting meetings one other) (meeting_found meetings one other)
  where
    go : (r : Option Meeting) → MeetingFound meetings one other r → r ≡ None
    go None (none still) = refl
    go (Some m) (some is) = absurd (out m.one m.other is.met)

-- ---- looking through a set from its first start on

-- no start below this number meets one
abbrev pub NoneBelow : List (List Bool) → List Bool → List Bool → ℕ → Type 0
NoneBelow meetings one other from = (s t : ℕ) → s < from → Met meetings one other s t → ⊥

-- a start is left after that meets none
pub none_below_next : (meetings : List (List Bool)) (one other : List Bool) (from start : ℕ) → NoneBelow meetings one other from → IsNext (contains one) from start
    → least_met meetings other start ≡ None → NoneBelow meetings one other (start + 1)
none_below_next meetings one other from start before next out s t below met =
    elim (cases_lt s from) [
      | inl less ↦ before s t less met
      | inr more ↦
          elim (cases_eq s start) [
            | inl same ↦
                let both : in_both (set_at meetings start) other t ≡ true = subst (λ k. in_both (set_at meetings k) other t ≡ true) same met.both in
                absurd (true≢false (sym both ∙ least_none (in_both (set_at meetings start) other) (length other) t out (both_below (set_at meetings start) other t both)))
            | inr ne ↦ absurd (true≢false (sym met.begins ∙ next.before s more (omega arith)))
          ]
    ]

-- a start that meets one is the first
pub found_here : (meetings : List (List Bool)) (one other : List Bool) (from start t : ℕ) → NoneBelow meetings one other from → IsNext (contains one) from start
    → least_met meetings other start ≡ Some t → first_meeting meetings one other ≡ Some (record { one = start; other = t })
found_here meetings one other from start t before next there =
    let is = least_is (in_both (set_at meetings start) other) (length other) t there in
    meeting_from meetings one other (record { one = start; other = t }) (record {
      met = record { begins = next.passes; both = is.passes };
      first_one = λ s u below met.
          elim (cases_lt s from) [ inl less ↦ before s u less met | inr more ↦ absurd (true≢false (sym met.begins ∙ next.before s more below)) ];
      first_other = is.before;
    })

-- no start is left that could meet one
pub none_left : (meetings : List (List Bool)) (one other : List Bool) (from : ℕ) → NoneBelow meetings one other from
    → ((s : ℕ) → from ≤ s → s < length meetings → contains one s ≡ false) → first_meeting meetings one other ≡ None
none_left meetings one other from before rest =
    no_meeting meetings one other (λ s t met.
    elim (cases_lt s from) [
      | inl less ↦ before s t less met
      | inr more ↦
          elim (cases_lt s (length meetings)) [
            | inl inside ↦ absurd (true≢false (sym met.begins ∙ rest s more inside))
            | inr past ↦
                let nothing : in_both (set_at meetings s) other t ≡ false = ap (λ set. in_both set other t) (get_or_past meetings s [] past) in
                absurd (true≢false (sym met.both ∙ nothing))
          ]
    ])
