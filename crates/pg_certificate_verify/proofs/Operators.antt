-- What operators and gaps meet.
use Rattle.std.proofs.Common.{◌≡◌, ℕ, Bool, true, false, List, Option, Some, None, refl, sym, subst}
use Rattle.std.specs.Prelude.{◌↔◌, IsTrue, MatchOption, is_some}
use Rattle.std.proofs.lemmas.Bool.{true≢false}
use Rattle.pg_grammar_value.specs.Grammar.{Grammar}
use Rattle.pg_predict_conditions.proofs.Numbered.{listed_once, never_both}
use Rattle.pg_predict_conditions.specs.Conditions.{AreFirstToMeet, NoneMeet, IsFirstToMeetGap, BeginsNothing}
use Rattle.pg_predict_conditions.specs.Conditions as met
use Rattle.pg_predict_conditions.specs.Shown.{AreWellFormed}
use Rattle.pg_sets.specs.Sets.{Sets, HasStart}
use Rattle.pg_sets_own.specs.Listed.{IsListed, start_order}
use Rattle.pg_sets_own.specs.OperatorStarts.{AreOperatorStarts, AreBothStarts, IsGapStart}
use Rattle.pg_sets_own.specs.OperatorStarts as gaps
use Rattle.pg_sets_own.specs.OwnStarts.{IsOperatorStart}
use Rattle.pg_sets_own.specs.OwnStarts as own
use Rattle.pg_sets_own.specs.declared.listed.ListedStart.{ListedStart}
use Rattle.pg_sets_own.specs.declared.operators.OperatorStarts.{OperatorStarts}
use Rattle.pg_start.specs.Apart.{Apart}
use Rattle.pg_start.specs.declared.kind.StartKind.{StartKind}
use Rattle.std.proofs.Common.{Less}
use Rattle.pg_certificate_verify.specs.Breaking.{SomeMeet, GapMeetsSome}
use Rattle.pg_certificate_verify.specs.Pairs.{IsFirstMet, MeetsNone}
use Rattle.pg_certificate_verify.proofs.Meeting.{first_one, none_met, gap_named}

-- ---- without an operators item

no_operator : {g : Grammar} {start : StartKind} → g.operators ≡ None → IsOperatorStart g start → ⊥
no_operator none (own.operator at is reserved) = cc

no_gap : {g : Grammar} {start : StartKind} → g.operators ≡ None → IsGapStart g start → ⊥
no_gap none (gaps.gap at is) = cc

pub none_operators : (g : Grammar) (One : StartKind → Type 0) → g.operators ≡ None → SomeMeet g One (IsOperatorStart g) → ⊥
none_operators g One none some = no_operator none some.2.meet.other

pub none_gaps : (g : Grammar) (One : StartKind → Type 0) → g.operators ≡ None → NoneMeet g One (IsGapStart g)
none_gaps g One none s t meet = no_gap none meet.other

-- ---- with one

module _ (g : Grammar) (sets : Sets) (both : OperatorStarts) (formed : AreWellFormed g sets) (are : AreBothStarts g both) (set : List Bool) where
  pub operator_told : (o : Option ℕ) → MatchOption o (MeetsNone sets.starts set both.operator.start) (λ k. IsFirstMet sets.starts set both.operator.start k)
      → IsTrue (is_some o) ↔ SomeMeet g (HasStart sets.starts set) (IsOperatorStart g)
  operator_told None none = (
    λ e. absurd (true≢false (sym e)),
    λ some. absurd (none_met g sets formed set (IsOperatorStart g) both.operator are.named are.operator none some.0 some.1 some.2.meet),
  )
  operator_told (Some k) first = (λ e. first_one g sets formed set (IsOperatorStart g) both.operator are.named are.operator k first, λ some. refl)

  gap_listed : IsListed g (record { start = both.gap; word = 0 })
  gap_listed = gap_named g both.gap ((are.gap both.gap).1 refl)

  pub gap_met : (o : Option ℕ) → MatchOption o (MeetsNone sets.starts set both.gap) (λ k. IsFirstMet sets.starts set both.gap k) → is_some o ≡ true
      → SomeMeet g (HasStart sets.starts set) (IsGapStart g)
  gap_met None none e = absurd (true≢false (sym e))
  gap_met (Some k) first e = first_one g sets formed set (IsGapStart g) (record { start = both.gap; word = 0 }) gap_listed are.gap k first

  pub gap_apart : (o : Option ℕ) → MatchOption o (MeetsNone sets.starts set both.gap) (λ k. IsFirstMet sets.starts set both.gap k) → is_some o ≡ false
      → NoneMeet g (HasStart sets.starts set) (IsGapStart g)
  gap_apart None none e = none_met g sets formed set (IsGapStart g) (record { start = both.gap; word = 0 }) gap_listed are.gap none
  gap_apart (Some k) first e = absurd (true≢false e)

-- ---- both

module _ (g : Grammar) (both : OperatorStarts) (are : AreBothStarts g both) where
  pub both_met : (Apart both.operator.start both.gap → ⊥) → SomeMeet g (IsOperatorStart g) (IsGapStart g)
  both_met together =
      let gap : ListedStart = record { start = both.gap; word = 0 } in
      let listed = gap_named g both.gap ((are.gap both.gap).1 refl) in (
        both.operator,
        gap,
        record {
          meet = record {
            one_listed = are.named;
            other_listed = listed;
            one = (are.operator both.operator.start).1 refl;
            other = (are.gap both.gap).1 refl;
            together = together;
          };
          first_one = λ x y meet less.
              let same = listed_once g both.operator x are.named meet.one_listed ((are.operator x.start).0 meet.one) in
              let self : start_order both.operator both.operator ≡ Less = subst (λ (z : ListedStart). start_order z both.operator ≡ Less) (sym same) less in
              never_both both.operator both.operator self self;
          first_other = λ y meet less.
              let same = listed_once g gap y listed meet.other_listed ((are.gap y.start).0 meet.other) in
              let self : start_order gap gap ≡ Less = subst (λ (z : ListedStart). start_order z gap ≡ Less) (sym same) less in
              never_both gap gap self self;
        },
      )

  pub both_apart : Apart both.operator.start both.gap → NoneMeet g (IsOperatorStart g) (IsGapStart g)
  both_apart apart s t meet =
      let one = (are.operator s.start).0 meet.one in
      let other = (are.gap t.start).0 meet.other in
      meet.together (subst (λ z. Apart s.start z) other (subst (λ z. Apart z both.gap) one apart))

-- ---- gaps

module _ (g : Grammar) (Term After : StartKind → Type 0) where
  pub by_operator : SomeMeet g (IsOperatorStart g) (IsGapStart g) → GapMeetsSome g Term After
  by_operator some = (some.0, met.operator some.2)

  pub by_term : NoneMeet g (IsOperatorStart g) (IsGapStart g) → SomeMeet g Term (IsGapStart g) → GapMeetsSome g Term After
  by_term none some = (some.0, met.term none some.2)

  pub by_after : NoneMeet g (IsOperatorStart g) (IsGapStart g) → NoneMeet g Term (IsGapStart g) → SomeMeet g After (IsGapStart g) → GapMeetsSome g Term After
  by_after none apart some = (some.0, met.after none apart some.2)

  pub by_none : NoneMeet g (IsOperatorStart g) (IsGapStart g) → NoneMeet g Term (IsGapStart g) → NoneMeet g After (IsGapStart g) → GapMeetsSome g Term After → ⊥
  by_none none apart free (s, met.operator {t} first) = none s t first.meet
  by_none none apart free (s, met.term {t} before first) = apart s t first.meet
  by_none none apart free (s, met.after {t} before others first) = free s t first.meet

pub nothing_meets : (g : Grammar) (Other : StartKind → Type 0) → NoneMeet g BeginsNothing Other
nothing_meets g Other s t meet = meet.one
