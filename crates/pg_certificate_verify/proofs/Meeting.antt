-- Pairs of numbers are the first starts to meet.
use Rattle.std.proofs.Common.{◌≡◌, ◌<◌, ℕ, Bool, true, false, List, Some, slice_get, refl, sym, subst, inl, inr}
use Rattle.std.specs.Prelude.{◌↔◌, IsTrue}
use Rattle.std.proofs.lemmas.Bool.{cases_Bool}
use Rattle.pg_grammar_value.specs.Grammar.{Grammar}
use Rattle.pg_start.proofs.Meeting.{Apart-swap}
use Rattle.pg_start.specs.Apart.{Apart}
use Rattle.pg_start.specs.declared.kind.StartKind.{StartKind}
use Rattle.pg_start.specs.declared.kind.StartKind.TheVariants.{Class, Key, Word, End}
use Rattle.pg_sets.specs.Sets.{Sets, HasStart}
use Rattle.pg_sets_own.specs.Listed.{IsListed, start_order}
use Rattle.pg_sets_own.specs.OperatorStarts.{IsGapStart}
use Rattle.pg_sets_own.specs.declared.listed.ListedStart.{ListedStart}
use Rattle.std.proofs.Common.{Less}
use Rattle.pg_predict_conditions.proofs.Numbered.{never_both, order_numbers, listed_once, placed_by, member_by}
use Rattle.pg_predict_conditions.specs.Conditions.{Meet, NoneMeet}
use Rattle.pg_predict_conditions.specs.Shown.{AreWellFormed}
use Rattle.pg_certificate_verify.specs.Breaking.{SomeMeet}
use Rattle.pg_certificate_verify.specs.Pairs.{IsIn, MeetsIn, IsFirstMet, MeetsNone, IsPair, HasFirstPair, HasNoPair}

-- a start of a set has its number in it
pub record InSet (starts : List ListedStart) (set : List Bool) (x : ListedStart) : Type 0 where
  pub number : ℕ
  pub is : IsIn starts set number x

module _ (g : Grammar) (sets : Sets) (formed : AreWellFormed g sets) where
  in_set : (set : List Bool) (x : ListedStart) → IsListed g x → HasStart sets.starts set x.start → InSet sets.starts set x
  in_set set x named has =
      let placed = placed_by g sets.starts set x formed.listed named has in
      record { number = placed.number; is = record { there = placed.there; member = member_by g sets.starts set placed.number x formed.ordered formed.listed placed.there has } }

  has_start : (set : List Bool) (k : ℕ) (x : ListedStart) → IsIn sets.starts set k x → HasStart sets.starts set x.start
  has_start set k x is = record { number = k; listed = x; member = is.member; there = is.there; same = refl }

  below : (k j : ℕ) (x y : ListedStart) → slice_get sets.starts k ≡ Some x → slice_get sets.starts j ≡ Some y → start_order x y ≡ Less → k < j
  below k j x y at there less = order_numbers sets.starts k j x y formed.ordered at there less

  -- ---- two sets

  module _ (one other : List Bool) where
    abbrev One : StartKind → Type 0
    One = HasStart sets.starts one

    abbrev Other : StartKind → Type 0
    Other = HasStart sets.starts other

    pair_of : (x y : ListedStart) (meet : Meet g One Other x y) → IsPair sets.starts one other (in_set one x meet.one_listed meet.one).number (in_set other y meet.other_listed meet.other).number
    pair_of x y meet = record {
      x = x;
      y = y;
      in_one = (in_set one x meet.one_listed meet.one).is;
      in_other = (in_set other y meet.other_listed meet.other).is;
      together = meet.together;
    }

    pub first_pair : HasFirstPair sets.starts one other → SomeMeet g One Other
    first_pair has =
        let pair = has.pair in (
          pair.x,
          pair.y,
          record {
            meet = record {
              one_listed = formed.listed has.s pair.x pair.in_one.there;
              other_listed = formed.listed has.t pair.y pair.in_other.there;
              one = has_start one has.s pair.x pair.in_one;
              other = has_start other has.t pair.y pair.in_other;
              together = pair.together;
            };
            first_one = λ x y meet less.
                let at = in_set one x meet.one_listed meet.one in
                let there = in_set other y meet.other_listed meet.other in
                has.first_one at.number there.number (below at.number has.s x pair.x at.is.there pair.in_one.there less) (pair_of x y meet);
            first_other = λ y meet less.
                let there = in_set other y meet.other_listed meet.other in
                has.first_other there.number (below there.number has.t y pair.y there.is.there pair.in_other.there less)
                (record { x = pair.x; y = y; in_one = pair.in_one; in_other = there.is; together = meet.together });
          },
        )

    pub no_pair : HasNoPair sets.starts one other → NoneMeet g One Other
    no_pair none x y meet = none (in_set one x meet.one_listed meet.one).number (in_set other y meet.other_listed meet.other).number (pair_of x y meet)

  -- ---- a set, and the one start of a kind

  module _ (set : List Bool) (Other : StartKind → Type 0) (o : ListedStart) (named : IsListed g o) (only : (start : StartKind) → Other start ↔ (o.start ≡ start)) where
    is_only : (y : ListedStart) → IsListed g y → Other y.start → o ≡ y
    is_only y y_named is = listed_once g o y named y_named ((only y.start).0 is)

    met_by : (x y : ListedStart) (meet : Meet g (HasStart sets.starts set) Other x y) → MeetsIn sets.starts set o.start (in_set set x meet.one_listed meet.one).number
    met_by x y meet = record {
      x = x;
      is = (in_set set x meet.one_listed meet.one).is;
      together = λ apart.
          meet.together (subst (λ (z : ListedStart). Apart x.start z.start) (is_only y meet.other_listed meet.other) (Apart-swap o.start x.start apart));
    }

    pub first_one : (k : ℕ) → IsFirstMet sets.starts set o.start k → SomeMeet g (HasStart sets.starts set) Other
    first_one k first =
        let met = first.meets in (
          met.x,
          o,
          record {
            meet = record {
              one_listed = formed.listed k met.x met.is.there;
              other_listed = named;
              one = has_start set k met.x met.is;
              other = (only o.start).1 refl;
              together = λ apart. met.together (Apart-swap met.x.start o.start apart);
            };
            first_one = λ x y meet less.
                let at = in_set set x meet.one_listed meet.one in
                first.before at.number (below at.number k x met.x at.is.there met.is.there less) (met_by x y meet);
            first_other = λ y meet less.
                let self : start_order o o ≡ Less = subst (λ (z : ListedStart). start_order z o ≡ Less) (sym (is_only y meet.other_listed meet.other)) less in
                never_both o o self self;
          },
        )

    pub none_met : MeetsNone sets.starts set o.start → NoneMeet g (HasStart sets.starts set) Other
    none_met none x y meet = none (in_set set x meet.one_listed meet.one).number (met_by x y meet)

-- ---- the answers of tests

pub pair_told : (b : Bool) (g : Grammar) (sets : Sets) (one other : List Bool) → (b ≡ true → HasFirstPair sets.starts one other) → (b ≡ false → HasNoPair sets.starts one other) → AreWellFormed g sets
    → IsTrue b ↔ SomeMeet g (HasStart sets.starts one) (HasStart sets.starts other)
pair_told b g sets one other has none formed = (
  λ is. first_pair g sets formed one other (has is),
  λ some. elim (cases_Bool b) [ inl e ↦ e | inr e ↦ absurd (no_pair g sets formed one other (none e) some.0 some.1 some.2.meet) ],
)

-- a gap start is listed under the number 0
pub gap_named : (g : Grammar) (start : StartKind) → IsGapStart g start → IsListed g (record { start = start; word = 0 })
gap_named g (Class class) is = refl
gap_named g (Key text excluded) is = elim is [ ]
gap_named g (Word heads rest reserved) is = elim is [ ]
gap_named g End is = elim is [ ]
