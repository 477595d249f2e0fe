-- Looking through sets of numbers for starts that meet, from the first on.
use Rattle.std.proofs.Common.{◌≡◌, ◌<◌, ◌≤◌, ◌+◌, ℕ, Bool, false, List, Some, slice_get, length, sym, ap, subst, ◌∙◌, inl, inr, arith}
use Rattle.std.proofs.lemmas.Bool.{cases_eq, cases_lt, true≢false}
use Rattle.std.proofs.lemmas.Option.{same_Some, slice_get_within}
use Rattle.pg_graph_bits.specs.Numbers.{contains, IsNext}
use Rattle.pg_start.specs.Apart.{Apart}
use Rattle.pg_start.specs.declared.kind.StartKind.{StartKind}
use Rattle.pg_sets_own.specs.declared.listed.ListedStart.{ListedStart}
use Rattle.pg_certificate_verify.specs.Pairs.{MeetsIn, IsFirstMet, MeetsNone, IsPair, HasFirstPair, HasNoPair}

-- ---- one start and a set

-- none below this number is met
abbrev pub NoneMetBelow : List ListedStart → List Bool → StartKind → ℕ → Type 0
NoneMetBelow starts set start from = (j : ℕ) → j < from → MeetsIn starts set start j → ⊥

module _ (starts : List ListedStart) (set : List Bool) (start : StartKind) (from : ℕ) (before : NoneMetBelow starts set start from) where
  pub met_next : (k : ℕ) (x : ListedStart) → IsNext (contains set) from k → slice_get starts k ≡ Some x → Apart start x.start → NoneMetBelow starts set start (k + 1)
  met_next k x next at apart j below meets =
      elim (cases_lt j from) [
        | inl less ↦ before j less meets
        | inr more ↦
            elim (cases_eq j k) [
              | inl same ↦
                  let one : x ≡ meets.x = same_Some x meets.x (sym at ∙ (ap (slice_get starts) (sym same) ∙ meets.is.there)) in
                  meets.together (subst (λ (y : ListedStart). Apart start y.start) one apart)
              | inr other ↦ absurd (true≢false (sym meets.is.member ∙ next.before j more (omega (arith, below, other))))
            ]
      ]

  pub met_here : (k : ℕ) (x : ListedStart) → IsNext (contains set) from k → slice_get starts k ≡ Some x → (Apart start x.start → ⊥) → IsFirstMet starts set start k
  met_here k x next at together = record {
    meets = record { x = x; is = record { there = at; member = next.passes }; together = together };
    before = λ j below meets.
        elim (cases_lt j from) [ inl less ↦ before j less meets | inr more ↦ absurd (true≢false (sym meets.is.member ∙ next.before j more below)) ];
  }

  pub met_none : ((j : ℕ) → from ≤ j → j < length starts → contains set j ≡ false) → MeetsNone starts set start
  met_none rest k meets =
      elim (cases_lt k from) [
        | inl less ↦ before k less meets
        | inr more ↦ absurd (true≢false (sym meets.is.member ∙ rest k more (slice_get_within starts k meets.x meets.is.there)))
      ]

-- ---- two sets

-- none below this number is in a pair
abbrev pub NoPairBelow : List ListedStart → List Bool → List Bool → ℕ → Type 0
NoPairBelow starts one other from = (s t : ℕ) → s < from → IsPair starts one other s t → ⊥

-- what a pair's first start meets
second_met : (starts : List ListedStart) (one other : List Bool) (s t : ℕ) (x : ListedStart) → slice_get starts s ≡ Some x → IsPair starts one other s t → MeetsIn starts other x.start t
second_met starts one other s t x at pair =
    let same : pair.x ≡ x = same_Some pair.x x (sym pair.in_one.there ∙ at) in
    record { x = pair.y; is = pair.in_other; together = subst (λ (z : ListedStart). Apart z.start pair.y.start → ⊥) same pair.together }

module _ (starts : List ListedStart) (one other : List Bool) (from : ℕ) (before : NoPairBelow starts one other from) where
  pub pair_next : (k : ℕ) (x : ListedStart) → IsNext (contains one) from k → slice_get starts k ≡ Some x → MeetsNone starts other x.start → NoPairBelow starts one other (k + 1)
  pair_next k x next at none s t below pair =
      elim (cases_lt s from) [
        | inl less ↦ before s t less pair
        | inr more ↦
            elim (cases_eq s k) [
              | inl same ↦ none t (second_met starts one other s t x (ap (slice_get starts) same ∙ at) pair)
              | inr differ ↦ absurd (true≢false (sym pair.in_one.member ∙ next.before s more (omega (arith, below, differ))))
            ]
      ]

  pub pair_here : (k t : ℕ) (x : ListedStart) → IsNext (contains one) from k → slice_get starts k ≡ Some x → IsFirstMet starts other x.start t → HasFirstPair starts one other
  pair_here k t x next at is = record {
    s = k;
    t = t;
    pair = record { x = x; y = is.meets.x; in_one = record { there = at; member = next.passes }; in_other = is.meets.is; together = is.meets.together };
    first_one = λ r u below pair.
        elim (cases_lt r from) [ inl less ↦ before r u less pair | inr more ↦ absurd (true≢false (sym pair.in_one.member ∙ next.before r more below)) ];
    first_other = λ u below pair. is.before u below (second_met starts one other k u x at pair);
  }

  pub pair_none : ((s : ℕ) → from ≤ s → s < length starts → contains one s ≡ false) → HasNoPair starts one other
  pair_none rest s t pair =
      elim (cases_lt s from) [
        | inl less ↦ before s t less pair
        | inr more ↦ absurd (true≢false (sym pair.in_one.member ∙ rest s more (slice_get_within starts s pair.x pair.in_one.there)))
      ]
