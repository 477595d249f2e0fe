-- First pairs of numbers in a relation.
use Rattle.std.proofs.Common.{◌≡◌, ℕ, ◌<◌, ◌≤◌, Bool, true, false, List, Option, Some, None, refl, sym, ap, subst, ◌∙◌, ◌⊎◌, inl, inr, arith}
use Rattle.std.proofs.lemmas.Bool.{leb-false}
use Rattle.std.specs.Prelude.{nat_le, if◌then◌else◌}
use Rattle.std.proofs.lemmas.Bool.{cases_eq, cases_lt, true≢false}
use Rattle.pg_predict_conditions.specs.Meetings.{first_meeting, earlier}
use Rattle.pg_predict_conditions.specs.declared.meetings.Meeting.{Meeting}
use Rattle.pg_predict_conditions.proofs.FirstMeetings.{Met, MeetingFound, meeting_found}
use Rattle.pg_predict_conditions.proofs.FirstMeetings as of_sets

-- the two are in the relation, and are the first: by the one number, and then by the other
pub record IsFirstPair (R : ℕ → ℕ → Type 0) (m : Meeting) : Type 0 where
  pub met : R m.one m.other
  pub first_one : (s t : ℕ) → s < m.one → R s t → ⊥
  pub first_other : (t : ℕ) → t < m.other → R m.one t → ⊥

-- there are first two, or none are in the relation
pub data PairFound (R : ℕ → ℕ → Type 0) : Option Meeting → Type 0 where
  some : {m : Meeting} → IsFirstPair R m → PairFound R (Some m)
  none : ((s t : ℕ) → R s t → ⊥) → PairFound R None

-- of a relation with the same pairs
pub pair_same : (R S : ℕ → ℕ → Type 0) (o : Option Meeting) → ((s t : ℕ) → R s t → S s t) → ((s t : ℕ) → S s t → R s t) → PairFound R o → PairFound S o
pair_same R S (Some m) to from (some is) =
    some (record { met = to m.one m.other is.met; first_one = λ s t below r. is.first_one s t below (from s t r); first_other = λ t below r. is.first_other t below (from m.one t r) })
pair_same R S None to from (none out) = none (λ s t r. out s t (from s t r))

-- of sets
pub pair_of_sets : (meetings : List (List Bool)) (one other : List Bool) → PairFound (Met meetings one other) (first_meeting meetings one other)
pair_of_sets meetings one other = go (first_meeting meetings one other) (meeting_found meetings one other)
  where
    go : (o : Option Meeting) → MeetingFound meetings one other o → PairFound (Met meetings one other) o
    go (Some m) (of_sets.some is) =
        some (record { met = is.met; first_one = is.first_one; first_other = λ t below met. true≢false (sym met.both ∙ is.first_other t below) })
    go None (of_sets.none out) = none out

not_after : (a b : ℕ) → nat_le a b ≡ true → a ≤ b
not_after a b e = grind (arith, e)

-- of one relation or another, where a number of both is paired alike
pub pair_either : (R S : ℕ → ℕ → Type 0) (a b : Option Meeting) → ((s t u : ℕ) → R s u → S s t → R s t) → PairFound R a → PairFound S b
    → PairFound (λ s t. R s t ⊎ S s t) (earlier a b)
pair_either R S None None alike (none no_r) (none no_s) = none (λ s t either. elim either [ inl r ↦ no_r s t r | inr q ↦ no_s s t q ])
pair_either R S None (Some k) alike (none no_r) (some is) =
    some (record {
      met = inr is.met;
      first_one = λ s t below either. elim either [ inl r ↦ no_r s t r | inr q ↦ is.first_one s t below q ];
      first_other = λ t below either. elim either [ inl r ↦ no_r k.one t r | inr q ↦ is.first_other t below q ];
    })
pair_either R S (Some m) None alike (some is) (none no_s) =
    some (record {
      met = inl is.met;
      first_one = λ s t below either. elim either [ inl r ↦ is.first_one s t below r | inr q ↦ no_s s t q ];
      first_other = λ t below either. elim either [ inl r ↦ is.first_other t below r | inr q ↦ no_s m.one t q ];
    })
pair_either R S (Some m) (Some k) alike (some is) (some other) = go (nat_le m.one k.one) refl
  where
    go : (b : Bool) → nat_le m.one k.one ≡ b → PairFound (λ s t. R s t ⊎ S s t) (if b then Some m else Some k)
    go true e =
        let before = not_after m.one k.one e in
        some (record {
          met = inl is.met;
          first_one = λ s t below either. elim either [ inl r ↦ is.first_one s t below r | inr q ↦ other.first_one s t (omega arith) q ];
          first_other = λ t below either. elim either [ inl r ↦ is.first_other t below r | inr q ↦ is.first_other t below (alike m.one t m.other is.met q) ];
        })
    go false e =
        let following = leb-false m.one k.one e in
        some (record {
          met = inr other.met;
          first_one = λ s t below either. elim either [ inl r ↦ is.first_one s t (omega arith) r | inr q ↦ other.first_one s t below q ];
          first_other = λ t below either. elim either [ inl r ↦ is.first_one k.one t following r | inr q ↦ other.first_other t below q ];
        })

-- the first two are the ones that are found
pub pair_from : (R : ℕ → ℕ → Type 0) (o : Option Meeting) (m : Meeting) → PairFound R o → IsFirstPair R m → o ≡ Some m
pair_from R None m (none out) is = absurd (out m.one m.other is.met)
pair_from R (Some k) m (some there) is =
    let same : k.one ≡ m.one = elim (cases_lt k.one m.one) [
      | inl less ↦ absurd (is.first_one k.one k.other less there.met)
      | inr more ↦ elim (cases_eq k.one m.one) [ inl e ↦ e | inr ne ↦ absurd (there.first_one m.one m.other (omega arith) is.met) ]
    ] in
    let met = subst (λ (s : ℕ). R s k.other) same there.met in
    let first = subst (λ (s : ℕ). (t : ℕ) → t < k.other → R s t → ⊥) same there.first_other in
    let others : k.other ≡ m.other = elim (cases_lt k.other m.other) [
      | inl less ↦ absurd (is.first_other k.other less met)
      | inr more ↦ elim (cases_eq k.other m.other) [ inl e ↦ e | inr ne ↦ absurd (first m.other (omega arith) is.met) ]
    ] in
    ap Some (ap (λ (s : ℕ). record k { one = s }) same ∙ ap (λ (t : ℕ). record m { other = t }) others)

pub pair_is : (R : ℕ → ℕ → Type 0) (o : Option Meeting) (m : Meeting) → PairFound R o → o ≡ Some m → IsFirstPair R m
pair_is R None m (none out) e = absurd cc
pair_is R (Some k) m (some is) e = let same : k ≡ m = cc in subst (IsFirstPair R) same is
