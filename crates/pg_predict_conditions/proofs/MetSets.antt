-- The set of what a start meets, as it is gathered.
use Rattle.std.proofs.Common.{◌≡◌, ℕ, zero, suc, ◌+◌, ◌<◌, ◌≤◌, Bool, true, false, List, [], ◌∷◌, ◌++◌, length-append, Some, slice_get, slice_set, length, length-set, refl, sym, ap, subst, ◌∙◌, inl, inr, arith}
use Rattle.std.specs.Prelude.{◌↔◌}
use Rattle.std.proofs.lemmas.Bool.{cases_eq, true≢false}
use Rattle.std.proofs.lemmas.Option.{same_Some, slice_get_within}
use Rattle.pg_graph_bits.specs.Numbers.{contains, set_at}
use Rattle.pg_start.specs.Apart.{Apart}
use Rattle.pg_start.specs.declared.kind.StartKind.{StartKind}
use Rattle.pg_sets_own.specs.declared.listed.ListedStart.{ListedStart}
use Rattle.pg_graph.proofs.Marking.{marked_same, marked_others}
use Rattle.pg_predict_conditions.specs.Shown.{IsMetSet, AreMeetings}

-- the first `count` starts were compared
pub record MetSoFar (starts : List ListedStart) (start : StartKind) (count : ℕ) (met : List Bool) : Type 0 where
  pub long : length met ≡ length starts
  pub told : (t : ℕ) (other : ListedStart) → t < count → slice_get starts t ≡ Some other → (contains met t ≡ true) ↔ (Apart start other.start → ⊥)
  pub rest : (t : ℕ) → count ≤ t → contains met t ≡ false

pub met_in : (starts : List ListedStart) (start : StartKind) (k : ℕ) (one : ListedStart) (met : List Bool) → MetSoFar starts start k met → slice_get starts k ≡ Some one
    → (Apart start one.start → ⊥) → MetSoFar starts start (k + 1) (slice_set met k true)
met_in starts start k one met before there meets =
    let inside = slice_get_within starts k one there in
    let long = before.long in
    let within : k < length met = omega arith in
    record {
      long = length-set met k true ∙ long;
      told = λ t other below at.
          elim (cases_eq t k) [
            | inl same ↦
                let as_one : one ≡ other = same_Some one other (sym there ∙ (sym (ap (slice_get starts) same) ∙ at)) in
                let together = subst (λ (x : ListedStart). Apart start x.start → ⊥) as_one meets in
                (λ h. together, λ h. ap (contains (slice_set met k true)) same ∙ marked_same met k within)
            | inr ne ↦
                let kept = marked_others met k t ne in
                let told = before.told t other (omega arith) at in
                (λ h. told.0 (sym kept ∙ h), λ h. kept ∙ told.1 h)
          ];
      rest = λ t more. marked_others met k t (λ e. absurd (omega arith)) ∙ before.rest t (omega arith);
    }

pub met_out : (starts : List ListedStart) (start : StartKind) (k : ℕ) (one : ListedStart) (met : List Bool) → MetSoFar starts start k met → slice_get starts k ≡ Some one
    → ((Apart start one.start → ⊥) → ⊥) → MetSoFar starts start (k + 1) met
met_out starts start k one met before there told =
    record {
      long = before.long;
      told = λ t other below at.
          elim (cases_eq t k) [
            | inl same ↦
                let as_one : one ≡ other = same_Some one other (sym there ∙ (sym (ap (slice_get starts) same) ∙ at)) in
                let is = subst (λ (x : ListedStart). (Apart start x.start → ⊥) → ⊥) as_one told in
                let least : k ≤ t = omega arith in
                (λ h. absurd (true≢false (sym h ∙ before.rest t least)), λ h. absurd (is h))
            | inr ne ↦ before.told t other (omega arith) at
          ];
      rest = λ t more. before.rest t (omega arith);
    }

pub met_all : (starts : List ListedStart) (start : StartKind) (count : ℕ) (met : List Bool) → MetSoFar starts start count met → length starts ≤ count → IsMetSet starts start met
met_all starts start count met are all t other at = let inside = slice_get_within starts t other at in are.told t other (omega arith) at

-- ---- the sets of several starts

-- the meetings of the first `count` starts
pub record MeetingsSoFar (starts : List ListedStart) (count : ℕ) (meetings : List (List Bool)) : Type 0 where
  pub long : length meetings ≡ count
  pub met : (s : ℕ) (listed : ListedStart) → s < count → slice_get starts s ≡ Some listed → IsMetSet starts listed.start (set_at meetings s)

set_before : (sets : List (List Bool)) (set : List Bool) (k : ℕ) → k < length sets → set_at (sets ++ set ∷ []) k ≡ set_at sets k
set_before [] set k below = absurd (omega arith)
set_before (x ∷ xs) set zero below = refl
set_before (x ∷ xs) set (suc k) below = set_before xs set k (omega arith)

set_last : (sets : List (List Bool)) (set : List Bool) → set_at (sets ++ set ∷ []) (length sets) ≡ set
set_last [] set = refl
set_last (x ∷ xs) set = set_last xs set

pub meetings_more : (starts : List ListedStart) (k : ℕ) (one : ListedStart) (set : List Bool) (meetings : List (List Bool)) → MeetingsSoFar starts k meetings
    → slice_get starts k ≡ Some one → IsMetSet starts one.start set → MeetingsSoFar starts (k + 1) (meetings ++ set ∷ [])
meetings_more starts k one set meetings before there is =
    let long = before.long in
    let longer : length (meetings ++ set ∷ []) ≡ length meetings + 1 = length-append meetings (set ∷ []) in
    record {
      long = omega arith;
      met = λ s listed below at.
          elim (cases_eq s k) [
            | inl same ↦
                let as_one : one ≡ listed = same_Some one listed (sym there ∙ (sym (ap (slice_get starts) same) ∙ at)) in
                let last : set_at (meetings ++ set ∷ []) s ≡ set = ap (set_at (meetings ++ set ∷ [])) (same ∙ sym long) ∙ set_last meetings set in
                subst (λ (x : List Bool). IsMetSet starts listed.start x) (sym last) (subst (λ (x : ListedStart). IsMetSet starts x.start set) as_one is)
            | inr ne ↦
                let inside : s < length meetings = omega arith in
                subst (λ (x : List Bool). IsMetSet starts listed.start x) (sym (set_before meetings set s inside)) (before.met s listed (omega arith) at)
          ];
    }

pub meetings_all : (starts : List ListedStart) (count : ℕ) (meetings : List (List Bool)) → MeetingsSoFar starts count meetings → count ≡ length starts → AreMeetings starts meetings
meetings_all starts count meetings are all = record {
  long = are.long ∙ all;
  met = λ s listed at. let inside = slice_get_within starts s listed at in are.met s listed (omega arith) at;
}
