-- What is noted first is the first condition that is broken.
use Rattle.std.proofs.Common.{◌≡◌, ◌<◌, ◌⊎◌, ℕ, true, false, List, [], ◌∷◌, Option, Some, None, length, refl, sym, ap, subst, ◌∙◌, inl, inr, arith}
use Rattle.std.specs.Prelude.{is_some}
use Rattle.std.proofs.lemmas.Bool.{false≢true}
use Rattle.std.proofs.lemmas.Option.{same_Some}
use Rattle.std.specs.Cmp.{nat_cmp_total}
use Rattle.std.specs.Cmp.Lexicographic.{lists_total}
use Rattle.std.specs.Ordering.{ordering_reverse}
use Rattle.pg_grammar_value.specs.Grammar.{Grammar, IsGrammar}
use Rattle.pg_sets_own.specs.declared.listed.ListedStart.{ListedStart}
use Rattle.pg_predict.specs.Broken.{IsFirstBroken, IsFirstNoted, IsTheFirst, IsNotedFirst, first_number}
use Rattle.pg_predict_conditions.specs.Conditions.{NodeFacts, ViolatesBy}
use Rattle.pg_predict.specs.Findings.{condition_number, violation_key}
use Rattle.pg_predict_conditions.specs.Judged.{Facts, all_below, all_starts, noted_at, noted_grammar}
use Rattle.pg_predict_conditions.specs.Shown.{AreFacts}
use Rattle.pg_predict_conditions.specs.Violations.{Violation}
use Rattle.pg_predict_conditions.specs.WithStarts.{kind_with_starts}
use Rattle.pg_predict.specs.declared.violation.Broken.{Broken}
use Rattle.pg_predict_conditions.specs.declared.violation.ViolationKind.{ViolationKind}
use Rattle.pg_predict_conditions.proofs.Numbered.{less_greater}
use Rattle.pg_predict.proofs.Below.{first_below, some_numbered}
use Rattle.pg_predict.proofs.Complete.{violation_noted}
use Rattle.pg_predict.proofs.Lists.{In, Precedes, Ascends, Tagged, tags_precede, same_number, all_below_has}
use Rattle.pg_predict.proofs.Sound.{at_wrong}
use Rattle.pg_predict.proofs.Violations.{faultless, at_ascends}

-- no two stand each before the other
never_both : (b c : Violation ℕ) → Precedes b c → Precedes c b → ⊥
never_both b c e f = less_greater (sym e ∙ ((lists_total nat_cmp_total).antisymm (violation_key b) (violation_key c) ∙ ap ordering_reverse f))

-- the first of some, under its number
record IsFirstIn (bs : List (Violation ℕ)) (number : ℕ) : Type 0 where
  first : Violation ℕ
  there : In bs first
  numbered : condition_number first.kind ≡ number
  least : (b : Violation ℕ) → In bs b → (first ≡ b) ⊎ Precedes first b

first_in : (bs : List (Violation ℕ)) (number : ℕ) → Ascends bs → first_number bs ≡ Some number → IsFirstIn bs number
first_in [] number up e = absurd cc
first_in (x ∷ xs) number up e = record {
  first = x;
  there = inl refl;
  numbered = same_Some (condition_number x.kind) number e;
  least = λ b is. elim is [ inl same ↦ inl same | inr after ↦ inr (up.0 b after) ];
}

module _ (g : Grammar) (asked : NodeFacts) (facts : Facts) (are : AreFacts g asked facts) (grammar : IsGrammar g) where
  -- what is noted of a condition has its number
  number_kept : (kind : ViolationKind ℕ) (other : ViolationKind ListedStart) → kind_with_starts (all_starts facts) kind ≡ other → condition_number kind ≡ condition_number other
  number_kept kind other same = sym (same_number (all_starts facts) kind) ∙ ap (λ (k : ViolationKind ListedStart). condition_number k) same

  none_smaller : (p number : ℕ) → IsFirstIn (noted_at g facts p) number → (other : ViolationKind ListedStart) → condition_number other < number → ViolatesBy g asked p other → ⊥
  none_smaller p number first other smaller violates =
      let noted = violation_noted g asked facts are grammar p other violates in
      let b : Violation ℕ = record { node = p; kind = noted.kind } in
      let kept = number_kept noted.kind other noted.same in
      let numbered = first.numbered in
      let below : condition_number noted.kind < condition_number first.first.kind = omega arith in
      let tag : Tagged p (condition_number noted.kind) b = record { node = refl; number = refl } in
      let wrong = (at_wrong g asked facts are grammar p first.first first.there).1 in
      let tag_first : Tagged p (condition_number first.first.kind) first.first = record { node = wrong.tagged.node; number = refl } in
      elim (first.least b noted.noted_there) [
        | inl same ↦ let one = ap (λ (v : Violation ℕ). condition_number v.kind) same in absurd (omega (arith, one))
        | inr before ↦ never_both b first.first (tags_precede p (condition_number noted.kind) (condition_number first.first.kind) b first.first below tag tag_first) before
      ]

  none_before : (p : ℕ) → all_below (noted_at g facts) p ≡ [] → (q : ℕ) (other : ViolationKind ListedStart) → q < p → ViolatesBy g asked q other → ⊥
  none_before p none q other below violates =
      let noted = violation_noted g asked facts are grammar q other violates in
      let b : Violation ℕ = record { node = q; kind = noted.kind } in
      subst (λ (bs : List (Violation ℕ)). In bs b) none (all_below_has (noted_at g facts) p q b below noted.noted_there)

  the_first : (broken : Broken) → IsNotedFirst g facts broken → IsTheFirst g asked broken
  the_first broken is =
      let first = first_in (noted_at g facts broken.node) broken.condition (at_ascends g asked facts are grammar broken.node) is.number in
      let starts = all_starts facts in
      record {
        kind = kind_with_starts starts first.first.kind;
        violates = (at_wrong g asked facts are grammar broken.node first.first first.there).1.violates;
        number = sym first.numbered ∙ sym (same_number starts first.first.kind);
        node = is.node;
        none_before = none_before broken.node is.none_before;
        none_smaller = none_smaller broken.node broken.condition first;
      }

  pub first_is : (o : Option Broken) → IsFirstNoted g facts o → IsFirstBroken g asked o
  first_is None none = faultless g asked facts are grammar none
  first_is (Some broken) is = the_first broken is

-- ---- whether anything is noted

pub none_noted : (g : Grammar) (facts : Facts) (o : Option Broken) → IsFirstNoted g facts o → is_some o ≡ false → noted_grammar g facts ≡ []
none_noted g facts None none e = none
none_noted g facts (Some broken) is e = absurd (false≢true (sym e))

pub some_noted : (g : Grammar) (facts : Facts) (o : Option Broken) → IsFirstNoted g facts o → is_some o ≡ true → 0 < length (noted_grammar g facts)
some_noted g facts None none e = absurd (false≢true e)
some_noted g facts (Some broken) is e =
    some_numbered (noted_grammar g facts) broken.condition
    (first_below (noted_at g facts) broken.node (length g.nodes) broken.condition is.node is.none_before is.number)
