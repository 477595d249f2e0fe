-- What gaps meet, by the numbers of starts.
use Rattle.std.proofs.Common.{◌≡◌, ℕ, ◌<◌, Bool, true, false, List, Option, Some, None, slice_get, length, refl, sym, ap, subst, ◌∙◌, inl, inr, Less, arith}
use Rattle.std.specs.Prelude.{◌↔◌, not, if◌then◌else◌}
use Rattle.std.specs.Option.{option_and_then, option_map_or, option_or}
use Rattle.std.proofs.lemmas.Bool.{true≢false, cases_Bool, and_parts, and_from}
use Rattle.std.proofs.lemmas.List.{get_or_past}
use Rattle.std.proofs.lemmas.Option.{none-some, same_Some}
use Rattle.pg_grammar_value.specs.Grammar.{Grammar}
use Rattle.pg_graph_bits.specs.Numbers.{contains, in_both, set_at}
use Rattle.pg_start.specs.Apart.{Apart}
use Rattle.pg_start.specs.declared.kind.StartKind.{StartKind}
use Rattle.pg_start.specs.declared.kind.StartKind.TheVariants.{End}
use Rattle.pg_start.proofs.Meeting.{Apart-swap}
use Rattle.pg_sets_own.specs.Listed.{IsListed, IsNumbered, start_order}
use Rattle.pg_sets_own.specs.OperatorStarts.{IsGapStart, AreBothStarts}
use Rattle.pg_sets_own.specs.OperatorStarts as starts_of
use Rattle.pg_sets_own.specs.OwnStarts.{IsOperatorStart}
use Rattle.pg_sets_own.specs.OwnStarts as own
use Rattle.pg_sets_own.specs.declared.listed.ListedStart.{ListedStart}
use Rattle.pg_sets_own.specs.declared.operators.OperatorStarts.{OperatorStarts}
use Rattle.pg_predict_conditions.specs.Conditions.{NodeFacts, AreFirstToMeet, NoneMeet, IsFirstToMeetGap, BeginsNothing}
use Rattle.pg_predict_conditions.specs.Conditions as met
use Rattle.pg_predict_conditions.specs.Judged.{Facts, all_starts, operators_meet, gaps_meet, gap_met, gap_met_by}
use Rattle.pg_predict_conditions.specs.Meetings.{first_met}
use Rattle.pg_predict_conditions.specs.WithStarts.{start_at}
use Rattle.pg_predict_conditions.specs.Shown.{IsMetSet, AreFacts, AreOfOperators, AreOperatorFacts}
use Rattle.pg_predict_conditions.specs.declared.operator_facts.OperatorFacts.{OperatorFacts}
use Rattle.pg_predict_conditions.proofs.FirstMeetings.{both_below}
use Rattle.pg_predict_conditions.proofs.Least.{least_from, least_is, least_none}
use Rattle.pg_predict_conditions.proofs.Meanings.{ShowsKind, shows_follow, placed, member, kind_of, start_in}
use Rattle.pg_predict_conditions.proofs.Numbered.{never_both, numbers_order, order_numbers, listed_once, start_is}

-- ---- the facts

decided : {P : Type 0} (b : Bool) → (b ≡ true) ↔ P → (not b ≡ true) ↔ (P → ⊥)
decided true told = (λ e. absurd (true≢false (sym e)), λ none. absurd (none (told.0 refl)))
decided false told = (λ e p. true≢false (sym (told.1 p)), λ none. refl)

-- of the two starts
pub are_of_operators : (g : Grammar) (starts : List ListedStart) (both : OperatorStarts) (met met_by_gap : List Bool) (apart : Bool) → AreBothStarts g both
    → IsMetSet starts both.operator.start met → IsMetSet starts both.gap met_by_gap → (apart ≡ true) ↔ Apart both.gap both.operator.start
    → AreOfOperators g starts (record { operator = both.operator; met = met; met_by_gap = met_by_gap; in_gap = not apart })
are_of_operators g starts both met met_by_gap apart are is is_met told = record {
  named = are.named;
  operator = are.operator;
  met = is;
  gap_start = both.gap;
  gap = are.gap;
  met_by_gap = is_met;
  in_gap = decided apart told;
}

-- ---- one start of a kind

-- this start, under its name, is the one of a kind
record IsOnly (g : Grammar) (Other : StartKind → Type 0) (o : ListedStart) : Type 0 where
  pub named : IsListed g o
  pub kind : (start : StartKind) → Other start ↔ (o.start ≡ start)

only_one : (g : Grammar) (Other : StartKind → Type 0) (o t : ListedStart) → IsOnly g Other o → IsListed g t → Other t.start → o ≡ t
only_one g Other o t only listed other = listed_once g o t only.named listed ((only.kind t.start).0 other)

module _ (g : Grammar) (asked : NodeFacts) (facts : Facts) (are : AreFacts g asked facts) where
  met_start : (set met : List Bool) (One : StartKind → Type 0) (o : ListedStart) → ShowsKind facts.sets.starts set One → IsMetSet facts.sets.starts o.start met → (s : ℕ)
      → in_both met set s ≡ true → (x : ListedStart) × (slice_get facts.sets.starts s ≡ Some x) × One x.start × (Apart x.start o.start → ⊥)
  met_start set met One o shows is s h =
      let both = and_parts (contains met s) (contains set s) h in
      let x = start_in g asked facts are set One s shows both.1 in
      (x.0, x.1, kind_of g asked facts are set One s x.0 shows x.1 both.1, λ apart. (is s x.0 x.1).0 both.0 (Apart-swap x.0.start o.start apart))

  start_met : (set met : List Bool) (One : StartKind → Type 0) (o : ListedStart) → ShowsKind facts.sets.starts set One → IsMetSet facts.sets.starts o.start met → (s : ℕ) (x : ListedStart)
      → slice_get facts.sets.starts s ≡ Some x → One x.start → (Apart x.start o.start → ⊥) → in_both met set s ≡ true
  start_met set met One o shows is s x at one together =
      and_from (contains met s) (contains set s) ((is s x at).1 (λ apart. together (Apart-swap o.start x.start apart))) (member g asked facts are set One s x shows at one)

  -- ---- the first start of a set that meets the one of a kind

  module _ (set met : List Bool) (One Other : StartKind → Type 0) (o : ListedStart) (shows : ShowsKind facts.sets.starts set One) (is : IsMetSet facts.sets.starts o.start met)
      (only : IsOnly g Other o) where
    -- a meeting of starts shows in the sets
    shown : (x t : ListedStart) (s : ℕ) → slice_get facts.sets.starts s ≡ Some x → One x.start → IsListed g t → Other t.start → (Apart x.start t.start → ⊥) → in_both met set s ≡ true
    shown x t s at one listed other together =
        start_met set met One o shows is s x at one (subst (λ (w : ListedStart). Apart x.start w.start → ⊥) (sym (only_one g Other o t only listed other)) together)

    first_some : (s : ℕ) → first_met met set ≡ Some s → (x : ListedStart) × (slice_get facts.sets.starts s ≡ Some x) × AreFirstToMeet g One Other x o
    first_some s e =
        let starts = facts.sets.starts in
        let sorted = are.sets.formed.ordered in
        let least = least_is (in_both met set) (length set) s e in
        let at = met_start set met One o shows is s least.passes in
        let x = at.0 in
        let first : AreFirstToMeet g One Other x o = record {
          meet = record { one_listed = are.sets.formed.listed s x at.1; other_listed = only.named; one = at.2; other = (only.kind o.start).1 refl; together = at.3 };
          first_one = λ u v meet less.
              let there = placed g asked facts are set One u shows meet.one_listed meet.one in
              let below = order_numbers starts there.number s u x sorted there.there at.1 less in
              let passes = shown u v there.number there.there meet.one meet.other_listed meet.other meet.together in
              true≢false (sym passes ∙ least.before there.number below);
          first_other = λ v meet less.
              let same = only_one g Other o v only meet.other_listed meet.other in
              let self : start_order o o ≡ Less = subst (λ (w : ListedStart). start_order w o ≡ Less) (sym same) less in
              never_both o o self self;
        } in
        (x, at.1, first)

    first_from : (x t : ListedStart) → AreFirstToMeet g One Other x t → (s : ℕ) × (first_met met set ≡ Some s) × (slice_get facts.sets.starts s ≡ Some x)
    first_from x t first =
        let starts = facts.sets.starts in
        let there = placed g asked facts are set One x shows first.meet.one_listed first.meet.one in
        let passes = shown x t there.number there.there first.meet.one first.meet.other_listed first.meet.other first.meet.together in (
          there.number,
          least_from (in_both met set) (length set) there.number (record {
            below = both_below met set there.number passes;
            passes = passes;
            before = λ j below.
                elim (cases_Bool (in_both met set j)) [
                  | inr out ↦ out
                  | inl meets ↦
                      let at = met_start set met One o shows is j meets in
                      let same = only_one g Other o t only first.meet.other_listed first.meet.other in
                      let together = subst (λ (w : ListedStart). Apart at.0.start w.start → ⊥) same at.3 in
                      let less = numbers_order starts j there.number at.0 x are.sets.formed.ordered at.1 there.there below in
                      absurd (first.first_one at.0 t
                      (record { one_listed = are.sets.formed.listed j at.0 at.1; other_listed = first.meet.other_listed; one = at.2; other = first.meet.other; together = together })
                      less)
                ];
          }),
          there.there,
        )

    -- where none is found, none meets, and the other way round
    none_found : first_met met set ≡ None → NoneMeet g One Other
    none_found e x t meet =
        let there = placed g asked facts are set One x shows meet.one_listed meet.one in
        let passes = shown x t there.number there.there meet.one meet.other_listed meet.other meet.together in
        true≢false (sym passes ∙ least_none (in_both met set) (length set) there.number e (both_below met set there.number passes))

    not_found : NoneMeet g One Other → first_met met set ≡ None
    not_found free = go (first_met met set) refl
      where
        go : (found : Option ℕ) → first_met met set ≡ found → first_met met set ≡ None
        go None e = e
        go (Some s) e = let first = first_some s e in absurd (free first.0 o first.2.meet)

  -- the number of the first start of a kind that meets one of another, if there is any
  pub record IsFirstMet (One Other : StartKind → Type 0) (found : Option ℕ) : Type 0 where
    pub some : (s : ℕ) → found ≡ Some s → (x : ListedStart) × (t : ListedStart) × (slice_get facts.sets.starts s ≡ Some x) × AreFirstToMeet g One Other x t
    pub none : found ≡ None → NoneMeet g One Other
    pub from : (x t : ListedStart) → AreFirstToMeet g One Other x t → (s : ℕ) × (found ≡ Some s) × (slice_get facts.sets.starts s ≡ Some x)
    pub absent : NoneMeet g One Other → found ≡ None

  by_set : (set met : List Bool) (One Other : StartKind → Type 0) (o : ListedStart) → ShowsKind facts.sets.starts set One → IsMetSet facts.sets.starts o.start met → IsOnly g Other o
      → IsFirstMet One Other (first_met met set)
  by_set set met One Other o shows is only = record {
    some = λ s e. (let first = first_some set met One Other o shows is only s e in (first.0, o, first.1, first.2));
    none = λ e. none_found set met One Other o shows is only e;
    from = λ x t first. first_from set met One Other o shows is only x t first;
    absent = λ free. not_found set met One Other o shows is only free;
  }

  -- where there are none of the one kind, or of the other, none meet
  of_none : (One Other : StartKind → Type 0) → NoneMeet g One Other → IsFirstMet One Other None
  of_none One Other free = record { some = λ s e. absurd (none-some s e); none = λ e. free; from = λ x t first. absurd (free x t first.meet); absent = λ h. refl }

  -- ---- operators and gaps

  no_operator : (start : StartKind) → g.operators ≡ None → IsOperatorStart g start → ⊥
  no_operator start none (own.operator {item = item} there class reserves) = none-some item (sym none ∙ there)

  no_gap : (start : StartKind) → g.operators ≡ None → IsGapStart g start → ⊥
  no_gap start none (starts_of.gap {item = item} there class) = none-some item (sym none ∙ there)

  gap_numbered : (start : StartKind) → IsGapStart g start → IsNumbered g start 0
  gap_numbered start (starts_of.gap there class) = refl

  module _ (operators : OperatorFacts) (is : AreOfOperators g facts.sets.starts operators) where
    -- the one operator start, and the one gap start
    gap : ListedStart
    gap = record { start = is.gap_start; word = 0 }

    only_operator : IsOnly g (IsOperatorStart g) operators.operator
    only_operator = record { named = is.named; kind = is.operator }

    only_gap : IsOnly g (IsGapStart g) gap
    unfolding gap
    only_gap = record { named = gap_numbered is.gap_start ((is.gap is.gap_start).1 refl); kind = is.gap }

    same_operator : (x : ListedStart) → IsListed g x → IsOperatorStart g x.start → operators.operator ≡ x
    same_operator x = only_one g (IsOperatorStart g) operators.operator x only_operator

    same_gap : (t : ListedStart) → IsListed g t → IsGapStart g t.start → gap ≡ t
    same_gap t = only_one g (IsGapStart g) gap t only_gap

    -- where gaps meet operators, both do
    both_meet : operators.in_gap ≡ true → AreFirstToMeet g (IsOperatorStart g) (IsGapStart g) operators.operator gap
    unfolding gap
    both_meet e = record {
      meet = record {
        one_listed = only_operator.named;
        other_listed = only_gap.named;
        one = (is.operator operators.operator.start).1 refl;
        other = (is.gap is.gap_start).1 refl;
        together = λ apart. is.in_gap.0 e (Apart-swap operators.operator.start is.gap_start apart);
      };
      first_one = λ u v meet less.
          let self : start_order operators.operator operators.operator ≡ Less =
          subst (λ (w : ListedStart). start_order w operators.operator ≡ Less) (sym (same_operator u meet.one_listed meet.one)) less in
          never_both operators.operator operators.operator self self;
      first_other = λ v meet less.
          let self : start_order gap gap ≡ Less = subst (λ (w : ListedStart). start_order w gap ≡ Less) (sym (same_gap v meet.other_listed meet.other)) less in
          never_both gap gap self self;
    }

    -- and gaps meet operators where any do
    any_meet : (x t : ListedStart) → IsListed g x → IsOperatorStart g x.start → IsListed g t → IsGapStart g t.start → (Apart x.start t.start → ⊥) → operators.in_gap ≡ true
    unfolding gap
    any_meet x t x_listed is_x t_listed is_t together =
        is.in_gap.1 (λ apart.
        together (subst (λ (w : ListedStart). Apart w.start t.start) (same_operator x x_listed is_x)
        (subst (λ (w : ListedStart). Apart operators.operator.start w.start) (same_gap t t_listed is_t) (Apart-swap is.gap_start operators.operator.start apart))))

    none_meet : operators.in_gap ≡ false → NoneMeet g (IsOperatorStart g) (IsGapStart g)
    none_meet e x t meet = true≢false (sym (any_meet x t meet.one_listed meet.one meet.other_listed meet.other meet.together) ∙ e)

    not_in_gap : NoneMeet g (IsOperatorStart g) (IsGapStart g) → operators.in_gap ≡ false
    not_in_gap free = go operators.in_gap refl
      where
        go : (b : Bool) → operators.in_gap ≡ b → b ≡ false
        go true e = absurd (free operators.operator gap (both_meet e).meet)
        go false e = refl

  -- ---- operators and gaps, and starts of a set

  pub operators_first : (set : List Bool) (One : StartKind → Type 0) → ShowsKind facts.sets.starts set One → IsFirstMet One (IsOperatorStart g) (operators_meet facts set)
  operators_first set One shows = go facts.operators are.worked_out.operators
    where
      go : (o : Option OperatorFacts) → AreOperatorFacts g facts.sets.starts o → IsFirstMet One (IsOperatorStart g) (option_and_then (λ (operators : OperatorFacts). first_met operators.met set) o)
      go None none = of_none One (IsOperatorStart g) (λ x t meet. no_operator t.start none meet.other)
      go (Some operators) is = by_set set operators.met One (IsOperatorStart g) operators.operator shows is.met (only_operator operators is)

  pub gaps_first : (set : List Bool) (One : StartKind → Type 0) → ShowsKind facts.sets.starts set One → IsFirstMet One (IsGapStart g) (gaps_meet facts set)
  unfolding gap
  gaps_first set One shows = go facts.operators are.worked_out.operators
    where
      go : (o : Option OperatorFacts) → AreOperatorFacts g facts.sets.starts o → IsFirstMet One (IsGapStart g) (option_and_then (λ (operators : OperatorFacts). first_met operators.met_by_gap set) o)
      go None none = of_none One (IsGapStart g) (λ x t meet. no_gap t.start none meet.other)
      go (Some operators) is = by_set set operators.met_by_gap One (IsGapStart g) (gap operators is) shows is.met_by_gap (only_gap operators is)

  -- a declaration has no term
  pub no_term : IsFirstMet BeginsNothing (IsGapStart g) None
  no_term = of_none BeginsNothing (IsGapStart g) (λ x t meet. meet.one)

  -- ---- at a node

  module _ (p : ℕ) (below : p < length g.nodes) (term : Option ℕ) (Term : StartKind → Type 0) (begins : IsFirstMet Term (IsGapStart g) term) where
    follows_first : (operators : OperatorFacts) → AreOfOperators g facts.sets.starts operators → IsFirstMet (asked.follow p) (IsGapStart g) (first_met operators.met_by_gap (set_at facts.sets.follows p))
    unfolding gap
    follows_first operators is =
        by_set (set_at facts.sets.follows p) operators.met_by_gap (asked.follow p) (IsGapStart g) (gap operators is) (shows_follow g asked facts are p below) is.met_by_gap (only_gap operators is)

    abbrev rest : OperatorFacts → Option ℕ
    rest operators = option_or term (first_met operators.met_by_gap (set_at facts.sets.follows p))

    -- the start of operators has the number after those of the sets
    own_start : (operators : OperatorFacts) → facts.operators ≡ Some operators → start_at (all_starts facts) (length facts.sets.starts) ≡ operators.operator
    own_start operators e =
        get_or_past facts.sets.starts (length facts.sets.starts) (all_starts facts).own (omega arith)
        ∙ ap (λ (o : Option OperatorFacts). option_map_or (λ (operators : OperatorFacts). operators.operator) o (record { start = End; word = 0 })) e

    by_gap : (operators : OperatorFacts) → facts.operators ≡ Some operators → AreOfOperators g facts.sets.starts operators → (n : ℕ) → gap_met_by facts term p operators ≡ Some n
        → IsFirstToMeetGap g Term (asked.follow p) (start_at (all_starts facts) n)
    by_gap operators there is n = go operators.in_gap refl
      where
        by_follow : operators.in_gap ≡ false → term ≡ None → first_met operators.met_by_gap (set_at facts.sets.follows p) ≡ Some n
            → IsFirstToMeetGap g Term (asked.follow p) (start_at (all_starts facts) n)
        by_follow free none e =
            let found = (follows_first operators is).some n e in
            let same : found.0 ≡ start_at (all_starts facts) n = sym (start_is (all_starts facts) n found.0 found.2) in
            met.after (none_meet operators is free) (begins.none none) (subst (λ (x : ListedStart). AreFirstToMeet g (asked.follow p) (IsGapStart g) x found.1) same found.3)

        by_term : operators.in_gap ≡ false → (o : Option ℕ) → term ≡ o → option_or o (first_met operators.met_by_gap (set_at facts.sets.follows p)) ≡ Some n
            → IsFirstToMeetGap g Term (asked.follow p) (start_at (all_starts facts) n)
        by_term free None e h = by_follow free e h
        by_term free (Some k) e h =
            let found = begins.some n (e ∙ h) in
            let same : found.0 ≡ start_at (all_starts facts) n = sym (start_is (all_starts facts) n found.0 found.2) in
            met.term (none_meet operators is free) (subst (λ (x : ListedStart). AreFirstToMeet g Term (IsGapStart g) x found.1) same found.3)

        go : (b : Bool) → operators.in_gap ≡ b → (if b then Some (length facts.sets.starts) else rest operators) ≡ Some n
            → IsFirstToMeetGap g Term (asked.follow p) (start_at (all_starts facts) n)
        go true e h =
            let number : length facts.sets.starts ≡ n = same_Some (length facts.sets.starts) n h in
            subst (IsFirstToMeetGap g Term (asked.follow p)) (sym (own_start operators there) ∙ ap (start_at (all_starts facts)) number) (met.operator (both_meet operators is e))
        go false e h = by_term e term refl h

    -- what gaps are found to meet is the first
    pub gap_some : (n : ℕ) → gap_met facts term p ≡ Some n → IsFirstToMeetGap g Term (asked.follow p) (start_at (all_starts facts) n)
    gap_some n = go facts.operators refl are.worked_out.operators
      where
        go : (o : Option OperatorFacts) → facts.operators ≡ o → AreOperatorFacts g facts.sets.starts o → option_and_then (gap_met_by facts term p) o ≡ Some n
            → IsFirstToMeetGap g Term (asked.follow p) (start_at (all_starts facts) n)
        go None there none e = absurd cc
        go (Some operators) there is e = by_gap operators there is n e

    -- and the first is found, by a number of its own
    pub gap_from : (s : ListedStart) → IsFirstToMeetGap g Term (asked.follow p) s → (n : ℕ) × (gap_met facts term p ≡ Some n) × (start_at (all_starts facts) n ≡ s)
    gap_from s first = go facts.operators refl are.worked_out.operators first
      where
        outside : (operators : OperatorFacts) (n : ℕ) → operators.in_gap ≡ false → rest operators ≡ Some n → gap_met_by facts term p operators ≡ Some n
        outside operators n free e = ap (λ (b : Bool). if b then Some (length facts.sets.starts) else rest operators) free ∙ e

        go : (o : Option OperatorFacts) → facts.operators ≡ o → AreOperatorFacts g facts.sets.starts o → IsFirstToMeetGap g Term (asked.follow p) s
            → (n : ℕ) × (option_and_then (gap_met_by facts term p) o ≡ Some n) × (start_at (all_starts facts) n ≡ s)
        go None there none (met.operator first) = absurd (no_operator s.start none first.meet.one)
        go None there none (met.term {t} free first) = absurd (no_gap t.start none first.meet.other)
        go None there none (met.after {t} free bare first) = absurd (no_gap t.start none first.meet.other)
        go (Some operators) there is (met.operator {t} first) =
            let inside = any_meet operators is s t first.meet.one_listed first.meet.one first.meet.other_listed first.meet.other first.meet.together in (
              length facts.sets.starts,
              ap (λ (b : Bool). if b then Some (length facts.sets.starts) else rest operators) inside,
              own_start operators there ∙ same_operator operators is s first.meet.one_listed first.meet.one,
            )
        go (Some operators) there is (met.term {t} free first) =
            let found = begins.from s t first in (
              found.0,
              outside operators found.0 (not_in_gap operators is free)
                  (ap (λ (o : Option ℕ). option_or o (first_met operators.met_by_gap (set_at facts.sets.follows p))) found.1),
              start_is (all_starts facts) found.0 s found.2,
            )
        go (Some operators) there is (met.after {t} free bare first) =
            let found = (follows_first operators is).from s t first in (
              found.0,
              outside operators found.0 (not_in_gap operators is free)
                  (ap (λ (o : Option ℕ). option_or o (first_met operators.met_by_gap (set_at facts.sets.follows p))) (begins.absent bare) ∙ found.1),
              start_is (all_starts facts) found.0 s found.2,
            )
