-- Where facts say the same of a grammar's nodes, the same is wrong at them.
use Rattle.std.proofs.Common.{◌≡◌, ◌<◌, inl, inr, ℕ, List, Some, slice_get, length}
use Rattle.std.specs.Prelude.{◌↔◌}
use Rattle.std.proofs.lemmas.Option.{slice_get_within}
use Rattle.pg_sets_own.specs.Listed.{IsListed}
use Rattle.pg_sets_own.specs.OwnStarts.{IsOperatorStart}
use Rattle.pg_sets_own.specs.OperatorStarts.{IsGapStart}
use Rattle.pg_sets_own.specs.declared.listed.ListedStart.{ListedStart}
use Rattle.pg_predict.specs.Conditions.{Meet, AreFirstToMeet, NoneMeet, IsFirstToMeetGap, BeginsNothing, BeginsLink, EndsNullable, NodeFacts, ViolatesBy, cost_limit}
use Rattle.pg_predict.specs.Conditions as wrong
use Rattle.pg_start.specs.declared.kind.StartKind.{StartKind}
use Rattle.pg_grammar_value.specs.Grammar.{Grammar}

-- the same listed starts are of both kinds
abbrev pub AreOne : Grammar → (StartKind → Type 0) → (StartKind → Type 0) → Type 0
AreOne g Kind Other = (listed : ListedStart) → IsListed g listed → Kind listed.start ↔ Other listed.start

-- one of the numbers that are above the limit
pub record HasAbove (Cost : ℕ → Type 0) : Type 0 where
  pub number : ℕ
  pub is : Cost number
  pub above : cost_limit < number

-- what the one say of nodes and of rules the others say, and of starts and of nullable nodes they say the same
pub record SayTheSame (g : Grammar) (facts others : NodeFacts) : Type 0 where
  pub nullable : (p : ℕ) → facts.nullable p ↔ others.nullable p
  pub first : (p : ℕ) → AreOne g (facts.first p) (others.first p)
  pub follow : (p : ℕ) → p < length g.nodes → AreOne g (facts.follow p) (others.follow p)
  pub heads_itself : (r : ℕ) → facts.heads_itself r → others.heads_itself r
  pub cost : (k : ℕ) → facts.cost k → cost_limit < k → HasAbove others.cost

module _ (g : Grammar) where
  itself : (Kind : StartKind → Type 0) → AreOne g Kind Kind
  itself Kind listed named = (λ h. h, λ h. h)

  module _ (One Other OneBy OtherBy : StartKind → Type 0) (ones : AreOne g One OneBy) (others : AreOne g Other OtherBy) where
    meet_there : (s t : ListedStart) → Meet g One Other s t → Meet g OneBy OtherBy s t
    meet_there s t meet = record {
      one_listed = meet.one_listed;
      other_listed = meet.other_listed;
      one = (ones s meet.one_listed).0 meet.one;
      other = (others t meet.other_listed).0 meet.other;
      together = meet.together;
    }

    meet_back : (s t : ListedStart) → Meet g OneBy OtherBy s t → Meet g One Other s t
    meet_back s t meet = record {
      one_listed = meet.one_listed;
      other_listed = meet.other_listed;
      one = (ones s meet.one_listed).1 meet.one;
      other = (others t meet.other_listed).1 meet.other;
      together = meet.together;
    }

    first_there : {s t : ListedStart} → AreFirstToMeet g One Other s t → AreFirstToMeet g OneBy OtherBy s t
    first_there {s} {t} first = record {
      meet = meet_there s t first.meet;
      first_one = λ x y meet less. first.first_one x y (meet_back x y meet) less;
      first_other = λ y meet less. first.first_other y (meet_back s y meet) less;
    }

    none_there : NoneMeet g One Other → NoneMeet g OneBy OtherBy
    none_there none s t meet = none s t (meet_back s t meet)

  gap_there : (Term After TermBy AfterBy : StartKind → Type 0) → AreOne g Term TermBy → AreOne g After AfterBy → {s : ListedStart} → IsFirstToMeetGap g Term After s
      → IsFirstToMeetGap g TermBy AfterBy s
  gap_there Term After TermBy AfterBy terms afters (wrong.operator first) = wrong.operator first
  gap_there Term After TermBy AfterBy terms afters (wrong.term apart first) =
      wrong.term apart (first_there Term (IsGapStart g) TermBy (IsGapStart g) terms (itself (IsGapStart g)) first)
  gap_there Term After TermBy AfterBy terms afters (wrong.after apart none first) =
      wrong.after apart (none_there Term (IsGapStart g) TermBy (IsGapStart g) terms (itself (IsGapStart g)) none)
      (first_there After (IsGapStart g) AfterBy (IsGapStart g) afters (itself (IsGapStart g)) first)

  module _ (facts others : NodeFacts) (same : SayTheSame g facts others) where
    link_there : (operand separator : ℕ) → AreOne g (BeginsLink facts operand separator) (BeginsLink others operand separator)
    link_there operand separator listed named = (there, back)
      where
        there : BeginsLink facts operand separator listed.start → BeginsLink others operand separator listed.start
        there (inl is) = inl ((same.first separator listed named).0 is)
        there (inr is) = inr ((same.nullable separator).0 is.0, (same.first operand listed named).0 is.1)

        back : BeginsLink others operand separator listed.start → BeginsLink facts operand separator listed.start
        back (inl is) = inl ((same.first separator listed named).1 is)
        back (inr is) = inr ((same.nullable separator).1 is.0, (same.first operand listed named).1 is.1)

    ends_there : (parts : List ℕ) → EndsNullable facts parts → EndsNullable others parts
    ends_there parts h = record { before = h.before; last = h.last; is_last = h.is_last; there = h.there; nullable = (same.nullable h.last).0 h.nullable }

    follows_there : (p : ℕ) {n : _} → slice_get g.nodes p ≡ Some n → AreOne g (facts.follow p) (others.follow p)
    follows_there p {n} at = same.follow p (slice_get_within g.nodes p n at)

    pub violates_there : {p : ℕ} {kind : _} → ViolatesBy g facts p kind → ViolatesBy g others p kind
    violates_there (wrong.left_recursion {r} at heads) = wrong.left_recursion at (same.heads_itself r heads)
    violates_there (wrong.empty_round {q = q} at null) = wrong.empty_round at ((same.nullable q).0 null)
    violates_there (wrong.empty_link {operand = operand} {separator} at is null empty) =
        wrong.empty_link at is ((same.nullable separator).0 null) ((same.nullable operand).0 empty)
    violates_there (wrong.empty_alternative {q = q} at part before null) = wrong.empty_alternative at part before ((same.nullable q).0 null)
    violates_there (wrong.alternatives_meet {q = q} {r} at before one other meets) =
        wrong.alternatives_meet at before one other (first_there (facts.first q) (facts.first r) (others.first q) (others.first r) (same.first q) (same.first r) meets)
    violates_there {p} (wrong.alternative_meets_follow {q = q} {parts} at part before empty meets) =
        wrong.alternative_meets_follow at part before (ends_there parts empty)
        (first_there (facts.first q) (facts.follow p) (others.first q) (others.follow p) (same.first q) (follows_there p at) meets)
    violates_there {p} (wrong.round_meets_follow {q = q} at meets) =
        wrong.round_meets_follow at (first_there (facts.first q) (facts.follow p) (others.first q) (others.follow p) (same.first q) (follows_there p at) meets)
    violates_there {p} (wrong.link_meets_follow {operand = operand} {separator} at is meets) =
        wrong.link_meets_follow at is
        (first_there (BeginsLink facts operand separator) (facts.follow p) (BeginsLink others operand separator) (others.follow p) (link_there operand separator) (follows_there p at) meets)
    violates_there (wrong.empty_operand {term = term} at null) = wrong.empty_operand at ((same.nullable term).0 null)
    violates_there (wrong.operand_meets_operators {term = term} at meets) =
        wrong.operand_meets_operators at
        (first_there (facts.first term) (IsOperatorStart g) (others.first term) (IsOperatorStart g) (same.first term) (itself (IsOperatorStart g)) meets)
    violates_there {p} (wrong.follow_meets_operators at meets) =
        wrong.follow_meets_operators at
        (first_there (facts.follow p) (IsOperatorStart g) (others.follow p) (IsOperatorStart g) (follows_there p at) (itself (IsOperatorStart g)) meets)
    violates_there {p} (wrong.expression_gap_meets {term = term} at meets) =
        wrong.expression_gap_meets at (gap_there (facts.first term) (facts.follow p) (others.first term) (others.follow p) (same.first term) (follows_there p at) meets)
    violates_there {p} (wrong.gap_meets at meets) =
        wrong.gap_meets at (gap_there BeginsNothing (facts.follow p) BeginsNothing (others.follow p) (itself BeginsNothing) (follows_there p at) meets)
    violates_there (wrong.step_cost_over {k = k} at has above) = let more = same.cost k has above in wrong.step_cost_over at more.is more.above
