-- What is noted is wrong.
use Rattle.std.proofs.Common.{◌≡◌, ℕ, suc, ◌+◌, ◌-◌, ◌<◌, Bool, true, false, List, [], ◌++◌, Option, Some, None, slice_get, length, refl, sym, subst, ◌⊎◌, inl, inr, arith}
use Rattle.std.specs.Prelude.{◌&&◌, nat_lt, if◌then◌else◌}
use Rattle.std.specs.Option.{option_map_or}
use Rattle.std.proofs.Math.Numerals.{add-one}
use Rattle.std.proofs.lemmas.Bool.{and_parts}
use Rattle.std.proofs.lemmas.Option.{slice_get_within, get_or_from_slice_get}
use Rattle.pg_grammar_form.specs.Forms.{Node}
use Rattle.pg_grammar_value.specs.Grammar.{Grammar, IsGrammar}
use Rattle.pg_grammar_form.specs.declared.form.Form.TheVariants as form
use Rattle.pg_sets.specs.Follow.{IsChain}
use Rattle.pg_sets.specs.Follow as chain
use Rattle.pg_graph_bits.specs.Numbers.{set_at}
use Rattle.pg_grammar_form.specs.declared.used.OperatorBuilders.{OperatorBuilders}
use Rattle.pg_graph.specs.Marks.{is_marked}
use Rattle.pg_sets_own.specs.declared.listed.ListedStart.{ListedStart}
use Rattle.pg_predict_conditions.specs.WithStarts.{Starts, kind_with_starts, start_at}
use Rattle.pg_predict_conditions.specs.Conditions.{NodeFacts, ViolatesBy, AreFirstToMeet, BeginsNothing, BeginsLink, EndsNullable}
use Rattle.pg_predict_conditions.specs.Conditions as violates
use Rattle.pg_predict.specs.Findings.{condition_number}
use Rattle.pg_grammar_form.specs.declared.class.ClassPart.{ClassPart}
use Rattle.pg_grammar_form.specs.declared.form.Leaf.TheVariants as leaf
use Rattle.pg_predict_conditions.proofs.GapMeetings.{operators_first, gaps_first, no_term, gap_some}
use Rattle.pg_predict_conditions.specs.Judged.{noted_at, is_costly, Facts, all_starts, operators_meet, gaps_meet, gap_met, noted_gap, noted_start, noted_operand, noted_end, noted, noted_meeting, all_below, part_at, node_meeting, follow_meeting, link_meeting, empty_alternative, empty_alternatives, meeting_alternatives, meetings_of_alternative, alternatives_that_meet, alternative_and_follow, alternatives_and_follow, ends_nullable, noted_many, noted_chain, noted_form, noted_node}
use Rattle.pg_predict_conditions.specs.Shown.{AreFacts}
use Rattle.pg_predict_conditions.specs.Violations.{Violation}
use Rattle.pg_predict_conditions.specs.declared.violation.ViolationKind.{ViolationKind}
use Rattle.pg_predict_conditions.specs.declared.violation.ViolationKind.TheVariants.{LeftRecursion, EmptyRound, EmptyAlternative, AlternativesMeet, AlternativeMeetsFollow, RoundMeetsFollow, EmptyOperand, OperandMeetsOperators, FollowMeetsOperators, GapMeets, StepCostOver}
use Rattle.pg_predict_conditions.specs.declared.meetings.Meeting.{Meeting}
use Rattle.pg_predict.proofs.Lists.{In, in_cases, NotedFor, in_all_below, in_noted, NotedMeeting, in_noted_meeting, in_noted_start, Tagged}
use Rattle.pg_predict_conditions.proofs.Meanings.{shows_first, shows_follow, MeetAt, numbers_first, first_there, follow_there, link_there, node_found, follow_found, link_found}
use Rattle.pg_predict_conditions.proofs.Pairs.{pair_is}
use Rattle.pg_predict_conditions.proofs.Parts.{part_inside, parts_below}

-- what is noted of a node is wrong there, and has a number
pub record IsWrong (g : Grammar) (asked : NodeFacts) (starts : Starts) (p number : ℕ) (b : Violation ℕ) : Type 0 where
  pub tagged : Tagged p number b
  pub violates : ViolatesBy g asked p (kind_with_starts starts b.kind)

below_test : (j k : ℕ) → nat_lt j k ≡ true → j < k
below_test j k e = grind (arith, e)

-- ---- meetings of alternatives that are noted

pub record NotedPair (facts : Facts) (p : ℕ) (parts : List ℕ) (j k : ℕ) (b : Violation ℕ) : Type 0 where
  pub before : j < k
  pub noted_meeting : NotedMeeting (node_meeting facts (part_at parts j) (part_at parts k)) p (AlternativesMeet (j + 1) (k + 1)) b

pub in_pair : (facts : Facts) (p : ℕ) (parts : List ℕ) (j k : ℕ) (b : Violation ℕ) → In (meeting_alternatives facts p parts j k) b → NotedPair facts p parts j k b
in_pair facts p parts j k b is = go (nat_lt j k) refl is
  where
    what : ℕ → ℕ → ViolationKind ℕ
    what = AlternativesMeet (j + 1) (k + 1)

    go : (t : Bool) → nat_lt j k ≡ t → In (if t then noted_meeting (node_meeting facts (part_at parts j) (part_at parts k)) p what else []) b → NotedPair facts p parts j k b
    go true e is = record { before = below_test j k e; noted_meeting = in_noted_meeting (node_meeting facts (part_at parts j) (part_at parts k)) p what b is }
    go false e is = absurd is

pub in_follow : (facts : Facts) (p : ℕ) (parts : List ℕ) (b : Violation ℕ) → In (alternatives_and_follow facts p parts) b
    → (ends_nullable facts parts ≡ true) × NotedFor (alternative_and_follow facts p parts) (length parts - 1) b
in_follow facts p parts b is = go (ends_nullable facts parts) refl is
  where
    go : (t : Bool) → ends_nullable facts parts ≡ t → In (if t then all_below (alternative_and_follow facts p parts) (length parts - 1) else []) b
        → (ends_nullable facts parts ≡ true) × NotedFor (alternative_and_follow facts p parts) (length parts - 1) b
    go true e is = (e, in_all_below (alternative_and_follow facts p parts) (length parts - 1) b is)
    go false e is = absurd is

module _ (g : Grammar) (asked : NodeFacts) (facts : Facts) (are : AreFacts g asked facts) (grammar : IsGrammar g) where
  wrong_where : (p number : ℕ) (what : ViolationKind ℕ) (b : Violation ℕ) → record { node = p; kind = what } ≡ b → condition_number what ≡ number
      → ViolatesBy g asked p (kind_with_starts (all_starts facts) what) → IsWrong g asked (all_starts facts) p number b
  wrong_where p number what b e n v =
      subst (IsWrong g asked (all_starts facts) p number) e (record { tagged = record { node = refl; number = n }; violates = v })

  -- ---- first meetings

  nodes_first : (q r : ℕ) (m : Meeting) → q < length g.nodes → r < length g.nodes → node_meeting facts q r ≡ Some m
      → AreFirstToMeet g (asked.first q) (asked.first r) (start_at (all_starts facts) m.one) (start_at (all_starts facts) m.other)
  nodes_first q r m q_below r_below e =
      numbers_first g asked facts are (asked.first q) (asked.first r) (first_there g asked facts are q q_below) (first_there g asked facts are r r_below) m
      (pair_is (MeetAt facts.sets.starts (asked.first q) (asked.first r)) (node_meeting facts q r) m (node_found g asked facts are q r q_below r_below) e)

  follow_first : (q p : ℕ) (m : Meeting) → q < length g.nodes → p < length g.nodes → follow_meeting facts q p ≡ Some m
      → AreFirstToMeet g (asked.first q) (asked.follow p) (start_at (all_starts facts) m.one) (start_at (all_starts facts) m.other)
  follow_first q p m q_below p_below e =
      numbers_first g asked facts are (asked.first q) (asked.follow p) (first_there g asked facts are q q_below) (follow_there g asked facts are p p_below) m
      (pair_is (MeetAt facts.sets.starts (asked.first q) (asked.follow p)) (follow_meeting facts q p) m (follow_found g asked facts are q p q_below p_below) e)

  link_first : (operand separator p : ℕ) (m : Meeting) → operand < length g.nodes → separator < length g.nodes → p < length g.nodes → link_meeting facts operand separator p ≡ Some m
      → AreFirstToMeet g (BeginsLink asked operand separator) (asked.follow p) (start_at (all_starts facts) m.one) (start_at (all_starts facts) m.other)
  link_first operand separator p m o s below e =
      numbers_first g asked facts are (BeginsLink asked operand separator) (asked.follow p) (link_there g asked facts are operand separator o s) (follow_there g asked facts are p below) m
      (pair_is (MeetAt facts.sets.starts (BeginsLink asked operand separator) (asked.follow p)) (link_meeting facts operand separator p) m
      (link_found g asked facts are operand separator p o s below) e)

  -- ---- choices

  pub empty_wrong : (p : ℕ) (parts : List ℕ) (b : Violation ℕ) → slice_get g.nodes p ≡ Some (form.Choice parts) → In (empty_alternatives facts p parts) b → IsWrong g asked (all_starts facts) p 3 b
  empty_wrong p parts b at is =
      let for = in_all_below (empty_alternative facts p parts) (length parts - 1) b is in
      let k = for.number in
      let below = for.below in
      let inside : k < length parts = omega arith in
      let not_last : suc k < length parts = omega arith in
      let test = in_noted (is_marked facts.sets.nullable (part_at parts k)) p (EmptyAlternative (k + 1)) b for.noted_for in
      let null = (are.sets.nullable (part_at parts k)).0 test.0 in
      let violates : ViolatesBy g asked p (EmptyAlternative (suc k)) = violates.empty_alternative at (part_inside parts k inside) not_last null in
      wrong_where p 3 (EmptyAlternative (k + 1)) b test.1 refl (subst (λ (i : ℕ). ViolatesBy g asked p (EmptyAlternative i)) (sym (add-one k)) violates)

  pub pair_wrong : (p : ℕ) (parts : List ℕ) (j k : ℕ) (b : Violation ℕ) → slice_get g.nodes p ≡ Some (form.Choice parts) → j < length parts → k < length parts
      → In (meeting_alternatives facts p parts j k) b → IsWrong g asked (all_starts facts) p 4 b
  pair_wrong p parts j k b at j_inside k_inside is =
      let pair = in_pair facts p parts j k b is in
      let found = pair.noted_meeting in
      let m = found.meeting in
      let S = start_at (all_starts facts) m.one in
      let T = start_at (all_starts facts) m.other in
      let q_there = part_inside parts j j_inside in
      let r_there = part_inside parts k k_inside in
      let q_below = parts_below g p (form.Choice parts) j (part_at parts j) grammar at q_there in
      let r_below = parts_below g p (form.Choice parts) k (part_at parts k) grammar at r_there in
      let first = nodes_first (part_at parts j) (part_at parts k) m q_below r_below found.found in
      let violates : ViolatesBy g asked p (AlternativesMeet (suc j) (suc k) S T) = violates.alternatives_meet at pair.before q_there r_there first in
      let one = subst (λ (i : ℕ). ViolatesBy g asked p (AlternativesMeet i (suc k) S T)) (sym (add-one j)) violates in
      wrong_where p 4 (AlternativesMeet (j + 1) (k + 1) m.one m.other) b found.same refl (subst (λ (i : ℕ). ViolatesBy g asked p (AlternativesMeet (j + 1) i S T)) (sym (add-one k)) one)

  pub meet_wrong : (p : ℕ) (parts : List ℕ) (b : Violation ℕ) → slice_get g.nodes p ≡ Some (form.Choice parts) → In (alternatives_that_meet facts p parts) b → IsWrong g asked (all_starts facts) p 4 b
  meet_wrong p parts b at is =
      let one = in_all_below (meetings_of_alternative facts p parts) (length parts) b is in
      let other = in_all_below (meeting_alternatives facts p parts one.number) (length parts) b one.noted_for in
      pair_wrong p parts one.number other.number b at one.below other.below other.noted_for

  pub follow_wrong : (p : ℕ) (parts : List ℕ) (b : Violation ℕ) → slice_get g.nodes p ≡ Some (form.Choice parts) → In (alternatives_and_follow facts p parts) b → IsWrong g asked (all_starts facts) p 5 b
  follow_wrong p parts b at is =
      let both = in_follow facts p parts b is in
      let for = both.1 in
      let k = for.number in
      let below = for.below in
      let inside : k < length parts = omega arith in
      let not_last : suc k < length parts = omega arith in
      let last : length parts - 1 < length parts = omega arith in
      let found = in_noted_meeting (follow_meeting facts (part_at parts k) p) p (AlternativeMeetsFollow (k + 1)) b for.noted_for in
      let m = found.meeting in
      let q_there = part_inside parts k inside in
      let q_below = parts_below g p (form.Choice parts) k (part_at parts k) grammar at q_there in
      let first = follow_first (part_at parts k) p m q_below (slice_get_within g.nodes p (form.Choice parts) at) found.found in
      let ends : EndsNullable asked parts = record {
        before = length parts - 1;
        last = part_at parts (length parts - 1);
        is_last = omega arith;
        there = part_inside parts (length parts - 1) last;
        nullable = (are.sets.nullable (part_at parts (length parts - 1))).0 both.0;
      } in
      let S = start_at (all_starts facts) m.one in
      let T = start_at (all_starts facts) m.other in
      let violates : ViolatesBy g asked p (AlternativeMeetsFollow (suc k) S T) = violates.alternative_meets_follow at q_there not_last ends first in
      wrong_where p 5 (AlternativeMeetsFollow (k + 1) m.one m.other) b found.same refl (subst (λ (i : ℕ). ViolatesBy g asked p (AlternativeMeetsFollow i S T)) (sym (add-one k)) violates)

  -- ---- repetitions and tries

  pub many_wrong : (p q : ℕ) (b : Violation ℕ) → slice_get g.nodes p ≡ Some (form.Many q) → In (noted_many facts p q) b → IsWrong g asked (all_starts facts) p 2 b ⊎ IsWrong g asked (all_starts facts) p 6 b
  many_wrong p q b at is =
      elim (in_cases (noted (is_marked facts.sets.nullable q) p EmptyRound) (noted_meeting (follow_meeting facts q p) p RoundMeetsFollow) b is) [
        | inl empty ↦
            let test = in_noted (is_marked facts.sets.nullable q) p EmptyRound b empty in
            inl (wrong_where p 2 EmptyRound b test.1 refl (violates.empty_round at ((are.sets.nullable q).0 test.0)))
        | inr meets ↦
            let found = in_noted_meeting (follow_meeting facts q p) p RoundMeetsFollow b meets in
            let q_below = parts_below g p (form.Many q) 0 q grammar at refl in
            let first = follow_first q p found.meeting q_below (slice_get_within g.nodes p (form.Many q) at) found.found in
            inr (wrong_where p 6 (RoundMeetsFollow found.meeting.one found.meeting.other) b found.same refl (violates.round_meets_follow at first))
      ]

  pub chain_wrong : (p operand separator : ℕ) (n : Node) (b : Violation ℕ) → slice_get g.nodes p ≡ Some n → IsChain operand separator n → operand < length g.nodes → separator < length g.nodes
      → In (noted_chain facts p operand separator) b → IsWrong g asked (all_starts facts) p 2 b ⊎ IsWrong g asked (all_starts facts) p 6 b
  chain_wrong p operand separator n b at is_chain o s is =
      let null_s = is_marked facts.sets.nullable separator in
      let null_o = is_marked facts.sets.nullable operand in
      elim (in_cases (noted (null_s && null_o) p EmptyRound) (noted_meeting (link_meeting facts operand separator p) p RoundMeetsFollow) b is) [
        | inl empty ↦
            let test = in_noted (null_s && null_o) p EmptyRound b empty in
            let both = and_parts null_s null_o test.0 in
            inl (wrong_where p 2 EmptyRound b test.1 refl (violates.empty_link at is_chain ((are.sets.nullable separator).0 both.0) ((are.sets.nullable operand).0 both.1)))
        | inr meets ↦
            let found = in_noted_meeting (link_meeting facts operand separator p) p RoundMeetsFollow b meets in
            let first = link_first operand separator p found.meeting o s (slice_get_within g.nodes p n at) found.found in
            inr (wrong_where p 6 (RoundMeetsFollow found.meeting.one found.meeting.other) b found.same refl (violates.link_meets_follow at is_chain first))
      ]

  -- ---- expressions

  -- the start with a number
  pub start_is : (s : ℕ) (x : ListedStart) → slice_get facts.sets.starts s ≡ Some x → start_at (all_starts facts) s ≡ x
  start_is s x at = get_or_from_slice_get facts.sets.starts s x _ at

  pub operand_wrong : (p term : ℕ) (builders : OperatorBuilders) (b : Violation ℕ) → slice_get g.nodes p ≡ Some (form.Expression builders term) → In (noted_operand facts p term) b → IsWrong g asked (all_starts facts) p 7 b
  operand_wrong p term builders b at is =
      let term_below = parts_below g p (form.Expression builders term) 0 term grammar at refl in
      let met = operators_meet facts (set_at facts.sets.firsts term) in
      elim (in_cases (noted (is_marked facts.sets.nullable term) p EmptyOperand) (noted_start met p OperandMeetsOperators) b is) [
        | inl empty ↦
            let test = in_noted (is_marked facts.sets.nullable term) p EmptyOperand b empty in
            wrong_where p 7 EmptyOperand b test.1 refl (violates.empty_operand at ((are.sets.nullable term).0 test.0))
        | inr meets ↦
            let found = in_noted_start met p OperandMeetsOperators b meets in
            let first = (operators_first g asked facts are (set_at facts.sets.firsts term) (asked.first term) (shows_first g asked facts are term term_below)).some found.start found.found in
            let violates : ViolatesBy g asked p (OperandMeetsOperators first.0) = violates.operand_meets_operators at first.3 in
            wrong_where p 7 (OperandMeetsOperators found.start) b found.same refl (subst (λ (x : ListedStart). ViolatesBy g asked p (OperandMeetsOperators x)) (sym (start_is found.start first.0 first.2)) violates)
      ]

  pub end_wrong : (p term : ℕ) (builders : OperatorBuilders) (b : Violation ℕ) → slice_get g.nodes p ≡ Some (form.Expression builders term) → In (noted_end facts p) b → IsWrong g asked (all_starts facts) p 8 b
  end_wrong p term builders b at is =
      let p_below = slice_get_within g.nodes p (form.Expression builders term) at in
      let found = in_noted_start (operators_meet facts (set_at facts.sets.follows p)) p FollowMeetsOperators b is in
      let first = (operators_first g asked facts are (set_at facts.sets.follows p) (asked.follow p) (shows_follow g asked facts are p p_below)).some found.start found.found in
      let violates : ViolatesBy g asked p (FollowMeetsOperators first.0) = violates.follow_meets_operators at first.3 in
      wrong_where p 8 (FollowMeetsOperators found.start) b found.same refl (subst (λ (x : ListedStart). ViolatesBy g asked p (FollowMeetsOperators x)) (sym (start_is found.start first.0 first.2)) violates)

  pub expression_gap_wrong : (p term : ℕ) (builders : OperatorBuilders) (b : Violation ℕ) → slice_get g.nodes p ≡ Some (form.Expression builders term) →
      In (noted_gap (gap_met facts (gaps_meet facts (set_at facts.sets.firsts term)) p) p) b → IsWrong g asked (all_starts facts) p 9 b
  expression_gap_wrong p term builders b at is =
      let term_below = parts_below g p (form.Expression builders term) 0 term grammar at refl in
      let p_below = slice_get_within g.nodes p (form.Expression builders term) at in
      let begins = gaps_first g asked facts are (set_at facts.sets.firsts term) (asked.first term) (shows_first g asked facts are term term_below) in
      let found = in_noted_start (gap_met facts (gaps_meet facts (set_at facts.sets.firsts term)) p) p GapMeets b is in
      let first = gap_some g asked facts are p p_below (gaps_meet facts (set_at facts.sets.firsts term)) (asked.first term) begins found.start found.found in
      wrong_where p 9 (GapMeets found.start) b found.same refl (violates.expression_gap_meets at first)

  pub after_operand : (p term : ℕ) (builders : OperatorBuilders) (b : Violation ℕ) → slice_get g.nodes p ≡ Some (form.Expression builders term) →
      In (noted_end facts p ++ noted_gap (gap_met facts (gaps_meet facts (set_at facts.sets.firsts term)) p) p) b → IsWrong g asked (all_starts facts) p 8 b ⊎ IsWrong g asked (all_starts facts) p 9 b
  after_operand p term builders b at is =
      elim (in_cases (noted_end facts p) (noted_gap (gap_met facts (gaps_meet facts (set_at facts.sets.firsts term)) p) p) b is) [
        | inl end ↦ inl (end_wrong p term builders b at end)
        | inr gap ↦ inr (expression_gap_wrong p term builders b at gap)
      ]

  -- ---- leaves

  declaration_wrong : (p : ℕ) (class : List ClassPart) (b : Violation ℕ) → slice_get g.nodes p ≡ Some (form.Leaf (leaf.Declare class)) → In (noted_gap (gap_met facts None p) p) b
      → IsWrong g asked (all_starts facts) p 9 b
  declaration_wrong p class b at is =
      let found = in_noted_start (gap_met facts None p) p GapMeets b is in
      let first = gap_some g asked facts are p (slice_get_within g.nodes p (form.Leaf (leaf.Declare class)) at) None BeginsNothing (no_term g asked facts are) found.start found.found in
      wrong_where p 9 (GapMeets found.start) b found.same refl (violates.gap_meets at first)

  -- ---- nodes

  -- the violation holds, and its number is above the given one and below the step cost's
  pub record WrongAbove (low p : ℕ) (b : Violation ℕ) : Type 0 where
    pub number : ℕ
    pub above : low < number
    pub below : number < 11
    pub wrong : IsWrong g asked (all_starts facts) p number b

  either_above : (low p m n : ℕ) (b : Violation ℕ) → low < m → low < n → m < 11 → n < 11 → IsWrong g asked (all_starts facts) p m b ⊎ IsWrong g asked (all_starts facts) p n b → WrongAbove low p b
  either_above low p m n b a c d e (inl is) = record { number = m; above = a; below = d; wrong = is }
  either_above low p m n b a c d e (inr is) = record { number = n; above = c; below = e; wrong = is }

  pub form_wrong : (p : ℕ) (n : Node) (b : Violation ℕ) → slice_get g.nodes p ≡ Some n → In (noted_form facts p n) b → WrongAbove 1 p b
  form_wrong p (form.Choice parts) b at is =
      elim (in_cases (empty_alternatives facts p parts) (alternatives_that_meet facts p parts ++ alternatives_and_follow facts p parts) b is) [
        | inl empty ↦ record { number = 3; above = omega arith; below = omega arith; wrong = empty_wrong p parts b at empty }
        | inr after ↦
            elim (in_cases (alternatives_that_meet facts p parts) (alternatives_and_follow facts p parts) b after) [
              | inl meets ↦ record { number = 4; above = omega arith; below = omega arith; wrong = meet_wrong p parts b at meets }
              | inr follows ↦ record { number = 5; above = omega arith; below = omega arith; wrong = follow_wrong p parts b at follows }
            ]
      ]
  form_wrong p (form.Many part) b at is = either_above 1 p 2 6 b (omega arith) (omega arith) (omega arith) (omega arith) (many_wrong p part b at is)
  form_wrong p (form.Chain side used operand separator) b at is =
      let parts = form.Chain side used operand separator in
      either_above 1 p 2 6 b (omega arith) (omega arith) (omega arith) (omega arith)
      (chain_wrong p operand separator parts b at chain.chain (parts_below g p parts 0 operand grammar at refl) (parts_below g p parts 1 separator grammar at refl) is)
  form_wrong p (form.Expression builders term) b at is =
      elim (in_cases (noted_operand facts p term) (noted_end facts p ++ noted_gap (gap_met facts (gaps_meet facts (set_at facts.sets.firsts term)) p) p) b is) [
        | inl operand ↦ record { number = 7; above = omega arith; below = omega arith; wrong = operand_wrong p term builders b at operand }
        | inr after ↦ either_above 1 p 8 9 b (omega arith) (omega arith) (omega arith) (omega arith) (after_operand p term builders b at after)
      ]
  form_wrong p (form.Leaf (leaf.Declare class)) b at is = record { number = 9; above = omega arith; below = omega arith; wrong = declaration_wrong p class b at is }
  form_wrong p n b at is = absurd is

  pub recursion_wrong : (p : ℕ) (b : Violation ℕ) → In (noted (is_marked facts.recursive p) p LeftRecursion) b → IsWrong g asked (all_starts facts) p 1 b
  recursion_wrong p b is =
      let test = in_noted (is_marked facts.recursive p) p LeftRecursion b is in
      let recursive = (are.recursive p).0 test.0 in
      let violates : ViolatesBy g asked recursive.rule.body LeftRecursion = violates.left_recursion recursive.there recursive.heads_itself in
      wrong_where p 1 LeftRecursion b test.1 refl (subst (λ (q : ℕ). ViolatesBy g asked q LeftRecursion) recursive.body violates)

  pub standing_wrong : (p : ℕ) (b : Violation ℕ) → In (option_map_or (noted_form facts p) (slice_get g.nodes p) []) b → WrongAbove 1 p b
  standing_wrong p b is = go (slice_get g.nodes p) refl is
    where
      go : (o : Option Node) → slice_get g.nodes p ≡ o → In (option_map_or (noted_form facts p) o []) b → WrongAbove 1 p b
      go (Some n) e is = form_wrong p n b e is
      go None e is = absurd is

  pub node_wrong : (p : ℕ) (b : Violation ℕ) → In (noted_node g facts p) b → WrongAbove 0 p b
  node_wrong p b is =
      elim (in_cases (noted (is_marked facts.recursive p) p LeftRecursion) (option_map_or (noted_form facts p) (slice_get g.nodes p) []) b is) [
        | inl recursion ↦ record { number = 1; above = omega arith; below = omega arith; wrong = recursion_wrong p b recursion }
        | inr standing ↦ let wrong = standing_wrong p b standing in let above = wrong.above in let below = wrong.below in record { number = wrong.number; above = omega arith; below = omega arith; wrong = wrong.wrong }
      ]

  pub cost_wrong : (p : ℕ) (b : Violation ℕ) → In (noted (is_costly facts p) p StepCostOver) b → IsWrong g asked (all_starts facts) p 11 b
  cost_wrong p b is =
      let test = in_noted (is_costly facts p) p StepCostOver b is in
      let costly = (are.costly p).0 test.0 in
      let violates : ViolatesBy g asked costly.rule.body StepCostOver = violates.step_cost_over costly.there costly.is costly.over in
      wrong_where p 11 StepCostOver b test.1 refl (subst (λ (q : ℕ). ViolatesBy g asked q StepCostOver) costly.body violates)

  -- what is noted at a node is wrong there
  pub at_wrong : (p : ℕ) (b : Violation ℕ) → In (noted_at g facts p) b → (n : ℕ) × IsWrong g asked (all_starts facts) p n b
  at_wrong p b is =
      elim (in_cases (noted_node g facts p) (noted (is_costly facts p) p StepCostOver) b is) [
        | inl node ↦ (let wrong = node_wrong p b node in (wrong.number, wrong.wrong))
        | inr cost ↦ (11, cost_wrong p b cost)
      ]
