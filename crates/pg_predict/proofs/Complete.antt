-- What is wrong is noted.
use Rattle.std.proofs.Common.{◌≡◌, ℕ, suc, ◌+◌, ◌-◌, ◌<◌, Bool, true, List, [], ◌++◌, Option, Some, None, slice_get, length, refl, sym, ap, subst, ◌∙◌, arith}
use Rattle.std.specs.Prelude.{◌&&◌, if◌then◌else◌}
use Rattle.std.specs.Option.{option_map_or}
use Rattle.std.proofs.Math.Numerals.{add-one}
use Rattle.std.proofs.lemmas.Bool.{and_from, lt-ltb}
use Rattle.std.proofs.lemmas.Option.{slice_get_within, get_or_from_slice_get}
use Rattle.pg_grammar_value.specs.Grammar.{Grammar, IsGrammar}
use Rattle.pg_grammar_form.specs.Forms.{Node}
use Rattle.pg_grammar_form.specs.declared.form.Form.TheVariants as form
use Rattle.pg_grammar_value.proofs.Numbers.{bodies_are_nodes}
use Rattle.pg_sets.specs.Follow.{IsChain}
use Rattle.pg_sets.specs.Follow as chain
use Rattle.pg_graph_bits.specs.Numbers.{set_at}
use Rattle.pg_grammar_form.specs.declared.used.OperatorBuilders.{OperatorBuilders}
use Rattle.pg_graph.specs.Marks.{is_marked}
use Rattle.pg_sets_own.specs.declared.listed.ListedStart.{ListedStart}
use Rattle.pg_grammar_form.proofs.Each.{all-get}
use Rattle.pg_predict_conditions.specs.WithStarts.{Starts, kind_with_starts, start_at}
use Rattle.pg_predict_conditions.specs.Conditions.{NodeFacts, ViolatesBy, AreFirstToMeet, BeginsNothing, BeginsLink, EndsNullable}
use Rattle.pg_predict_conditions.specs.Conditions as violates
use Rattle.pg_grammar_form.specs.declared.form.Leaf.TheVariants as leaf
use Rattle.pg_predict_conditions.proofs.GapMeetings.{operators_first, gaps_first, no_term, gap_from}
use Rattle.pg_predict_conditions.specs.Judged.{noted_at, is_costly, Facts, all_starts, operators_meet, gaps_meet, gap_met, noted_start, noted_gap, noted_operand, noted_end, noted, noted_meeting, all_below, part_at, node_meeting, follow_meeting, link_meeting, empty_alternative, empty_alternatives, meeting_alternatives, meetings_of_alternative, alternatives_that_meet, alternative_and_follow, alternatives_and_follow, ends_nullable, noted_chain, noted_form, noted_node}
use Rattle.pg_predict_conditions.specs.Shown.{AreFacts}
use Rattle.pg_predict_conditions.specs.Violations.{Violation}
use Rattle.pg_predict_conditions.specs.declared.violation.ViolationKind.{ViolationKind}
use Rattle.pg_predict_conditions.specs.declared.violation.ViolationKind.TheVariants.{LeftRecursion, EmptyRound, EmptyAlternative, AlternativesMeet, AlternativeMeetsFollow, RoundMeetsFollow, EmptyOperand, OperandMeetsOperators, FollowMeetsOperators, GapMeets, StepCostOver}
use Rattle.pg_predict_conditions.specs.declared.meetings.Meeting.{Meeting}
use Rattle.pg_predict.proofs.Lists.{In, in_left, in_right, all_below_has, noted_has, noted_meeting_has, noted_start_has}
use Rattle.pg_predict_conditions.proofs.Meanings.{shows_first, shows_follow, MeetAt, first_numbers, first_there, follow_there, link_there, node_found, follow_found, link_found}
use Rattle.pg_predict_conditions.proofs.Parts.{parts_below}
use Rattle.pg_predict_conditions.proofs.Pairs.{pair_from}
use Rattle.pg_predict.proofs.Sound.{start_is}

-- it is noted of a node
pub record IsNoted (g : Grammar) (facts : Facts) (p : ℕ) (what : ViolationKind ListedStart) : Type 0 where
  pub kind : ViolationKind ℕ
  pub same : kind_with_starts (all_starts facts) kind ≡ what
  pub noted_there : In (noted_at g facts p) (record { node = p; kind = kind })
  pub below : p < length g.nodes

-- a meeting that is found, and the starts with its numbers
pub record IsFound (starts : Starts) (o : Option Meeting) (s t : ListedStart) : Type 0 where
  pub meeting : Meeting
  pub found : o ≡ Some meeting
  pub one : start_at starts meeting.one ≡ s
  pub other : start_at starts meeting.other ≡ t

part_is : (parts : List ℕ) (k q : ℕ) → slice_get parts k ≡ Some q → part_at parts k ≡ q
part_is parts k q e = get_or_from_slice_get parts k q 0 e

module _ (g : Grammar) (asked : NodeFacts) (facts : Facts) (are : AreFacts g asked facts) (grammar : IsGrammar g) where
  marked : (q : ℕ) → asked.nullable q → is_marked facts.sets.nullable q ≡ true
  marked q null = (are.sets.nullable q).1 null

  -- ---- first meetings

  nodes_found : (q r : ℕ) (s t : ListedStart) → q < length g.nodes → r < length g.nodes → AreFirstToMeet g (asked.first q) (asked.first r) s t
      → IsFound (all_starts facts) (node_meeting facts q r) s t
  nodes_found q r s t q_below r_below is =
      let first = first_numbers g asked facts are (asked.first q) (asked.first r) (first_there g asked facts are q q_below) (first_there g asked facts are r r_below) s t is in
      record {
        meeting = first.0;
        found = pair_from (MeetAt facts.sets.starts (asked.first q) (asked.first r)) (node_meeting facts q r) first.0 (node_found g asked facts are q r q_below r_below) first.1;
        one = first.2;
        other = first.3;
      }

  with_follow : (q p : ℕ) (s t : ListedStart) → q < length g.nodes → p < length g.nodes → AreFirstToMeet g (asked.first q) (asked.follow p) s t
      → IsFound (all_starts facts) (follow_meeting facts q p) s t
  with_follow q p s t q_below p_below is =
      let first = first_numbers g asked facts are (asked.first q) (asked.follow p) (first_there g asked facts are q q_below) (follow_there g asked facts are p p_below) s t is in
      record {
        meeting = first.0;
        found = pair_from (MeetAt facts.sets.starts (asked.first q) (asked.follow p)) (follow_meeting facts q p) first.0 (follow_found g asked facts are q p q_below p_below) first.1;
        one = first.2;
        other = first.3;
      }

  link_with_follow : (operand separator p : ℕ) (s t : ListedStart) → operand < length g.nodes → separator < length g.nodes → p < length g.nodes
      → AreFirstToMeet g (BeginsLink asked operand separator) (asked.follow p) s t → IsFound (all_starts facts) (link_meeting facts operand separator p) s t
  link_with_follow operand separator p s t o q below is =
      let first = first_numbers g asked facts are (BeginsLink asked operand separator) (asked.follow p) (link_there g asked facts are operand separator o q) (follow_there g asked facts are p below) s t is in
      record {
        meeting = first.0;
        found = pair_from (MeetAt facts.sets.starts (BeginsLink asked operand separator) (asked.follow p)) (link_meeting facts operand separator p) first.0
            (link_found g asked facts are operand separator p o q below) first.1;
        one = first.2;
        other = first.3;
      }

  -- ---- nodes

  -- what is noted of a node is noted at it
  of_node : (p : ℕ) (b : Violation ℕ) → In (noted_node g facts p) b → In (noted_at g facts p) b
  of_node p b is = in_left (noted_node g facts p) (noted (is_costly facts p) p StepCostOver) b is

  -- so is what is noted of what stands there
  at_form : (p : ℕ) (n : Node) (b : Violation ℕ) → slice_get g.nodes p ≡ Some n → In (noted_form facts p n) b → In (noted_at g facts p) b
  at_form p n b at is =
      of_node p b
      (in_right (noted (is_marked facts.recursive p) p LeftRecursion) (option_map_or (noted_form facts p) (slice_get g.nodes p) []) b
      (subst (λ (o : Option Node). In (option_map_or (noted_form facts p) o []) b) (sym at) is))

  -- so is what is noted of an expression
  of_operand : (p term : ℕ) (builders : OperatorBuilders) (b : Violation ℕ) → slice_get g.nodes p ≡ Some (form.Expression builders term) → In (noted_operand facts p term) b → In (noted_at g facts p) b
  of_operand p term builders b at is =
      at_form p (form.Expression builders term) b at (in_left (noted_operand facts p term) (noted_end facts p ++ noted_gap (gap_met facts (gaps_meet facts (set_at facts.sets.firsts term)) p) p) b is)

  after_operand_noted : (p term : ℕ) (builders : OperatorBuilders) (b : Violation ℕ) → slice_get g.nodes p ≡ Some (form.Expression builders term) →
      In (noted_end facts p ++ noted_gap (gap_met facts (gaps_meet facts (set_at facts.sets.firsts term)) p) p) b → In (noted_at g facts p) b
  after_operand_noted p term builders b at is =
      at_form p (form.Expression builders term) b at (in_right (noted_operand facts p term) (noted_end facts p ++ noted_gap (gap_met facts (gaps_meet facts (set_at facts.sets.firsts term)) p) p) b is)

  -- the form of a chain
  at_chain : (p operand separator : ℕ) (n : Node) (b : Violation ℕ) → slice_get g.nodes p ≡ Some n → IsChain operand separator n → In (noted_chain facts p operand separator) b
      → In (noted_at g facts p) b
  at_chain p operand separator n b at chain.chain is = at_form p n b at is

  operand_below : (p operand separator : ℕ) (n : Node) → slice_get g.nodes p ≡ Some n → IsChain operand separator n → operand < length g.nodes
  operand_below p operand separator n at chain.chain = parts_below g p n 0 operand grammar at refl

  separator_below : (p operand separator : ℕ) (n : Node) → slice_get g.nodes p ≡ Some n → IsChain operand separator n → separator < length g.nodes
  separator_below p operand separator n at chain.chain = parts_below g p n 1 separator grammar at refl

  -- ---- choices

  empty_noted : (p k q : ℕ) (parts : List ℕ) → slice_get g.nodes p ≡ Some (form.Choice parts) → slice_get parts k ≡ Some q → suc k < length parts → asked.nullable q
      → IsNoted g facts p (EmptyAlternative (suc k))
  empty_noted p k q parts at part not_last null =
      let b : Violation ℕ = record { node = p; kind = EmptyAlternative (k + 1) } in
      let test : is_marked facts.sets.nullable (part_at parts k) ≡ true = ap (is_marked facts.sets.nullable) (part_is parts k q part) ∙ marked q null in
      let here = noted_has (is_marked facts.sets.nullable (part_at parts k)) p (EmptyAlternative (k + 1)) test in
      let below : k < length parts - 1 = omega arith in
      let one = all_below_has (empty_alternative facts p parts) (length parts - 1) k b below here in
      record {
        kind = EmptyAlternative (k + 1);
        same = ap EmptyAlternative (add-one k);
        noted_there = at_form p (form.Choice parts) b at
            (in_left (empty_alternatives facts p parts) (alternatives_that_meet facts p parts ++ alternatives_and_follow facts p parts) b one);
        below = slice_get_within g.nodes p (form.Choice parts) at;
      }

  pair_has : (p : ℕ) (parts : List ℕ) (j k : ℕ) (m : Meeting) → j < k → node_meeting facts (part_at parts j) (part_at parts k) ≡ Some m
      → In (meeting_alternatives facts p parts j k) (record { node = p; kind = AlternativesMeet (j + 1) (k + 1) m.one m.other })
  pair_has p parts j k m before found =
      subst (λ (t : Bool). In (if t then noted_meeting (node_meeting facts (part_at parts j) (part_at parts k)) p (AlternativesMeet (j + 1) (k + 1)) else [])
      (record { node = p; kind = AlternativesMeet (j + 1) (k + 1) m.one m.other })) (sym (lt-ltb j k before))
      (noted_meeting_has (node_meeting facts (part_at parts j) (part_at parts k)) p (AlternativesMeet (j + 1) (k + 1)) m found)

  pair_noted : (p j k q r : ℕ) (parts : List ℕ) (s t : ListedStart) → slice_get g.nodes p ≡ Some (form.Choice parts) → j < k → slice_get parts j ≡ Some q → slice_get parts k ≡ Some r
      → AreFirstToMeet g (asked.first q) (asked.first r) s t → IsNoted g facts p (AlternativesMeet (suc j) (suc k) s t)
  pair_noted p j k q r parts s t at before one other first =
      let starts = all_starts facts in
      let q_below = parts_below g p (form.Choice parts) j q grammar at one in
      let r_below = parts_below g p (form.Choice parts) k r grammar at other in
      let found = nodes_found q r s t q_below r_below first in
      let m = found.meeting in
      let b : Violation ℕ = record { node = p; kind = AlternativesMeet (j + 1) (k + 1) m.one m.other } in
      let e : node_meeting facts (part_at parts j) (part_at parts k) ≡ Some m =
      ap (λ (x : ℕ). node_meeting facts x (part_at parts k)) (part_is parts j q one) ∙ (ap (node_meeting facts q) (part_is parts k r other) ∙ found.found) in
      let inner = all_below_has (meeting_alternatives facts p parts j) (length parts) k b (slice_get_within parts k r other) (pair_has p parts j k m before e) in
      let outer = all_below_has (meetings_of_alternative facts p parts) (length parts) j b (slice_get_within parts j q one) inner in
      record {
        kind = AlternativesMeet (j + 1) (k + 1) m.one m.other;
        same =
            ap (λ (i : ℕ). AlternativesMeet i (k + 1) (start_at starts m.one) (start_at starts m.other)) (add-one j)
            ∙ (ap (λ (i : ℕ). AlternativesMeet (suc j) i (start_at starts m.one) (start_at starts m.other)) (add-one k)
            ∙ (ap (λ (x : ListedStart). AlternativesMeet (suc j) (suc k) x (start_at starts m.other)) found.one ∙ ap (AlternativesMeet (suc j) (suc k) s) found.other));
        noted_there = at_form p (form.Choice parts) b at
            (in_right (empty_alternatives facts p parts) (alternatives_that_meet facts p parts ++ alternatives_and_follow facts p parts) b
            (in_left (alternatives_that_meet facts p parts) (alternatives_and_follow facts p parts) b outer));
        below = slice_get_within g.nodes p (form.Choice parts) at;
      }

  ends_test : (parts : List ℕ) → EndsNullable asked parts → ends_nullable facts parts ≡ true
  ends_test parts ends =
      let long = ends.is_last in
      let before : length parts - 1 ≡ ends.before = omega arith in
      ap (λ (k : ℕ). is_marked facts.sets.nullable (part_at parts k)) before
      ∙ (ap (is_marked facts.sets.nullable) (part_is parts ends.before ends.last ends.there) ∙ marked ends.last ends.nullable)

  follow_noted : (p k q : ℕ) (parts : List ℕ) (s t : ListedStart) → slice_get g.nodes p ≡ Some (form.Choice parts) → slice_get parts k ≡ Some q → suc k < length parts
      → EndsNullable asked parts → AreFirstToMeet g (asked.first q) (asked.follow p) s t → IsNoted g facts p (AlternativeMeetsFollow (suc k) s t)
  follow_noted p k q parts s t at part not_last ends first =
      let starts = all_starts facts in
      let p_below = slice_get_within g.nodes p (form.Choice parts) at in
      let q_below = parts_below g p (form.Choice parts) k q grammar at part in
      let found = with_follow q p s t q_below p_below first in
      let m = found.meeting in
      let b : Violation ℕ = record { node = p; kind = AlternativeMeetsFollow (k + 1) m.one m.other } in
      let e : follow_meeting facts (part_at parts k) p ≡ Some m = ap (λ (x : ℕ). follow_meeting facts x p) (part_is parts k q part) ∙ found.found in
      let here = noted_meeting_has (follow_meeting facts (part_at parts k) p) p (AlternativeMeetsFollow (k + 1)) m e in
      let below : k < length parts - 1 = omega arith in
      let one = all_below_has (alternative_and_follow facts p parts) (length parts - 1) k b below here in
      let all : In (alternatives_and_follow facts p parts) b =
      subst (λ (u : Bool). In (if u then all_below (alternative_and_follow facts p parts) (length parts - 1) else []) b) (sym (ends_test parts ends)) one in
      record {
        kind = AlternativeMeetsFollow (k + 1) m.one m.other;
        same =
            ap (λ (i : ℕ). AlternativeMeetsFollow i (start_at starts m.one) (start_at starts m.other)) (add-one k)
            ∙ (ap (λ (x : ListedStart). AlternativeMeetsFollow (suc k) x (start_at starts m.other)) found.one ∙ ap (AlternativeMeetsFollow (suc k) s) found.other);
        noted_there = at_form p (form.Choice parts) b at
            (in_right (empty_alternatives facts p parts) (alternatives_that_meet facts p parts ++ alternatives_and_follow facts p parts) b
            (in_right (alternatives_that_meet facts p parts) (alternatives_and_follow facts p parts) b all));
        below = p_below;
      }

  -- ---- the others

  round_same : (m : Meeting) (s t : ListedStart) → start_at (all_starts facts) m.one ≡ s → start_at (all_starts facts) m.other ≡ t
      → kind_with_starts (all_starts facts) (RoundMeetsFollow m.one m.other) ≡ RoundMeetsFollow s t
  round_same m s t one other = ap (λ (x : ListedStart). RoundMeetsFollow x (start_at (all_starts facts) m.other)) one ∙ ap (RoundMeetsFollow s) other

  pub violation_noted : (p : ℕ) (what : ViolationKind ListedStart) → ViolatesBy g asked p what → IsNoted g facts p what
  violation_noted p what (violates.left_recursion {r} {rule} there circle) =
      let test = (are.recursive rule.body).1 (record { number = r; rule = rule; there = there; body = refl; heads_itself = circle }) in
      record {
        kind = LeftRecursion;
        same = refl;
        noted_there = of_node rule.body (record { node = rule.body; kind = LeftRecursion })
            (in_left (noted (is_marked facts.recursive rule.body) rule.body LeftRecursion) (option_map_or (noted_form facts rule.body) (slice_get g.nodes rule.body) [])
            (record { node = rule.body; kind = LeftRecursion }) (noted_has (is_marked facts.recursive rule.body) rule.body LeftRecursion test));
        below = all-get (λ one. one.body < length g.nodes) g.rules r rule (bodies_are_nodes g.rules g.nodes grammar.bodies) there;
      }
  violation_noted p what (violates.empty_round {q = q} at null) =
      let b : Violation ℕ = record { node = p; kind = EmptyRound } in
      record {
        kind = EmptyRound;
        same = refl;
        noted_there = at_form p (form.Many q) b at
            (in_left (noted (is_marked facts.sets.nullable q) p EmptyRound) (noted_meeting (follow_meeting facts q p) p RoundMeetsFollow) b
            (noted_has (is_marked facts.sets.nullable q) p EmptyRound (marked q null)));
        below = slice_get_within g.nodes p (form.Many q) at;
      }
  violation_noted p what (violates.empty_link {operand = operand} {separator = separator} {n = n} at is_chain null_s null_o) =
      let b : Violation ℕ = record { node = p; kind = EmptyRound } in
      let test = and_from (is_marked facts.sets.nullable separator) (is_marked facts.sets.nullable operand) (marked separator null_s) (marked operand null_o) in
      record {
        kind = EmptyRound;
        same = refl;
        noted_there = at_chain p operand separator n b at is_chain
            (in_left (noted (is_marked facts.sets.nullable separator && is_marked facts.sets.nullable operand) p EmptyRound)
            (noted_meeting (link_meeting facts operand separator p) p RoundMeetsFollow) b
            (noted_has (is_marked facts.sets.nullable separator && is_marked facts.sets.nullable operand) p EmptyRound test));
        below = slice_get_within g.nodes p n at;
      }
  violation_noted p what (violates.empty_alternative {k = k} {q = q} {parts = parts} at part not_last null) = empty_noted p k q parts at part not_last null
  violation_noted p what (violates.alternatives_meet {j = j} {k = k} {q = q} {r = r} {parts = parts} {s = s} {t = t} at before one other first) =
      pair_noted p j k q r parts s t at before one other first
  violation_noted p what (violates.alternative_meets_follow {k = k} {q = q} {parts = parts} {s = s} {t = t} at part not_last ends first) =
      follow_noted p k q parts s t at part not_last ends first
  violation_noted p what (violates.round_meets_follow {q = q} {s = s} {t = t} at first) =
      let p_below = slice_get_within g.nodes p (form.Many q) at in
      let found = with_follow q p s t (parts_below g p (form.Many q) 0 q grammar at refl) p_below first in
      let b : Violation ℕ = record { node = p; kind = RoundMeetsFollow found.meeting.one found.meeting.other } in
      record {
        kind = RoundMeetsFollow found.meeting.one found.meeting.other;
        same = round_same found.meeting s t found.one found.other;
        noted_there = at_form p (form.Many q) b at
            (in_right (noted (is_marked facts.sets.nullable q) p EmptyRound) (noted_meeting (follow_meeting facts q p) p RoundMeetsFollow) b
            (noted_meeting_has (follow_meeting facts q p) p RoundMeetsFollow found.meeting found.found));
        below = p_below;
      }
  violation_noted p what (violates.link_meets_follow {operand = operand} {separator = separator} {n = n} {s = s} {t = t} at is_chain first) =
      let p_below = slice_get_within g.nodes p n at in
      let found = link_with_follow operand separator p s t (operand_below p operand separator n at is_chain) (separator_below p operand separator n at is_chain) p_below first in
      let b : Violation ℕ = record { node = p; kind = RoundMeetsFollow found.meeting.one found.meeting.other } in
      record {
        kind = RoundMeetsFollow found.meeting.one found.meeting.other;
        same = round_same found.meeting s t found.one found.other;
        noted_there = at_chain p operand separator n b at is_chain
            (in_right (noted (is_marked facts.sets.nullable separator && is_marked facts.sets.nullable operand) p EmptyRound)
            (noted_meeting (link_meeting facts operand separator p) p RoundMeetsFollow) b
            (noted_meeting_has (link_meeting facts operand separator p) p RoundMeetsFollow found.meeting found.found));
        below = p_below;
      }
  violation_noted p what (violates.empty_operand {term = term} {builders = builders} at null) =
      let b : Violation ℕ = record { node = p; kind = EmptyOperand } in
      record {
        kind = EmptyOperand;
        same = refl;
        noted_there = of_operand p term builders b at
            (in_left (noted (is_marked facts.sets.nullable term) p EmptyOperand) (noted_start (operators_meet facts (set_at facts.sets.firsts term)) p OperandMeetsOperators) b
            (noted_has (is_marked facts.sets.nullable term) p EmptyOperand (marked term null)));
        below = slice_get_within g.nodes p (form.Expression builders term) at;
      }
  violation_noted p what (violates.operand_meets_operators {term = term} {builders = builders} {s = s} {t = t} at first) =
      let term_below = parts_below g p (form.Expression builders term) 0 term grammar at refl in
      let found = (operators_first g asked facts are (set_at facts.sets.firsts term) (asked.first term) (shows_first g asked facts are term term_below)).from s t first in
      let b : Violation ℕ = record { node = p; kind = OperandMeetsOperators found.0 } in
      record {
        kind = OperandMeetsOperators found.0;
        same = ap OperandMeetsOperators (start_is g asked facts are grammar found.0 s found.2);
        noted_there = of_operand p term builders b at
            (in_right (noted (is_marked facts.sets.nullable term) p EmptyOperand) (noted_start (operators_meet facts (set_at facts.sets.firsts term)) p OperandMeetsOperators) b
            (noted_start_has (operators_meet facts (set_at facts.sets.firsts term)) p OperandMeetsOperators found.0 found.1));
        below = slice_get_within g.nodes p (form.Expression builders term) at;
      }
  violation_noted p what (violates.follow_meets_operators {term = term} {builders = builders} {s = s} {t = t} at first) =
      let below = slice_get_within g.nodes p (form.Expression builders term) at in
      let found = (operators_first g asked facts are (set_at facts.sets.follows p) (asked.follow p) (shows_follow g asked facts are p below)).from s t first in
      let b : Violation ℕ = record { node = p; kind = FollowMeetsOperators found.0 } in
      record {
        kind = FollowMeetsOperators found.0;
        same = ap FollowMeetsOperators (start_is g asked facts are grammar found.0 s found.2);
        noted_there = after_operand_noted p term builders b at
            (in_left (noted_end facts p) (noted_gap (gap_met facts (gaps_meet facts (set_at facts.sets.firsts term)) p) p) b
            (noted_start_has (operators_meet facts (set_at facts.sets.follows p)) p FollowMeetsOperators found.0 found.1));
        below = below;
      }
  violation_noted p what (violates.expression_gap_meets {term = term} {builders = builders} {s = s} at first) =
      let term_below = parts_below g p (form.Expression builders term) 0 term grammar at refl in
      let below = slice_get_within g.nodes p (form.Expression builders term) at in
      let met = gaps_meet facts (set_at facts.sets.firsts term) in
      let begins = gaps_first g asked facts are (set_at facts.sets.firsts term) (asked.first term) (shows_first g asked facts are term term_below) in
      let found = gap_from g asked facts are p below met (asked.first term) begins s first in
      let b : Violation ℕ = record { node = p; kind = GapMeets found.0 } in
      record {
        kind = GapMeets found.0;
        same = ap GapMeets found.2;
        noted_there = after_operand_noted p term builders b at
            (in_right (noted_end facts p) (noted_gap (gap_met facts met p) p) b (noted_start_has (gap_met facts met p) p GapMeets found.0 found.1));
        below = below;
      }
  violation_noted p what (violates.gap_meets {class = class} {s = s} at first) =
      let below = slice_get_within g.nodes p (form.Leaf (leaf.Declare class)) at in
      let found = gap_from g asked facts are p below None BeginsNothing (no_term g asked facts are) s first in
      let b : Violation ℕ = record { node = p; kind = GapMeets found.0 } in
      record {
        kind = GapMeets found.0;
        same = ap GapMeets found.2;
        noted_there = at_form p (form.Leaf (leaf.Declare class)) b at (noted_start_has (gap_met facts None p) p GapMeets found.0 found.1);
        below = below;
      }
  violation_noted p what (violates.step_cost_over {rule} {k} there is over) =
      let test = (are.costly rule.body).1 (record { rule = rule; there = there; body = refl; cost = k; is = is; over = over }) in
      record {
        kind = StepCostOver;
        same = refl;
        noted_there = in_right (noted_node g facts rule.body) (noted (is_costly facts rule.body) rule.body StepCostOver) (record { node = rule.body; kind = StepCostOver })
            (noted_has (is_costly facts rule.body) rule.body StepCostOver test);
        below = all-get (λ one. one.body < length g.nodes) g.rules g.start rule (bodies_are_nodes g.rules g.nodes grammar.bodies) there;
      }
