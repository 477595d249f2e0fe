-- What is noted of a grammar is all that is wrong with it, in order.
use Rattle.std.proofs.Common.{◌≡◌, ℕ, zero, suc, ◌+◌, ◌-◌, ◌<◌, Bool, true, false, List, [], ◌∷◌, ◌++◌, Option, Some, None, map, slice_get, length, refl, sym, ap, subst, inl, inr, arith}
use Rattle.std.specs.Prelude.{◌&&◌, nat_lt, if◌then◌else◌}
use Rattle.std.proofs.Common.{Less}
use Rattle.std.specs.Cmp.Lexicographic.{slice_cmp}
use Rattle.std.specs.Ordering.{nat_cmp}
use Rattle.std.specs.List.{All, Contains}
use Rattle.std.specs.Option.{option_map_or}
use lib.ListN.{get_or}
use Rattle.pg_grammar_value.specs.Grammar.{Grammar, IsGrammar}
use Rattle.pg_grammar_form.specs.Forms.{Node}
use Rattle.pg_grammar_form.specs.declared.form.Form.TheVariants as form
use Rattle.pg_graph_bits.specs.Numbers.{set_at}
use Rattle.pg_grammar_form.specs.declared.used.OperatorBuilders.{OperatorBuilders}
use Rattle.pg_graph.specs.Marks.{is_marked}
use Rattle.pg_sets_own.specs.declared.listed.ListedStart.{ListedStart}
use Rattle.pg_predict_conditions.specs.WithStarts.{kind_with_starts, with_starts}
use Rattle.pg_predict_conditions.specs.Conditions.{NodeFacts, ViolatesBy, IsFaultlessBy, least_facts}
use Rattle.pg_predict.specs.Findings.{AreViolationsBy, AreFindings, finding_of}
use Rattle.pg_grammar_form.specs.declared.form.Leaf.TheVariants as leaf
use Rattle.pg_predict_conditions.specs.Judged.{noted_at, is_costly, Facts, all_starts, operators_meet, gaps_meet, gap_met, noted_start, noted_gap, noted_operand, noted_end, noted_expression, noted, noted_meeting, all_below, part_at, node_meeting, follow_meeting, link_meeting, empty_alternative, empty_alternatives, meeting_alternatives, meetings_of_alternative, alternatives_that_meet, alternative_and_follow, alternatives_and_follow, ends_nullable, noted_choice, noted_form, noted_node, noted_grammar}
use Rattle.pg_predict_conditions.specs.Shown.{AreFacts}
use Rattle.pg_predict_conditions.specs.Violations.{Violation}
use Rattle.pg_predict_conditions.specs.declared.violation.ViolationKind.{ViolationKind}
use Rattle.pg_predict_conditions.specs.declared.violation.ViolationKind.TheVariants.{LeftRecursion, EmptyRound, EmptyAlternative, AlternativesMeet, AlternativeMeetsFollow, RoundMeetsFollow, EmptyOperand, OperandMeetsOperators, FollowMeetsOperators, GapMeets, StepCostOver}
use Rattle.pg_predict_conditions.specs.declared.meetings.Meeting.{Meeting}
use Rattle.pg_predict.specs.Refusals.{IsRefusal, IsRefused, refused_by, findings_noted}
use Rattle.pg_predict.specs.declared.source.Source.{Source}
use Rattle.pg_predict.proofs.Complete.{violation_noted}
use Rattle.pg_predict.proofs.Lists.{In, in_all_below, all_below_has, in_noted, in_noted_meeting, in_noted_start, in_cases, Precedes, Ascends, ascends_append, ascends_below, ascends_noted, ascends_meeting, ascends_start, key_less, key_same, node_precedes, tags_precede, contains_noted, noted_contains, ascends_sorted}
use Rattle.pg_predict.proofs.Sound.{operand_wrong, end_wrong, expression_gap_wrong, after_operand, in_pair, empty_wrong, meet_wrong, follow_wrong, recursion_wrong, standing_wrong, node_wrong, cost_wrong, at_wrong}

-- ---- order within a condition

-- of two that are noted, what is said of them as they are made up
both_are : (x y b c : Violation ℕ) → x ≡ b → y ≡ c → Precedes x y → Precedes b c
both_are x y b c e f is = subst (λ (z : Violation ℕ). Precedes z c) e (subst (λ (z : Violation ℕ). Precedes x z) f is)

later : (j k : ℕ) (xs ys : List ℕ) (p n : ℕ) → j < k → slice_cmp nat_cmp (p ∷ n ∷ (j + 1) ∷ xs) (p ∷ n ∷ (k + 1) ∷ ys) ≡ Less
later j k xs ys p n below =
    key_same p (n ∷ (j + 1) ∷ xs) (n ∷ (k + 1) ∷ ys) (key_same n ((j + 1) ∷ xs) ((k + 1) ∷ ys) (key_less (j + 1) (k + 1) xs ys (omega arith)))

module _ (g : Grammar) (asked : NodeFacts) (facts : Facts) (are : AreFacts g asked facts) (grammar : IsGrammar g) where
  empty_ascends : (p : ℕ) (parts : List ℕ) → Ascends (empty_alternatives facts p parts)
  empty_ascends p parts =
      ascends_below (empty_alternative facts p parts)
      (λ k. ascends_noted (is_marked facts.sets.nullable (part_at parts k)) p (EmptyAlternative (k + 1)))
      (λ j k b c before is_b is_c.
      both_are (record { node = p; kind = EmptyAlternative (j + 1) }) (record { node = p; kind = EmptyAlternative (k + 1) }) b c
      (in_noted (is_marked facts.sets.nullable (part_at parts j)) p (EmptyAlternative (j + 1)) b is_b).1
      (in_noted (is_marked facts.sets.nullable (part_at parts k)) p (EmptyAlternative (k + 1)) c is_c).1 (later j k [] [] p 3 before))
      (length parts - 1)

  pair_ascends : (p : ℕ) (parts : List ℕ) (j k : ℕ) → Ascends (meeting_alternatives facts p parts j k)
  pair_ascends p parts j k = go (nat_lt j k)
    where
      go : (t : Bool) → Ascends
          (if t then noted_meeting (node_meeting facts (part_at parts j) (part_at parts k)) p (AlternativesMeet (j + 1) (k + 1)) else [])
      go true = ascends_meeting (node_meeting facts (part_at parts j) (part_at parts k)) p (AlternativesMeet (j + 1) (k + 1))
      go false = tt

  alternative_ascends : (p : ℕ) (parts : List ℕ) (j : ℕ) → Ascends (meetings_of_alternative facts p parts j)
  alternative_ascends p parts j =
      ascends_below (meeting_alternatives facts p parts j) (pair_ascends p parts j)
      (λ k l b c before is_b is_c.
      let one = (in_pair facts p parts j k b is_b).noted_meeting in
      let other = (in_pair facts p parts j l c is_c).noted_meeting in
      both_are (record { node = p; kind = AlternativesMeet (j + 1) (k + 1) one.meeting.one one.meeting.other })
      (record { node = p; kind = AlternativesMeet (j + 1) (l + 1) other.meeting.one other.meeting.other }) b c one.same other.same
      (key_same p (4 ∷ (j + 1) ∷ (k + 1) ∷ []) (4 ∷ (j + 1) ∷ (l + 1) ∷ [])
      (key_same 4 ((j + 1) ∷ (k + 1) ∷ []) ((j + 1) ∷ (l + 1) ∷ [])
      (key_same (j + 1) ((k + 1) ∷ []) ((l + 1) ∷ []) (key_less (k + 1) (l + 1) [] [] (omega arith))))))
      (length parts)

  meet_ascends : (p : ℕ) (parts : List ℕ) → Ascends (alternatives_that_meet facts p parts)
  meet_ascends p parts =
      ascends_below (meetings_of_alternative facts p parts) (alternative_ascends p parts)
      (λ i j b c before is_b is_c.
      let for_b = in_all_below (meeting_alternatives facts p parts i) (length parts) b is_b in
      let for_c = in_all_below (meeting_alternatives facts p parts j) (length parts) c is_c in
      let one = (in_pair facts p parts i for_b.number b for_b.noted_for).noted_meeting in
      let other = (in_pair facts p parts j for_c.number c for_c.noted_for).noted_meeting in
      both_are (record { node = p; kind = AlternativesMeet (i + 1) (for_b.number + 1) one.meeting.one one.meeting.other })
      (record { node = p; kind = AlternativesMeet (j + 1) (for_c.number + 1) other.meeting.one other.meeting.other }) b c one.same other.same
      (later i j ((for_b.number + 1) ∷ []) ((for_c.number + 1) ∷ []) p 4 before))
      (length parts)

  follow_ascends : (p : ℕ) (parts : List ℕ) → Ascends (alternatives_and_follow facts p parts)
  follow_ascends p parts = go (ends_nullable facts parts)
    where
      go : (t : Bool) → Ascends (if t then all_below (alternative_and_follow facts p parts) (length parts - 1) else [])
      go false = tt
      go true =
          ascends_below (alternative_and_follow facts p parts)
          (λ k. ascends_meeting (follow_meeting facts (part_at parts k) p) p (AlternativeMeetsFollow (k + 1)))
          (λ j k b c before is_b is_c.
          let one = in_noted_meeting (follow_meeting facts (part_at parts j) p) p (AlternativeMeetsFollow (j + 1)) b is_b in
          let other = in_noted_meeting (follow_meeting facts (part_at parts k) p) p (AlternativeMeetsFollow (k + 1)) c is_c in
          both_are (record { node = p; kind = AlternativeMeetsFollow (j + 1) one.meeting.one one.meeting.other })
          (record { node = p; kind = AlternativeMeetsFollow (k + 1) other.meeting.one other.meeting.other }) b c one.same other.same (later j k [] [] p 5 before))
          (length parts - 1)

  -- ---- order at a node

  choice_ascends : (p : ℕ) (parts : List ℕ) → slice_get g.nodes p ≡ Some (form.Choice parts) → Ascends (noted_choice facts p parts)
  choice_ascends p parts at =
      ascends_append (empty_alternatives facts p parts) (alternatives_that_meet facts p parts ++ alternatives_and_follow facts p parts) (empty_ascends p parts)
      (ascends_append (alternatives_that_meet facts p parts) (alternatives_and_follow facts p parts) (meet_ascends p parts) (follow_ascends p parts)
      (λ b c is_b is_c.
      tags_precede p 4 5 b c (omega arith) (meet_wrong g asked facts are grammar p parts b at is_b).tagged (follow_wrong g asked facts are grammar p parts c at is_c).tagged))
      (λ b c is_b is_c.
      let tag_b = (empty_wrong g asked facts are grammar p parts b at is_b).tagged in
      elim (in_cases (alternatives_that_meet facts p parts) (alternatives_and_follow facts p parts) c is_c) [
        | inl meets ↦ tags_precede p 3 4 b c (omega arith) tag_b (meet_wrong g asked facts are grammar p parts c at meets).tagged
        | inr follows ↦ tags_precede p 3 5 b c (omega arith) tag_b (follow_wrong g asked facts are grammar p parts c at follows).tagged
      ])

  -- an empty round, and then a meeting
  round_ascends : (p : ℕ) (t : Bool) (o : Option Meeting) → Ascends (noted t p EmptyRound ++ noted_meeting o p RoundMeetsFollow)
  round_ascends p t o =
      ascends_append (noted t p EmptyRound) (noted_meeting o p RoundMeetsFollow) (ascends_noted t p EmptyRound)
      (ascends_meeting o p RoundMeetsFollow)
      (λ b c is_b is_c.
      let other = in_noted_meeting o p RoundMeetsFollow c is_c in
      both_are (record { node = p; kind = EmptyRound }) (record { node = p; kind = RoundMeetsFollow other.meeting.one other.meeting.other }) b c
      (in_noted t p EmptyRound b is_b).1 other.same (key_same p (2 ∷ []) (6 ∷ []) (key_less 2 6 [] [] (omega arith))))

  -- that an operand can be empty, and then what it meets
  operand_ascends : (p term : ℕ) → Ascends (noted_operand facts p term)
  operand_ascends p term =
      let empty = is_marked facts.sets.nullable term in
      let met = operators_meet facts (set_at facts.sets.firsts term) in
      ascends_append (noted empty p EmptyOperand) (noted_start met p OperandMeetsOperators) (ascends_noted empty p EmptyOperand) (ascends_start met p OperandMeetsOperators)
      (λ b c is_b is_c.
      let other = in_noted_start met p OperandMeetsOperators c is_c in
      both_are (record { node = p; kind = EmptyOperand }) (record { node = p; kind = OperandMeetsOperators other.start }) b c (in_noted empty p EmptyOperand b is_b).1 other.same
      (key_same p (7 ∷ 1 ∷ []) (7 ∷ 2 ∷ []) (key_same 7 (1 ∷ []) (2 ∷ []) (key_less 1 2 [] [] (omega arith)))))

  expression_ascends : (p term : ℕ) (builders : OperatorBuilders) → slice_get g.nodes p ≡ Some (form.Expression builders term) → Ascends (noted_expression facts p term)
  expression_ascends p term builders at =
      let gap = noted_gap (gap_met facts (gaps_meet facts (set_at facts.sets.firsts term)) p) p in
      ascends_append (noted_operand facts p term) (noted_end facts p ++ gap) (operand_ascends p term)
      (ascends_append (noted_end facts p) gap (ascends_start (operators_meet facts (set_at facts.sets.follows p)) p FollowMeetsOperators)
      (ascends_start (gap_met facts (gaps_meet facts (set_at facts.sets.firsts term)) p) p GapMeets)
      (λ b c is_b is_c.
      tags_precede p 8 9 b c (omega arith) (end_wrong g asked facts are grammar p term builders b at is_b).tagged (expression_gap_wrong g asked facts are grammar p term builders c at is_c).tagged))
      (λ b c is_b is_c.
      let tag_b = (operand_wrong g asked facts are grammar p term builders b at is_b).tagged in
      elim (after_operand g asked facts are grammar p term builders c at is_c) [
        | inl end ↦ tags_precede p 7 8 b c (omega arith) tag_b end.tagged
        | inr gap ↦ tags_precede p 7 9 b c (omega arith) tag_b gap.tagged
      ])

  form_ascends : (p : ℕ) (n : Node) → slice_get g.nodes p ≡ Some n → Ascends (noted_form facts p n)
  form_ascends p (form.Choice parts) at = choice_ascends p parts at
  form_ascends p (form.Many part) at = round_ascends p (is_marked facts.sets.nullable part) (follow_meeting facts part p)
  form_ascends p (form.Chain side used operand separator) at =
      round_ascends p (is_marked facts.sets.nullable separator && is_marked facts.sets.nullable operand) (link_meeting facts operand separator p)
  form_ascends p (form.Expression builders term) at = expression_ascends p term builders at
  form_ascends p (form.Leaf (leaf.Declare class)) at = ascends_start (gap_met facts None p) p GapMeets
  form_ascends p n at = tt

  standing_ascends : (p : ℕ) → Ascends (option_map_or (noted_form facts p) (slice_get g.nodes p) [])
  standing_ascends p = go (slice_get g.nodes p) refl
    where
      go : (o : Option Node) → slice_get g.nodes p ≡ o → Ascends (option_map_or (noted_form facts p) o [])
      go (Some n) e = form_ascends p n e
      go None e = tt

  node_ascends : (p : ℕ) → Ascends (noted_node g facts p)
  node_ascends p =
      ascends_append (noted (is_marked facts.recursive p) p LeftRecursion) (option_map_or (noted_form facts p) (slice_get g.nodes p) [])
      (ascends_noted (is_marked facts.recursive p) p LeftRecursion) (standing_ascends p)
      (λ b c is_b is_c.
      let other = standing_wrong g asked facts are grammar p c is_c in
      tags_precede p 1 other.number b c other.above (recursion_wrong g asked facts are grammar p b is_b).tagged other.wrong.tagged)

  pub at_ascends : (p : ℕ) → Ascends (noted_at g facts p)
  at_ascends p =
      ascends_append (noted_node g facts p) (noted (is_costly facts p) p StepCostOver) (node_ascends p) (ascends_noted (is_costly facts p) p StepCostOver)
      (λ b c is_b is_c.
      let one = node_wrong g asked facts are grammar p b is_b in
      tags_precede p one.number 11 b c one.below one.wrong.tagged (cost_wrong g asked facts are grammar p c is_c).tagged)

  grammar_ascends : Ascends (noted_grammar g facts)
  grammar_ascends =
      ascends_below (noted_at g facts) at_ascends
      (λ j k b c before is_b is_c.
      let node_b = (at_wrong g asked facts are grammar j b is_b).1.tagged.node in
      let node_c = (at_wrong g asked facts are grammar k c is_c).1.tagged.node in
      node_precedes b c (omega arith))
      (length g.nodes)

  -- ---- the whole

  violation_wrong : (b : Violation ℕ) → In (noted_grammar g facts) b → ViolatesBy g asked b.node (kind_with_starts (all_starts facts) b.kind)
  violation_wrong b is =
      let for = in_all_below (noted_at g facts) (length g.nodes) b is in
      let wrong = (at_wrong g asked facts are grammar for.number b for.noted_for).1 in
      subst (λ (p : ℕ). ViolatesBy g asked p (kind_with_starts (all_starts facts) b.kind)) (sym wrong.tagged.node) wrong.violates

  pub are_violations : AreViolationsBy g asked (map (with_starts (all_starts facts)) (noted_grammar g facts))
  are_violations = record {
    ordered = ascends_sorted (all_starts facts) (noted_grammar g facts) grammar_ascends;
    members = λ v. (
      λ h.
          let noted = noted_contains (all_starts facts) (noted_grammar g facts) v h in
          subst (λ (w : Violation ListedStart). ViolatesBy g asked w.node w.kind) noted.same (violation_wrong noted.violation noted.there),
      λ is.
          let noted = violation_noted g asked facts are grammar v.node v.kind is in
          let b : Violation ℕ = record { node = v.node; kind = noted.kind } in
          let there = contains_noted (all_starts facts) (noted_grammar g facts) b (all_below_has (noted_at g facts) (length g.nodes) v.node b noted.below noted.noted_there) in
          subst (λ (w : Violation ListedStart). Contains (map (with_starts (all_starts facts)) (noted_grammar g facts)) w) (ap (λ (c : ViolationKind ListedStart). record v { kind = c }) noted.same) there,
    );
  }

  violation_below : (b : Violation ℕ) → In (noted_grammar g facts) b → b.node < 8192
  violation_below b is =
      let for = in_all_below (noted_at g facts) (length g.nodes) b is in
      let node = (at_wrong g asked facts are grammar for.number b for.noted_for).1.tagged.node in
      let below = for.below in
      let few = grammar.few_nodes in
      omega arith

  pub violations_below : All (λ b. b.node < 8192) (noted_grammar g facts)
  violations_below = λ k d below. violation_below (get_or (noted_grammar g facts) k d) (there (noted_grammar g facts) k d below)
    where
      there : (bs : List (Violation ℕ)) (k : ℕ) (d : Violation ℕ) → k < length bs → In bs (get_or bs k d)
      there [] k d below = absurd (omega arith)
      there (x ∷ xs) zero d below = inl refl
      there (x ∷ xs) (suc k) d below = inr (there xs k d (omega arith))

  -- where nothing is noted, nothing is wrong
  pub faultless : noted_grammar g facts ≡ [] → IsFaultlessBy g asked
  faultless none p kind is =
      let there = (are_violations.members (record { node = p; kind = kind })).1 is in
      nowhere (subst (λ (bs : List (Violation ℕ)). Contains (map (with_starts (all_starts facts)) bs) (record { node = p; kind = kind })) none there)
    where
      nowhere : Contains {X = Violation ListedStart} [] (record { node = p; kind = kind }) → ⊥
      nowhere (k, below, at) = absurd (omega arith)

-- ---- findings

pub are_findings : (g : Grammar) (facts : Facts) → AreFacts g (least_facts g) facts → IsGrammar g → AreFindings g (findings_noted g facts)
are_findings g facts are grammar = record {
  violations = map (with_starts (all_starts facts)) (noted_grammar g facts);
  all = are_violations g (least_facts g) facts are grammar;
  says = refl;
}

-- ---- refusals

-- what is said of a grammar in which something is noted
pub refusal_is : (source : Source) → IsRefusal source → IsRefused source.grammar (refused_by source)
refusal_is source is = record {
  same = refl;
  sets = is.is_source.facts.sets;
  findings = are_findings source.grammar source.judge is.is_source.facts is.is_source.grammar;
  violations = are_violations source.grammar (least_facts source.grammar) source.judge is.is_source.facts is.is_source.grammar;
  some = some_said (noted_grammar source.grammar source.judge) is.any;
}
  where
    some_said : (bs : List (Violation ℕ)) → 0 < length bs → 0 < length (map (finding_of source.grammar) (map (with_starts (all_starts source.judge)) bs))
    some_said [] h = absurd (omega arith)
    some_said (b ∷ bs) h = omega arith
