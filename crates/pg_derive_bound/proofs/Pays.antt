-- Each answer of a predictive grammar pays for the nodes that it enters.
use Rattle.std.proofs.Common.{◌≡◌, ◌<◌, ◌≤◌, ◌+◌, ◌-◌, ℕ, zero, suc, List, [], ◌∷◌, ◌++◌, Bool, true, false, ◌||◌, refl, subst, length, Some, slice_get, arith}
use Rattle.std.specs.Prelude.{Option}
use Rattle.std.specs.List.{AllByRecursion}
use Rattle.pg_tree.specs.Trees.{Tree}
use Rattle.pg_tree.specs.declared.shape.Shape.{Shape}
use Rattle.pg_grammar_form.specs.Forms.{Node}
use Rattle.pg_grammar_form.specs.declared.side.Side.{Side}
use Rattle.pg_grammar_form.specs.declared.decl.Role.TheVariants.{InfixLeft, InfixRight, InfixNone}
use Rattle.pg_grammar_form.specs.declared.operators_item.OperatorsItem.{OperatorsItem}
use Rattle.pg_grammar_form.specs.declared.used.OperatorBuilders.{OperatorBuilders}
use Rattle.pg_grammar_value.specs.declared.trail.TrailItem.{TrailItem}
use Rattle.pg_grammar_value.specs.declared.trail.TrailItem.TheVariants.{Rounds, Ops}
use Rattle.pg_grammar_value.specs.declared.trail.Fixity.TheVariants as fixity
use Rattle.pg_expand.specs.declared.rows.Row.{Row}
use Rattle.pg_expand.proofs.RowTrees.{IsRow}
use Rattle.pg_predict_costs.specs.Steps.{steps_of_all, leaf_steps, row_steps}
use Rattle.pg_predict_costs.proofs.Sizing.{leaf_positive}
use Rattle.pg_language.specs.Answers as answers
use Rattle.pg_language.specs.Answers.{Given, Answers, entered, AnswersForm, nothing, seq, choice, many, rule, AnswersParts, part, AfterPart, part_last, part_failed, part_stuck, part_ok, AnswersAlternatives, no_alternative, alternative, AfterAlternative, alternative_consumed, alternative_stands, alternative_waits, alternative_commits, alternative_failed, alternative_stuck, AnswersRounds, round, AfterRound, round_ended, round_failed, round_empty, round_stuck, round_ok, AnswersChain, first_operand, AfterFirst, first_failed, first_stuck, first_ok, AnswersLinks, link, AfterSeparator, separator_failed, separator_stuck, separator_ok, AfterOperand, operand_failed, operand_stuck, operand_ok, AnswersRows, only_term, loosest_row, AnswersRowOperand, row_operand, AfterRowOperand, row_failed, row_stuck, row_ok, AnswersTail, row_tail, AfterRight, right_stands, right_commits, right_stuck, right_failed, AfterLeft, left_stands, left_commits, left_stuck, left_failed, AnswersRight, right_side, AfterRightOperator, right_unread, right_read, AfterRightOperand, right_operand_failed, right_operand_stuck, right_operand_ok, AnswersLeft, left_side, AfterLeftOperator, left_unread, left_read, AfterLeftOperand, left_operand_failed, left_operand_stuck, left_operand_ok, AnswersNon, neither_side, AfterNonOperator, non_unread, non_read}
use Rattle.pg_language.specs.Derives.{Spot, applied}
use Rattle.pg_language.specs.Errors.{Error, merge}
use Rattle.pg_language.specs.OperatorReads.{Read, read_at}
use Rattle.pg_language.specs.Outcomes.{Outcome, ok, failed, empty_round}
use Rattle.pg_language.specs.Reactions.{error_after}
use Rattle.pg_language.specs.RowReactions.{Setting, with_last, ambiguous_left, ambiguous_right, ambiguous_non}
use Rattle.pg_language.specs.declared.reading.Reading.TheVariants.{Library}
use Rattle.pg_derive.specs.ClosedSets.{NodeSets, PartsFollowed}
use Rattle.pg_derive.specs.Predictive.{ExpressionIsPredictive, AlternativesArePredictive, ManyIsPredictive, ChainIsPredictive, IsPredictiveAt}
use Rattle.pg_derive.specs.PredictiveLaws.{Predicts}
use Rattle.pg_derive.proofs.OperatorsOfTables.{proper_table}
use Rattle.pg_derive.proofs.Quiet.{IsWhole}
use Rattle.pg_derive.proofs.Whole.{is_whole}
use Rattle.pg_derive.proofs.WholeRows.{AreAllLevels, level, all_levels}
use Rattle.pg_derive_bound.proofs.Around.{any_around}
use Rattle.pg_derive_bound.proofs.Enters.{not_failed, enters_seq, enters_choice, enters_many, enters_chain, enters_rule, enters_expression}
use Rattle.pg_derive_bound.proofs.RowEnds.{At, row_ends, operand_ends, operator_ends, applied_operator_ends, non_ends, ambiguous_ends, failure_ends as row_failure_ends, at_failure, at_noted, at_row, at_operand, at_operator, at_applied_operator, at_ambiguous, at_non}
use Rattle.pg_derive_bound.proofs.RowSteps.{Over, PaidOperand, PaidTail, PaidInfix, reads, after_prefix, paid_term, paid_row_operand, paid_ambiguous, paid_stretch, unread, paid_infix, paid_return, paid_stands, paid_else}
use Rattle.pg_derive_bound.proofs.Charges.{Charges}
use Rattle.pg_derive_bound.proofs.LeavesInside.{fails_inside}
use Rattle.pg_derive_bound.proofs.Nodes as nodes
use Rattle.pg_derive_bound.proofs.Nodes.{IsSpot, by_few, ends_at_spot}
use Rattle.pg_derive_bound.proofs.Paid as paid
use Rattle.pg_derive_bound.proofs.Paid.{End, end_of, joined, returned, Fare, Paid}
use Rattle.pg_derive_bound.proofs.Parts.{Climbs, climbs_anywhere, climbs_fall, AreLow, PaidParts, PaidAlternatives, spare, spare_most, spare_room, paid_last, paid_failed, paid_rest, paid_alternative, paid_others, rest_ends, failure_ends}
use Rattle.pg_derive_bound.proofs.Repeats.{PaidRounds, PaidLink, PaidLinks, PaidChain, paid_round_failed, paid_rounds, paid_no_separator, paid_link, paid_link_failed, paid_links, paid_no_operand, paid_chain, round_ends, noted_ends, begun_ends, linked_ends}

module _ (G : Given) (sets : NodeSets) (h : Predicts G sets) (c : Charges G.grammar sets) (library : G.reading ≡ Library) where
  abbrev PaidNode : ℕ → ℕ → End → ℕ → Type 0
  PaidNode p i z m = nodes.PaidNode G sets h c p i z m

  abbrev Is : Spot → Type 0
  Is a = IsSpot G sets h a

  whole : IsWhole G.grammar
  whole = is_whole G.grammar h.grammar

  all_low : (qs : List ℕ) → AllByRecursion (λ q. q < length G.grammar.nodes) qs → AreLow G sets h c qs
  all_low [] inside = tt
  all_low (q ∷ qs) inside = (c.low q inside.0, all_low qs inside.1)

  recounted : {f : Fare} {E B : Type 0} {A : ℕ → Type 0} {cost toll i : ℕ} {z : End} {m n : ℕ} → m ≡ n → Paid f E B A cost toll i z m → Paid f E B A cost toll i z n
  recounted {f} {E} {B} {A} {cost} {toll} {i} {z} e x = subst (λ m. Paid f E B A cost toll i z m) e x

  one_item : (p q : ℕ) (item : OperatorsItem) (f : ExpressionIsPredictive G.grammar sets p q) → G.grammar.operators ≡ Some item → f.item ≡ item
  one_item p q item f named = let known = f.named in cc

  -- the expression, as its rows are run over it
  abbrev over_rows : (p q : ℕ) (builders : OperatorBuilders) (item : OperatorsItem) (a : Spot) → G.grammar.operators ≡ Some item → ExpressionIsPredictive G.grammar sets p q → Is a → q < length G.grammar.nodes → c.size q ≤ c.share →
      Over G sets h c p (record { item = item; builders = builders; term = q })
  over_rows p q builders item a named f is inside small =
      record { table = a.table; comes = is.1; fits = f; item = one_item p q item f named; low = c.low q inside; small = small }

  at_node : {p : ℕ} {a : Spot} {o : Outcome} {m : ℕ} → Answers G p a o m → Is a → At Is o
  at_node {o = ok d b v t e} run is = ends_at_spot G sets h run is
  at_node {o = failed d e} run is = tt
  at_node {o = empty_round} run is = tt

  -- what is claimed of the parsers of rows
  abbrev Operand : ℕ → ℕ → ℕ → Outcome → ℕ → Type 0
  Operand p q i o m = PaidOperand G sets h c p q i (end_of o) m × At Is o

  abbrev Tail : ℕ → ℕ → Outcome → ℕ → Type 0
  Tail q i o m = PaidTail G sets h c q i (end_of o) m × At Is o

  abbrev Infix : ℕ → ℕ → Outcome → ℕ → Type 0
  Infix q i o m = PaidInfix G sets h c q i (end_of o) m × At Is o

  mutual
    pub pays : {p : ℕ} {a : Spot} {o : Outcome} {m : ℕ} → Answers G p a o m → Is a → c.size p ≤ c.share → PaidNode p a.place (end_of o) m
    pays (entered {p = p} {n = n} e d) is small = pays_form d p e (h.predictive.nodes p n e) is small

    pays_form : {n : Node} {a : Spot} {o : Outcome} {m : ℕ} → AnswersForm G n a o m → (p : ℕ) → slice_get G.grammar.nodes p ≡ Some n → IsPredictiveAt G.grammar sets p n → Is a → c.size p ≤ c.share →
        PaidNode p a.place (end_of o) (suc m)
    pays_form (answers.leaf {l = l} {a = a} {o = o} x) p e f is small =
        let cost : c.cost p ≡ leaf_steps l = c.costs p _ e in
        let least = leaf_positive l in
        by_few G sets h c (entered e (answers.leaf x)) is (omega arith) (fails_inside G.grammar G.text l a o x)
    pays_form nothing p e f is small = let cost : c.cost p ≡ 2 + 0 = c.costs p _ e in by_few G sets h c (entered e nothing) is (omega arith) (λ x same. absurd (not_failed same))
    pays_form (seq {p = q} {m = m} {ps = qs} {a = a} {o = o} d) p e f is small =
        let size : c.size p ≡ 2 + steps_of_all c.size (q ∷ qs) = c.sizes p _ e in
        enters_seq G sets h c p q qs a.place (end_of o) m e f
        (pays_parts d p (c.climb p) (climbs_fall sets c.climb (sets.level p) (c.climb p) (q ∷ qs) (λ r l. (let falls = c.falls p r _ e l in omega arith)) f.falls) f.follow (all_low (q ∷ qs) (whole.parts p _ e)) (omega arith) is)
    pays_form (choice {ps = qs} {m = m} {a = a} {o = o} d) p e f is small =
        let size : c.size p ≡ 2 + steps_of_all c.size qs = c.sizes p _ e in
        enters_choice G sets h c p qs a.place (end_of o) m e f (pays_alternatives d p f (all_low qs (whole.parts p _ e)) (omega arith) (λ r l. (let falls = c.falls p r _ e l in omega arith)) is)
    pays_form (many {p = q} {k = k} {m = m} {a = a} {o = o} d) p e f is small =
        let size : c.size p ≡ 2 + steps_of_all c.size (q ∷ []) = c.sizes p _ e in
        subst (λ z. PaidNode p a.place z (suc m)) (noted_ends (Rounds k) o) (enters_many G sets h c p q a.place (end_of o) m e f (pays_rounds d p f (c.low q (whole.parts p _ e).0) (omega arith) is))
    pays_form (answers.chain {side = side} {used = used} {p = q} {s = r} {k = k} {m = m} {a = a} {o = o} d) p e f is small =
        let size : c.size p ≡ 2 + steps_of_all c.size (q ∷ r ∷ []) = c.sizes p _ e in
        let there = whole.parts p _ e in
        let climb = c.falls p q _ e f.falls.0 in
        let room = c.room p in
        subst (λ z. PaidNode p a.place z (suc m)) (noted_ends (Rounds k) o)
        (enters_chain G sets h c p q r side used a.place (end_of o) m e
        (pays_chain d p (c.climb p - (c.share + c.share)) f (c.low q there.0) (c.low r there.1.0) (omega arith) (omega arith) (omega arith)
        (λ empty. climbs_fall sets c.climb (sets.level p) (c.climb p - (c.share + c.share)) (r ∷ q ∷ []) (λ x l. (let falls = c.falls p x _ e l in omega arith)) (f.falls.1 empty)) is))
    pays_form (rule {r = r} {m = m} {named = named} {a = a} {o = o} at d) p e f is small =
        enters_rule G sets h c p r named a.place (end_of o) m e at (f.body named at) (pays d is (c.bodies r named at))
    pays_form (answers.expression {item = item} {builders = builders} {p = q} {m = m} {a = a} {o = o} named d) p e f is small =
        let size : c.size p ≡ 2 + (row_steps G.grammar + c.cost q) + steps_of_all c.size (q ∷ []) = c.sizes p _ e in
        let over = over_rows p q builders item a named f is (whole.parts p _ e).0 (omega arith) in
        enters_expression G sets h c p q builders a.place (end_of o) m e f (pays_rows d p over _ (all_levels a.table.operators (proper_table G.grammar a.table whole.initials is.1)) is).0
    pays_form (answers.around {k = k} {p = q} {m = m} {a = a} {o = o} d) p e f is small =
        let size : c.size p ≡ 2 + steps_of_all c.size (q ∷ []) = c.sizes p _ e in
        any_around G sets h c p q k a o m e f is d (pays d is (omega arith))

    -- ---- sequences

    pays_parts : {q : ℕ} {qs : List ℕ} {a : Spot} {o : Outcome} {m : ℕ} → AnswersParts G q qs a o m → (p w : ℕ) → Climbs sets c.climb w (q ∷ qs) → PartsFollowed sets (sets.follow p) (q ∷ qs) → AreLow G sets h c (q ∷ qs) →
        steps_of_all c.size (q ∷ qs) ≤ c.share → Is a → PaidParts G sets h c p w (q ∷ qs) a.place (end_of o) m
    pays_parts (part {p = q} {m = m} {a = a} d r) p w climbs followed low small is = pays_after_part r p w q a m climbs followed low small d (pays d is (omega arith)) is

    pays_after_part : {qs : List ℕ} {x o : Outcome} {n : ℕ} → AfterPart G qs x o n → (p w q : ℕ) (a : Spot) (m : ℕ) → Climbs sets c.climb w (q ∷ qs) → PartsFollowed sets (sets.follow p) (q ∷ qs) → AreLow G sets h c (q ∷ qs) →
        steps_of_all c.size (q ∷ qs) ≤ c.share → Answers G q a x m → PaidNode q a.place (end_of x) m → Is a → PaidParts G sets h c p w (q ∷ qs) a.place (end_of o) (m + n)
    pays_after_part (part_last {x = x}) p w q a m climbs followed low small d y is = paid_last G sets h c p w q a.place (end_of x) m climbs followed y
    pays_after_part (part_failed {q = r} {ps = rs} {c = x}) p w q a m climbs followed low small d y is = paid_failed G sets h c p w q (r ∷ rs) a.place x m climbs y
    pays_after_part part_stuck p w q a m climbs followed low small d y is = paid.stuck
    pays_after_part (part_ok {q = r} {m = n} {ps = rs} {c = x} {b = b} {v = v} {t = t} {e = e} {o = o} rest) p w q a m climbs followed low small d y is =
        let there = ends_at_spot G sets h d is in
        subst (λ z. PaidParts G sets h c p w (q ∷ r ∷ rs) a.place z (m + n)) (rest_ends x v t e o)
        (paid_rest G sets h c p w q r rs a.place b.place m x (end_of o) n climbs followed low small y
        (λ empty. pays_parts rest p w (climbs.1 empty) followed.2 low.1 (omega arith) there)
        (pays_parts rest p (spare G sets h c) (climbs_anywhere sets c.climb (spare G sets h c) (r ∷ rs) (spare_most G sets h c)) followed.2 low.1 (omega arith) there))

    -- ---- choices

    pays_alternatives : {k : ℕ} {qs : List ℕ} {a : Spot} {o : Outcome} {m : ℕ} → AnswersAlternatives G k qs a o m → (p : ℕ) → AlternativesArePredictive sets p qs → AreLow G sets h c qs → steps_of_all c.size qs ≤ c.share →
        ((q : ℕ) → sets.level q < sets.level p → c.climb q ≤ c.climb p) → Is a → PaidAlternatives G sets h c p qs a.place (end_of o) m
    pays_alternatives no_alternative p f low small up is = paid.refuses (omega arith)
    pays_alternatives (alternative {p = q} {m = m} d r) p f low small up is = pays_after_alternative r p q m f low small up is (pays d is (omega arith))

    pays_after_alternative : {k : ℕ} {qs : List ℕ} {a : Spot} {x o : Outcome} {n : ℕ} → AfterAlternative G k qs a x o n → (p q m : ℕ) → AlternativesArePredictive sets p (q ∷ qs) → AreLow G sets h c (q ∷ qs) →
        steps_of_all c.size (q ∷ qs) ≤ c.share → ((q : ℕ) → sets.level q < sets.level p → c.climb q ≤ c.climb p) → Is a → PaidNode q a.place (end_of x) m → PaidAlternatives G sets h c p (q ∷ qs) a.place (end_of o) (m + n)
    pays_after_alternative (alternative_consumed {ps = qs} {a = a} {b = b}) p q m f low small up is y = paid_alternative G sets h c p q qs a.place (paid.ends true b.place) m f.0 (up q f.0.falls) y
    pays_after_alternative (alternative_stands {ps = qs} {a = a} {b = b} e) p q m f low small up is y = paid_alternative G sets h c p q qs a.place (paid.ends false b.place) m f.0 (up q f.0.falls) y
    pays_after_alternative (alternative_waits e d) p q m f low small up is y = let known = library in absurd cc
    pays_after_alternative (alternative_commits {ps = qs} {a = a}) p q m f low small up is y = paid_alternative G sets h c p q qs a.place (paid.stops true) m f.0 (up q f.0.falls) y
    pays_after_alternative (alternative_failed {m = n} {ps = qs} {a = a} {e = e} {o = o} d) p q m f low small up is y =
        subst (λ z. PaidAlternatives G sets h c p (q ∷ qs) a.place z (m + n)) (failure_ends e o)
        (paid_others G sets h c p q qs a.place (end_of o) m n f.1 (up q f.0.falls) low y (pays_alternatives d p f.2 low.1 (omega arith) up is))
    pays_after_alternative alternative_stuck p q m f low small up is y = paid.stuck

    -- ---- repetitions

    pays_rounds : {q k : ℕ} {a : Spot} {o : Outcome} {m : ℕ} → AnswersRounds G q k a o m → (p : ℕ) → ManyIsPredictive sets p q → c.cost q ≤ c.size q → c.size q ≤ c.share → Is a → PaidRounds G sets h c p q a.place (end_of o) m
    pays_rounds (round {m = m} d r) p f low small is = pays_after_round r p m f low small is d (pays d is small)

    pays_after_round : {q k : ℕ} {a : Spot} {x o : Outcome} {n : ℕ} → AfterRound G q k a x o n → (p m : ℕ) → ManyIsPredictive sets p q → c.cost q ≤ c.size q → c.size q ≤ c.share → Is a → Answers G q a x m →
        PaidNode q a.place (end_of x) m → PaidRounds G sets h c p q a.place (end_of o) (m + n)
    pays_after_round (round_ended {p = q} {a = a}) p m f low small is d y = paid_round_failed G sets h c p q a.place false m f y
    pays_after_round (round_failed {p = q} {a = a}) p m f low small is d y = paid_round_failed G sets h c p q a.place true m f y
    pays_after_round round_empty p m f low small is d y = paid.stuck
    pays_after_round round_stuck p m f low small is d y = paid.stuck
    pays_after_round (round_ok {p = q} {m = n} {a = a} {b = b} {v = v} {t = t} {o = o} rest) p m f low small is d y =
        subst (λ z. PaidRounds G sets h c p q a.place z (m + n)) (round_ends v t o)
        (paid_rounds G sets h c p q a.place b.place true m (end_of o) n f (omega arith) small y (pays_rounds rest p f low small (ends_at_spot G sets h d is)))

    -- ---- chains

    pays_chain : {side : Side} {shape : Shape} {q r k : ℕ} {a : Spot} {o : Outcome} {m : ℕ} → AnswersChain G side shape q r k a o m → (p w : ℕ) → ChainIsPredictive sets p q r → c.cost q ≤ c.size q → c.cost r ≤ c.size r →
        steps_of_all c.size (r ∷ q ∷ []) ≤ c.share → c.climb q + c.share ≤ c.climb p → w + c.share + c.share ≤ c.climb p → (sets.nullable q ≡ true → Climbs sets c.climb w (r ∷ q ∷ [])) → Is a →
        PaidChain G sets h c p q r a.place (end_of o) m
    pays_chain (first_operand {m = m} {a = a} d r) p w f low_q low_r small up over climbs is = pays_after_first r p w a m f low_q low_r small up over climbs is d (pays d is (omega arith))

    pays_after_first : {side : Side} {shape : Shape} {q r k : ℕ} {x o : Outcome} {n : ℕ} → AfterFirst G side shape q r k x o n → (p w : ℕ) (a : Spot) (m : ℕ) → ChainIsPredictive sets p q r → c.cost q ≤ c.size q →
        c.cost r ≤ c.size r → steps_of_all c.size (r ∷ q ∷ []) ≤ c.share → c.climb q + c.share ≤ c.climb p → w + c.share + c.share ≤ c.climb p → (sets.nullable q ≡ true → Climbs sets c.climb w (r ∷ q ∷ [])) → Is a →
        Answers G q a x m → PaidNode q a.place (end_of x) m → PaidChain G sets h c p q r a.place (end_of o) (m + n)
    pays_after_first (first_failed {p = q} {s = r} {c = x}) p w a m f low_q low_r small up over climbs is d y = paid_no_operand G sets h c p q r a.place x m f (omega arith) y
    pays_after_first first_stuck p w a m f low_q low_r small up over climbs is d y = paid.stuck
    pays_after_first (first_ok {p = q} {s = r} {m = n} {c = x} {b = b} {t = t} {e = e} {o = o} rest) p w a m f low_q low_r small up over climbs is d y =
        let there = ends_at_spot G sets h d is in
        let room = c.room p in
        subst (λ z. PaidChain G sets h c p q r a.place z (m + n)) (rest_ends x [] t e o)
        (paid_chain G sets h c p q r w a.place b.place x m (end_of o) n f low_q low_r small up over y
        (λ empty. pays_links rest p w f (climbs empty) low_q low_r small (omega arith) there)
        (pays_links rest p (spare G sets h c) f (climbs_anywhere sets c.climb (spare G sets h c) (r ∷ q ∷ []) (spare_most G sets h c)) low_q low_r small (spare_room G sets h c p) there))

    pays_links : {side : Side} {shape : Shape} {q r : ℕ} {left : List Tree} {k : ℕ} {a : Spot} {o : Outcome} {m : ℕ} → AnswersLinks G side shape q r left k a o m → (p w : ℕ) → ChainIsPredictive sets p q r →
        Climbs sets c.climb w (r ∷ q ∷ []) → c.cost q ≤ c.size q → c.cost r ≤ c.size r → steps_of_all c.size (r ∷ q ∷ []) ≤ c.share → w + c.share ≤ c.rate → Is a → PaidLinks G sets h c p q r w a.place (end_of o) m
    pays_links (link {m = m} d x) p w f climbs low_q low_r small room is = pays_after_separator x p w m f climbs low_q low_r small room is d (pays d is (omega arith))

    pays_after_separator : {side : Side} {shape : Shape} {q r : ℕ} {left : List Tree} {k : ℕ} {a : Spot} {x o : Outcome} {n : ℕ} → AfterSeparator G side shape q r left k a x o n → (p w m : ℕ) → ChainIsPredictive sets p q r →
        Climbs sets c.climb w (r ∷ q ∷ []) → c.cost q ≤ c.size q → c.cost r ≤ c.size r → steps_of_all c.size (r ∷ q ∷ []) ≤ c.share → w + c.share ≤ c.rate → Is a → Answers G r a x m → PaidNode r a.place (end_of x) m →
        PaidLinks G sets h c p q r w a.place (end_of o) (m + n)
    pays_after_separator (separator_failed {p = q} {s = r} {left = left} {a = a} {c = x} {e = e}) p w m f climbs low_q low_r small room is d y =
        subst (λ z. PaidLinks G sets h c p q r w a.place z (m + zero)) (begun_ends x a left e)
        (paid_link_failed G sets h c p q r w a.place x (m + zero) f (paid_no_separator G sets h c p q r w a.place x m climbs y))
    pays_after_separator separator_stuck p w m f climbs low_q low_r small room is d y = paid.stuck
    pays_after_separator (separator_ok {p = q} {s = r} {m = n} {n = n'} {a = a} {b = b} {c = x} {x = z} operand after) p w m f climbs low_q low_r small room is d y =
        let there = ends_at_spot G sets h d is in
        let paid_operand = pays operand there (omega arith) in
        let joint : (m + n) + n' ≡ m + (n + n') = omega arith in
        recounted joint (pays_after_operand after p w b (m + n) f climbs low_q low_r small room there operand
        (paid_link G sets h c p q r w a.place b.place x m (end_of z) n f climbs low_q low_r y paid_operand))

    pays_after_operand : {side : Side} {shape : Shape} {q r : ℕ} {left : List Tree} {k : ℕ} {a : Spot} {x : Bool} {v : List Tree} {t : List TrailItem} {e : Error} {y o : Outcome} {n l : ℕ} →
        AfterOperand G side shape q r left k a x v t e y o n → (p w : ℕ) (b : Spot) (m : ℕ) → ChainIsPredictive sets p q r → Climbs sets c.climb w (r ∷ q ∷ []) → c.cost q ≤ c.size q → c.cost r ≤ c.size r →
        steps_of_all c.size (r ∷ q ∷ []) ≤ c.share → w + c.share ≤ c.rate → Is b → Answers G q b y l → PaidLink G sets h c p q r w a.place (joined x (end_of y)) m → PaidLinks G sets h c p q r w a.place (end_of o) (m + n)
    pays_after_operand (operand_failed {p = q} {s = r} {left = left} {a = a} {c = x} {d = d} {e = e} {f = g}) p w b m f climbs low_q low_r small room is run y =
        let same : m ≡ m + zero = omega arith in
        recounted same (subst (λ z. PaidLinks G sets h c p q r w a.place z m) (begun_ends (x || d) a left (error_after d e g)) (paid_link_failed G sets h c p q r w a.place (x || d) m f y))
    pays_after_operand operand_stuck p w b m f climbs low_q low_r small room is run y = paid.stuck
    pays_after_operand (operand_ok {side = side} {shape = shape} {p = q} {s = r} {m = n} {left = left} {v = v} {w = forest} {a = a} {b = z} {c = x} {d = d} {t = t} {u = u} {e = e} {f = g} {o = o} moves rest) p w b m f climbs low_q low_r small room is run y =
        subst (λ z. PaidLinks G sets h c p q r w a.place z (m + n)) (linked_ends side shape left v [] x d t u e g o)
        (paid_links G sets h c p q r w a.place z.place (x || d) m (end_of o) n f low_q low_r small room y (pays_links rest p w f climbs low_q low_r small room (ends_at_spot G sets h run is)))

    -- ---- expressions

    pays_rows : {s : Setting} {rows : List Row} {a : Spot} {o : Outcome} {m : ℕ} → AnswersRows G s rows a o m → (p : ℕ) (over : Over G sets h c p s) (k : ℕ) → AreAllLevels over.table.operators k rows → Is a → Operand p s.term a.place o m
    pays_rows (only_term {s = s} {m = m} {a = a} {o = o} d) p over k levels is =
        (subst (λ z. PaidOperand G sets h c p s.term a.place z m) (noted_ends (Ops []) o) (paid_term G sets h c p s over a.place (end_of o) m (pays d is over.small)), at_noted Is (Ops []) o (at_node d is))
    pays_rows (loosest_row {m = m} {a = a} d r) p over k (level {k = j} row levels) is = pays_after_row_operand r p over (suc j) j row levels a.place m (pays_row_operand d p over (suc j) j row levels is)

    pays_row_operand : {s : Setting} {r : Row} {tighter : List Row} {a : Spot} {o : Outcome} {m : ℕ} → AnswersRowOperand G s r tighter a o m → (p : ℕ) (over : Over G sets h c p s) (k j : ℕ) → IsRow over.table.operators k r →
        AreAllLevels over.table.operators j tighter → Is a → Operand p s.term a.place o m
    pays_row_operand (row_operand {s = s} {r = r} {m = m} {a = a} {x = x} d) p over k j row levels is =
        paid_row_operand G sets h c p s over k r a x m row is (pays_rows d p over j levels (after_prefix G sets h c p s over k r a row is))

    pays_after_row_operand : {s : Setting} {r : Row} {tighter : List Row} {x o : Outcome} {n : ℕ} → AfterRowOperand G s r tighter x o n → (p : ℕ) (over : Over G sets h c p s) (k j : ℕ) → IsRow over.table.operators k r →
        AreAllLevels over.table.operators j tighter → (i m : ℕ) → Operand p s.term i x m → Operand p s.term i o (m + n)
    pays_after_row_operand row_failed p over k j row levels i m y = (recounted (omega arith) y.0, tt)
    pays_after_row_operand row_stuck p over k j row levels i m y = (paid.stuck, tt)
    pays_after_row_operand (row_ok {s = s} {m = n} {c = x} {b = b} {t = t} {e = e} {o = o} d) p over k j row levels i m y =
        let tail = pays_tail d p over k j row levels y.1 in
        (subst (λ z. PaidOperand G sets h c p s.term i z (m + n)) (row_ends x t e o) (paid_stretch G sets h c p s over i b.place x m (end_of o) n y.0 tail.0), at_row Is x t e o tail.1)

    pays_tail : {s : Setting} {r : Row} {tighter : List Row} {v : List Tree} {a : Spot} {o : Outcome} {m : ℕ} → AnswersTail G s r tighter v a o m → (p : ℕ) (over : Over G sets h c p s) (k j : ℕ) → IsRow over.table.operators k r →
        AreAllLevels over.table.operators j tighter → Is a → Tail s.term a.place o m
    pays_tail (row_tail {m = m} d x) p over k j row levels is = pays_after_right x p over k j row levels is m (pays_right d p over k j row levels is)

    pays_after_right : {s : Setting} {r : Row} {tighter : List Row} {v : List Tree} {a : Spot} {x o : Outcome} {n : ℕ} → AfterRight G s r tighter v a x o n → (p : ℕ) (over : Over G sets h c p s) (k j : ℕ) → IsRow over.table.operators k r →
        AreAllLevels over.table.operators j tighter → Is a → (m : ℕ) → Infix s.term a.place x m → Tail s.term a.place o (m + n)
    pays_after_right (right_stands {s = s} {a = a} {b = b} {c = x}) p over k j row levels is m y = (paid_stands G sets h c p s over a.place (paid.ends x b.place) m y.0, y.1)
    pays_after_right (right_commits {s = s} {a = a}) p over k j row levels is m y = (paid_stands G sets h c p s over a.place (paid.stops true) m y.0, tt)
    pays_after_right right_stuck p over k j row levels is m y = (paid.stuck, tt)
    pays_after_right (right_failed {s = s} {m = i} {n = n} {a = a} {e = e} {o = o} d x) p over k j row levels is m y =
        let left = pays_after_left x p over k j row levels is i (pays_left d p over k j row levels is) in
        (subst (λ z. PaidTail G sets h c s.term a.place z (m + (i + n))) (row_failure_ends e o) (paid_else G sets h c p s over a.place (end_of o) m (i + n) y.0.1 left.0), at_failure Is e o left.1)

    pays_after_left : {s : Setting} {r : Row} {tighter : List Row} {v : List Tree} {a : Spot} {x o : Outcome} {n : ℕ} → AfterLeft G s r tighter v a x o n → (p : ℕ) (over : Over G sets h c p s) (k j : ℕ) → IsRow over.table.operators k r →
        AreAllLevels over.table.operators j tighter → Is a → (m : ℕ) → Infix s.term a.place x m → Tail s.term a.place o (m + n)
    pays_after_left (left_stands {s = s} {a = a} {b = b} {c = x}) p over k j row levels is m y = (paid_stands G sets h c p s over a.place (paid.ends x b.place) m y.0, y.1)
    pays_after_left (left_commits {s = s} {a = a}) p over k j row levels is m y = (paid_stands G sets h c p s over a.place (paid.stops true) m y.0, tt)
    pays_after_left left_stuck p over k j row levels is m y = (paid.stuck, tt)
    pays_after_left (left_failed {s = s} {m = n} {v = v} {a = a} {e = e} {o = o} d) p over k j row levels is m y =
        let non = pays_non d p over k j row levels is in (
          subst (λ z. PaidTail G sets h c s.term a.place z (m + n)) (non_ends e a v o) (paid_else G sets h c p s over a.place (returned a.place (end_of o)) m n y.0.1 (paid_return G sets h c p s over a.place (end_of o) n non.0)),
          at_non Is e a v o is non.1,
        )

    pays_right : {s : Setting} {r : Row} {tighter : List Row} {v : List Tree} {a : Spot} {o : Outcome} {m : ℕ} → AnswersRight G s r tighter v a o m → (p : ℕ) (over : Over G sets h c p s) (k j : ℕ) → IsRow over.table.operators k r →
        AreAllLevels over.table.operators j tighter → Is a → Infix s.term a.place o m
    pays_right (right_side {s = s} {r = r} {m = m} {a = a} {o = o} d) p over k j row levels is =
        let inner = pays_after_right_operator d p over k j row levels is refl in
        let e : Error = merge (ambiguous_left G.grammar G.text s.item r a.place) (ambiguous_non G.grammar G.text s.item r a.place) in
        (subst (λ z. PaidInfix G sets h c s.term a.place z m) (ambiguous_ends e o) inner.0, at_ambiguous Is e o inner.1)

    pays_after_right_operator : {s : Setting} {r : Row} {tighter : List Row} {v : List Tree} {a : Spot} {w : Option Read} {o : Outcome} {m : ℕ} → AfterRightOperator G s r tighter v a w o m →
        (p : ℕ) (over : Over G sets h c p s) (k j : ℕ) → IsRow over.table.operators k r → AreAllLevels over.table.operators j tighter → Is a → read_at G.grammar G.text s.item r.right a.place ≡ w → Infix s.term a.place o m
    pays_after_right_operator (right_unread {s = s} {a = a}) p over k j row levels is e = (unread G sets h c p s over a.place, tt)
    pays_after_right_operator (right_read {s = s} {r = r} {m = m} {n = n} {v = v} {a = a} {q = q} {o = o} d x) p over k j row levels is e =
        let read = reads G sets h c p s over InfixRight k r.right row.right a is q e in
        let operand = pays_after_right_operand x p over k j row levels q.end m (pays_row_operand d p over k j row levels read.spot) in (
          subst (λ z. PaidInfix G sets h c s.term a.place z (m + n)) (applied_operator_ends fixity.Infix q s.builders.infix v o) (paid_infix G sets h c p s over a q (end_of o) (m + n) read operand.0),
          at_applied_operator Is fixity.Infix q s.builders.infix v o operand.1,
        )

    pays_after_right_operand : {s : Setting} {r : Row} {tighter : List Row} {x o : Outcome} {n : ℕ} → AfterRightOperand G s r tighter x o n → (p : ℕ) (over : Over G sets h c p s) (k j : ℕ) → IsRow over.table.operators k r →
        AreAllLevels over.table.operators j tighter → (i m : ℕ) → Operand p s.term i x m → Operand p s.term i o (m + n)
    pays_after_right_operand right_operand_failed p over k j row levels i m y = (recounted (omega arith) y.0, tt)
    pays_after_right_operand right_operand_stuck p over k j row levels i m y = (paid.stuck, tt)
    pays_after_right_operand (right_operand_ok {s = s} {m = n} {c = x} {b = b} {w = w} {t = t} {e = e} {o = o} d) p over k j row levels i m y =
        let right = pays_right d p over k j row levels y.1 in (
          subst (λ z. PaidOperand G sets h c p s.term i z (m + n)) (operand_ends x t e b w o)
              (paid_stretch G sets h c p s over i b.place x m (returned b.place (end_of o)) n y.0 (paid_return G sets h c p s over b.place (end_of o) n right.0)),
          at_operand Is x t e b w o y.1 right.1,
        )

    pays_left : {s : Setting} {r : Row} {tighter : List Row} {v : List Tree} {a : Spot} {o : Outcome} {m : ℕ} → AnswersLeft G s r tighter v a o m → (p : ℕ) (over : Over G sets h c p s) (k j : ℕ) → IsRow over.table.operators k r →
        AreAllLevels over.table.operators j tighter → Is a → Infix s.term a.place o m
    pays_left (left_side {s = s} {r = r} {m = m} {a = a} {o = o} d) p over k j row levels is =
        let inner = pays_after_left_operator d p over k j row levels is refl in
        let e : Error = merge (ambiguous_right G.grammar G.text s.item r a.place) (ambiguous_non G.grammar G.text s.item r a.place) in
        (subst (λ z. PaidInfix G sets h c s.term a.place z m) (ambiguous_ends e o) inner.0, at_ambiguous Is e o inner.1)

    pays_after_left_operator : {s : Setting} {r : Row} {tighter : List Row} {v : List Tree} {a : Spot} {w : Option Read} {o : Outcome} {m : ℕ} → AfterLeftOperator G s r tighter v a w o m →
        (p : ℕ) (over : Over G sets h c p s) (k j : ℕ) → IsRow over.table.operators k r → AreAllLevels over.table.operators j tighter → Is a → read_at G.grammar G.text s.item r.left a.place ≡ w → Infix s.term a.place o m
    pays_after_left_operator (left_unread {s = s} {a = a}) p over k j row levels is e = (unread G sets h c p s over a.place, tt)
    pays_after_left_operator (left_read {s = s} {r = r} {m = m} {n = n} {a = a} {q = q} {o = o} d x) p over k j row levels is e =
        let read = reads G sets h c p s over InfixLeft k r.left row.left a is q e in
        let operand = pays_after_left_operand x p over k j row levels q.end m (pays_row_operand d p over k j row levels read.spot) in
        (subst (λ z. PaidInfix G sets h c s.term a.place z (m + n)) (operator_ends fixity.Infix q o) (paid_infix G sets h c p s over a q (end_of o) (m + n) read operand.0), at_operator Is fixity.Infix q o operand.1)

    pays_after_left_operand : {s : Setting} {r : Row} {tighter : List Row} {v : List Tree} {q : Read} {x o : Outcome} {n : ℕ} → AfterLeftOperand G s r tighter v q x o n → (p : ℕ) (over : Over G sets h c p s) (k j : ℕ) →
        IsRow over.table.operators k r → AreAllLevels over.table.operators j tighter → (i m : ℕ) → Operand p s.term i x m → Operand p s.term i o (m + n)
    pays_after_left_operand left_operand_failed p over k j row levels i m y = (recounted (omega arith) y.0, tt)
    pays_after_left_operand left_operand_stuck p over k j row levels i m y = (paid.stuck, tt)
    pays_after_left_operand (left_operand_ok {s = s} {m = n} {v = v} {w = w} {q = q} {c = x} {b = b} {t = t} {e = e} {o = o} d) p over k j row levels i m y =
        let left = pays_left d p over k j row levels y.1 in
        let forest : List Tree = applied s.builders.infix q.operator (v ++ w) in (
          subst (λ z. PaidOperand G sets h c p s.term i z (m + n)) (operand_ends x t e b forest o)
              (paid_stretch G sets h c p s over i b.place x m (returned b.place (end_of o)) n y.0 (paid_return G sets h c p s over b.place (end_of o) n left.0)),
          at_operand Is x t e b forest o y.1 left.1,
        )

    pays_non : {s : Setting} {r : Row} {tighter : List Row} {v : List Tree} {a : Spot} {o : Outcome} {m : ℕ} → AnswersNon G s r tighter v a o m → (p : ℕ) (over : Over G sets h c p s) (k j : ℕ) → IsRow over.table.operators k r →
        AreAllLevels over.table.operators j tighter → Is a → Infix s.term a.place o m
    pays_non (neither_side d) p over k j row levels is = pays_after_non_operator d p over k j row levels is refl

    pays_after_non_operator : {s : Setting} {r : Row} {tighter : List Row} {v : List Tree} {a : Spot} {w : Option Read} {o : Outcome} {m : ℕ} → AfterNonOperator G s r tighter v a w o m →
        (p : ℕ) (over : Over G sets h c p s) (k j : ℕ) → IsRow over.table.operators k r → AreAllLevels over.table.operators j tighter → Is a → read_at G.grammar G.text s.item r.non a.place ≡ w → Infix s.term a.place o m
    pays_after_non_operator (non_unread {s = s} {a = a}) p over k j row levels is e = (unread G sets h c p s over a.place, tt)
    pays_after_non_operator (non_read {s = s} {r = r} {m = m} {v = v} {a = a} {q = q} {x = x} d) p over k j row levels is e =
        let read = reads G sets h c p s over InfixNone k r.non row.non a is q e in
        let first = pays_row_operand d p over k j row levels read.spot in
        let last = paid_ambiguous G sets h c p s over r q v q.end x m first.1 first.0 in
        let o : Outcome = with_last G.grammar G.text s r q v x in
        (subst (λ z. PaidInfix G sets h c s.term a.place z m) (operator_ends fixity.Infix q o) (paid_infix G sets h c p s over a q (end_of o) m read last.0), at_operator Is fixity.Infix q o last.1)
