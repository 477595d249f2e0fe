-- On a predictive grammar both readings of choice give the same answers: an alternative that is ok and consumes nothing is the
-- last one.
use Rattle.std.proofs.Common.{◌≡◌, ◌<◌, ◌≤◌, ℕ, zero, List, [], ◌∷◌, Bool, true, false, refl, ap, subst, length, Some, slice_get, arith}
use Rattle.std.specs.Prelude.{nat_lt}
use Rattle.std.specs.Str.{all_scalars}
use Rattle.pg_text.specs.Position.{start}
use Rattle.pg_tree.specs.Trees.{Tree}
use Rattle.pg_tree.specs.declared.shape.Shape.{Shape}
use Rattle.pg_grammar_form.specs.Forms.{Node}
use Rattle.pg_grammar_form.specs.declared.form.Form.TheVariants as form
use Rattle.pg_grammar_form.specs.declared.form.Leaf.TheVariants as leaf
use Rattle.pg_grammar_value.specs.declared.trail.TrailItem.{TrailItem}
use Rattle.pg_grammar_value.specs.declared.trail.TrailItem.TheVariants.{Alt}
use Rattle.pg_message.proofs.Nothing.{merged-nothing}
use Rattle.pg_language.specs.Derives.{Spot}
use Rattle.pg_table.specs.Tables.{ComesFrom}
use Rattle.pg_language.specs.Answers as answers
use Rattle.pg_language.specs.Answers.{Given, Answers, entered, AnswersForm, nothing, seq, choice, many, rule, AnswersParts, part, AfterPart, part_last, part_failed, part_stuck, part_ok, AnswersAlternatives, no_alternative, alternative, AfterAlternative, alternative_consumed, alternative_stands, alternative_waits, alternative_commits, alternative_failed, alternative_stuck, AnswersRounds, round, AfterRound, round_ended, round_failed, round_empty, round_stuck, round_ok, AnswersChain, first_operand, AfterFirst, first_failed, first_stuck, first_ok, AnswersLinks, link, AfterSeparator, separator_failed, separator_stuck, separator_ok, AfterOperand, operand_failed, operand_stuck, operand_ok}
use Rattle.std.specs.Prelude.{Option, Some}
use Rattle.pg_expand.specs.declared.rows.Row.{Row}
use Rattle.pg_language.specs.OperatorReads.{Read}
use Rattle.pg_language.specs.RowReactions.{Setting}
use Rattle.pg_language.specs.Answers.{AnswersRows, only_term, loosest_row, AnswersRowOperand, row_operand, AfterRowOperand, row_failed, row_stuck, row_ok, AnswersTail, row_tail, AfterRight, right_stands, right_commits, right_stuck, right_failed, AfterLeft, left_stands, left_commits, left_stuck, left_failed, AnswersRight, right_side, AfterRightOperator, right_unread, right_read, AfterRightOperand, right_operand_failed, right_operand_stuck, right_operand_ok, AnswersLeft, left_side, AfterLeftOperator, left_unread, left_read, AfterLeftOperand, left_operand_failed, left_operand_stuck, left_operand_ok, AnswersNon, neither_side, AfterNonOperator, non_unread, non_read}
use Rattle.pg_derive.specs.ClosedSets.{NodeSets}
use Rattle.pg_language.specs.Errors.{Error, with_position, without_position, merge, no_messages_at}
use Rattle.pg_language.specs.Outcomes.{Outcome, ok}
use Rattle.pg_derive.specs.Predictive.{AlternativesArePredictive, IsPredictiveAt}
use Rattle.pg_derive.specs.PredictiveLaws.{as_read, ReadingsAgree}
use Rattle.pg_grammar_form.specs.declared.side.Side.{Side}
use Rattle.pg_language.specs.declared.reading.Reading.{Reading}
use Rattle.pg_language.specs.declared.reading.Reading.TheVariants.{Library, Report}
use Rattle.pg_derive.proofs.Begins.{still, moves, BeginsNode}
use Rattle.pg_derive.proofs.Complete.{begun}
use Rattle.pg_derive.proofs.Exists.{Settles, settles_ok, settles_failed, settle}
use Rattle.pg_language.proofs.Flags.{moved}
use Rattle.pg_derive.proofs.ErrorPlaces.{no_earlier}
use Rattle.pg_language.proofs.Moves.{tells}
use Rattle.pg_derive.proofs.Predicted.{spelled}
use Rattle.pg_derive.proofs.Quiet.{IsWhole}
use Rattle.pg_language.proofs.Sound.{sound}
use Rattle.pg_language.proofs.Unique.{same}
use Rattle.pg_derive.proofs.Whole.{is_whole}

-- what says nothing, at an earlier place, adds nothing
nothing_added : (e : Error) (i : ℕ) → i ≤ e.place → merge e (no_messages_at i) ≡ e
nothing_added e i l = ap without_position (merged-nothing (with_position start e) (with_position start (no_messages_at i)) refl l)

module _ (G : Given) (scalars : all_scalars G.text ≡ true) (whole : IsWhole G.grammar) (sets : NodeSets)
    (good : (p : ℕ) (n : Node) → slice_get G.grammar.nodes p ≡ Some n → IsPredictiveAt G.grammar sets p n)
    (spells : (p : ℕ) (s : List ℕ) → slice_get G.grammar.nodes p ≡ Some (form.Leaf (leaf.String s)) → 0 < length s) where
  abbrev L : Given
  L = as_read Library G

  abbrev R : Given
  R = as_read Report G

  -- an alternative that is ok and consumed nothing is nullable
  empty_nullable : {q : ℕ} {a b : Spot} {v : List Tree} {t : List TrailItem} {e : Error} {m : ℕ} → Answers L q a (ok false b v t e) m → sets.nullable q ≡ true
  empty_nullable {q = q} {a = a} {b = b} d = go (begun L scalars whole sets good (sound d)) (tells L spells d).0
    where
      go : BeginsNode G.grammar sets G.text q a b → false ≡ nat_lt a.place b.place → sets.nullable q ≡ true
      go (still e n) flag = n
      go (moves l h) flag = let far = moved l in absurd (cc)

  mutual
    report : {p : ℕ} {a : Spot} {o : Outcome} {m : ℕ} → Answers L p a o m → Answers R p a o m
    report (entered {p = p} {n = n} e d) = entered e (report_form d p (good p n e))

    report_form : {n : Node} {a : Spot} {o : Outcome} {m : ℕ} → AnswersForm L n a o m → (p : ℕ) → IsPredictiveAt G.grammar sets p n → AnswersForm R n a o m
    report_form (answers.leaf e) p f = answers.leaf e
    report_form nothing p f = nothing
    report_form (seq d) p f = seq (report_parts d)
    report_form (choice d) p f = choice (report_alternatives d p f)
    report_form (many d) p f = many (report_rounds d)
    report_form (answers.chain d) p f = answers.chain (report_chain d)
    report_form (rule e d) p f = rule e (report d)
    report_form (answers.expression x d) p f = answers.expression x (report_rows d)
    report_form (answers.around d) p f = answers.around (report d)

    report_parts : {p : ℕ} {ps : List ℕ} {a : Spot} {o : Outcome} {m : ℕ} → AnswersParts L p ps a o m → AnswersParts R p ps a o m
    report_parts (part d r) = part (report d) (report_after_part r)

    report_after_part : {ps : List ℕ} {x o : Outcome} {m : ℕ} → AfterPart L ps x o m → AfterPart R ps x o m
    report_after_part part_last = part_last
    report_after_part part_failed = part_failed
    report_after_part part_stuck = part_stuck
    report_after_part (part_ok d) = part_ok (report_parts d)

    report_alternatives : {k : ℕ} {qs : List ℕ} {a : Spot} {o : Outcome} {m : ℕ} → AnswersAlternatives L k qs a o m → (p : ℕ) → AlternativesArePredictive sets p qs → AnswersAlternatives R k qs a o m
    report_alternatives no_alternative p f = no_alternative
    report_alternatives (alternative {p = q} d r) p f = alternative (report d) (report_after_alternative r p q f d)

    report_after_alternative : {k : ℕ} {qs : List ℕ} {a : Spot} {x o : Outcome} {m n : ℕ} → AfterAlternative L k qs a x o n → (p q : ℕ) → AlternativesArePredictive sets p (q ∷ qs) → Answers L q a x m →
        AfterAlternative R k qs a x o n
    report_after_alternative alternative_consumed p q f x = alternative_consumed
    report_after_alternative (alternative_stands {k = k} {ps = []} {a = a} {b = b} {v = v} {t = t} {e = e} is) p q f x =
        subst (λ z. AfterAlternative R k [] a (ok false b v t e) (ok false b v (Alt k ∷ t) z) zero) (nothing_added e a.place (no_earlier L x).1) (alternative_waits refl no_alternative)
    report_after_alternative (alternative_stands {ps = other ∷ qs} is) p q f x =
        let empty = empty_nullable x in let full = (f.1 other (zero, omega arith, refl)).full in absurd (cc)
    report_after_alternative (alternative_waits is d) p q f x = absurd (cc)
    report_after_alternative alternative_commits p q f x = alternative_commits
    report_after_alternative (alternative_failed d) p q f x = alternative_failed (report_alternatives d p f.2)
    report_after_alternative alternative_stuck p q f x = alternative_stuck

    report_rounds : {p k : ℕ} {a : Spot} {o : Outcome} {m : ℕ} → AnswersRounds L p k a o m → AnswersRounds R p k a o m
    report_rounds (round d r) = round (report d) (report_after_round r)

    report_after_round : {p k : ℕ} {a : Spot} {x o : Outcome} {m : ℕ} → AfterRound L p k a x o m → AfterRound R p k a x o m
    report_after_round round_ended = round_ended
    report_after_round round_failed = round_failed
    report_after_round round_empty = round_empty
    report_after_round round_stuck = round_stuck
    report_after_round (round_ok d) = round_ok (report_rounds d)

    report_chain : {side : Side} {shape : Shape} {p s k : ℕ} {a : Spot} {o : Outcome} {m : ℕ} → AnswersChain L side shape p s k a o m → AnswersChain R side shape p s k a o m
    report_chain (first_operand d r) = first_operand (report d) (report_after_first r)

    report_after_first : {side : Side} {shape : Shape} {p s k : ℕ} {x o : Outcome} {m : ℕ} → AfterFirst L side shape p s k x o m → AfterFirst R side shape p s k x o m
    report_after_first first_failed = first_failed
    report_after_first first_stuck = first_stuck
    report_after_first (first_ok d) = first_ok (report_links d)

    report_links : {side : Side} {shape : Shape} {p s : ℕ} {left : List Tree} {k : ℕ} {a : Spot} {o : Outcome} {m : ℕ} → AnswersLinks L side shape p s left k a o m →
        AnswersLinks R side shape p s left k a o m
    report_links (link d r) = link (report d) (report_after_separator r)

    report_after_separator : {side : Side} {shape : Shape} {p s : ℕ} {left : List Tree} {k : ℕ} {a : Spot} {x o : Outcome} {m : ℕ} → AfterSeparator L side shape p s left k a x o m →
        AfterSeparator R side shape p s left k a x o m
    report_after_separator separator_failed = separator_failed
    report_after_separator separator_stuck = separator_stuck
    report_after_separator (separator_ok d r) = separator_ok (report d) (report_after_operand r)

    report_after_operand : {side : Side} {shape : Shape} {p s : ℕ} {left : List Tree} {k : ℕ} {a : Spot} {c : Bool} {v : List Tree} {t : List TrailItem} {e : Error} {x o : Outcome} {m : ℕ} →
        AfterOperand L side shape p s left k a c v t e x o m → AfterOperand R side shape p s left k a c v t e x o m
    report_after_operand operand_failed = operand_failed
    report_after_operand operand_stuck = operand_stuck
    report_after_operand (operand_ok x d) = operand_ok x (report_links d)

    -- ---- expressions

    report_rows : {s : Setting} {rows : List Row} {a : Spot} {o : Outcome} {m : ℕ} → AnswersRows L s rows a o m → AnswersRows R s rows a o m
    report_rows (only_term d) = only_term (report d)
    report_rows (loosest_row d r) = loosest_row (report_row_operand d) (report_after_row r)

    report_row_operand : {s : Setting} {r : Row} {tighter : List Row} {a : Spot} {o : Outcome} {m : ℕ} → AnswersRowOperand L s r tighter a o m → AnswersRowOperand R s r tighter a o m
    report_row_operand (row_operand d) = row_operand (report_rows d)

    report_after_row : {s : Setting} {r : Row} {tighter : List Row} {x o : Outcome} {m : ℕ} → AfterRowOperand L s r tighter x o m → AfterRowOperand R s r tighter x o m
    report_after_row row_failed = row_failed
    report_after_row row_stuck = row_stuck
    report_after_row (row_ok d) = row_ok (report_tail d)

    report_tail : {s : Setting} {r : Row} {tighter : List Row} {v : List Tree} {a : Spot} {o : Outcome} {m : ℕ} → AnswersTail L s r tighter v a o m → AnswersTail R s r tighter v a o m
    report_tail (row_tail d r) = row_tail (report_right d) (report_after_right r)

    report_after_right : {s : Setting} {r : Row} {tighter : List Row} {v : List Tree} {a : Spot} {x o : Outcome} {m : ℕ} → AfterRight L s r tighter v a x o m → AfterRight R s r tighter v a x o m
    report_after_right right_stands = right_stands
    report_after_right right_commits = right_commits
    report_after_right right_stuck = right_stuck
    report_after_right (right_failed d r) = right_failed (report_left d) (report_after_left r)

    report_after_left : {s : Setting} {r : Row} {tighter : List Row} {v : List Tree} {a : Spot} {x o : Outcome} {m : ℕ} → AfterLeft L s r tighter v a x o m → AfterLeft R s r tighter v a x o m
    report_after_left left_stands = left_stands
    report_after_left left_commits = left_commits
    report_after_left left_stuck = left_stuck
    report_after_left (left_failed d) = left_failed (report_non d)

    report_right : {s : Setting} {r : Row} {tighter : List Row} {v : List Tree} {a : Spot} {o : Outcome} {m : ℕ} → AnswersRight L s r tighter v a o m → AnswersRight R s r tighter v a o m
    report_right (right_side d) = right_side (report_after_right_operator d)

    report_after_right_operator : {s : Setting} {r : Row} {tighter : List Row} {v : List Tree} {a : Spot} {w : Option Read} {o : Outcome} {m : ℕ} → AfterRightOperator L s r tighter v a w o m →
        AfterRightOperator R s r tighter v a w o m
    report_after_right_operator right_unread = right_unread
    report_after_right_operator (right_read d r) = right_read (report_row_operand d) (report_after_right_operand r)

    report_after_right_operand : {s : Setting} {r : Row} {tighter : List Row} {x o : Outcome} {m : ℕ} → AfterRightOperand L s r tighter x o m → AfterRightOperand R s r tighter x o m
    report_after_right_operand right_operand_failed = right_operand_failed
    report_after_right_operand right_operand_stuck = right_operand_stuck
    report_after_right_operand (right_operand_ok d) = right_operand_ok (report_right d)

    report_left : {s : Setting} {r : Row} {tighter : List Row} {v : List Tree} {a : Spot} {o : Outcome} {m : ℕ} → AnswersLeft L s r tighter v a o m → AnswersLeft R s r tighter v a o m
    report_left (left_side d) = left_side (report_after_left_operator d)

    report_after_left_operator : {s : Setting} {r : Row} {tighter : List Row} {v : List Tree} {a : Spot} {w : Option Read} {o : Outcome} {m : ℕ} → AfterLeftOperator L s r tighter v a w o m →
        AfterLeftOperator R s r tighter v a w o m
    report_after_left_operator left_unread = left_unread
    report_after_left_operator (left_read d r) = left_read (report_row_operand d) (report_after_left_operand r)

    report_after_left_operand : {s : Setting} {r : Row} {tighter : List Row} {v : List Tree} {q : Read} {x o : Outcome} {m : ℕ} → AfterLeftOperand L s r tighter v q x o m → AfterLeftOperand R s r tighter v q x o m
    report_after_left_operand left_operand_failed = left_operand_failed
    report_after_left_operand left_operand_stuck = left_operand_stuck
    report_after_left_operand (left_operand_ok d) = left_operand_ok (report_left d)

    report_non : {s : Setting} {r : Row} {tighter : List Row} {v : List Tree} {a : Spot} {o : Outcome} {m : ℕ} → AnswersNon L s r tighter v a o m → AnswersNon R s r tighter v a o m
    report_non (neither_side d) = neither_side (report_after_non_operator d)

    report_after_non_operator : {s : Setting} {r : Row} {tighter : List Row} {v : List Tree} {a : Spot} {w : Option Read} {o : Outcome} {m : ℕ} → AfterNonOperator L s r tighter v a w o m →
        AfterNonOperator R s r tighter v a w o m
    report_after_non_operator non_unread = non_unread
    report_after_non_operator (non_read d) = non_read (report_row_operand d)

  -- what the report's reading answers is what the library's does, since that answers, and there is one answer
  library : {p : ℕ} {a : Spot} {o : Outcome} {m : ℕ} → p < length G.grammar.nodes → (a.place ≤ length G.text) × ComesFrom G.grammar a.table → Answers R p a o m → Answers L p a o m
  library {p = p} {a = a} {o = o} {m = m} there within d = go (settle L scalars whole sets good spells p there a within)
    where
      found : {q : Outcome} {n : ℕ} → Answers L p a q n → Answers L p a o m
      found {q = q} x =
          let s = same (report x) d in
          subst (λ z. Answers L p a z m) s.outcome (subst (λ z. Answers L p a q z) s.count x)

      go : Settles (Answers L p a) → Answers L p a o m
      go (settles_ok c b v t e n run) = found run
      go (settles_failed c e n run) = found run

pub readings_agree : ReadingsAgree
readings_agree G sets h one other p there a o m from within d = go one other d
  where
    whole : IsWhole G.grammar
    whole = is_whole G.grammar h.grammar

    go : (one other : Reading) → Answers (as_read one G) p a o m → Answers (as_read other G) p a o m
    go Library Library d = d
    go Library Report d = report G h.text whole sets h.predictive.nodes (spelled G sets h) d
    go Report Library d = library G h.text whole sets h.predictive.nodes (spelled G sets h) there (within, from) d
    go Report Report d = d
