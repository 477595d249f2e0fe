-- The error of an answer stands no earlier than where the node began, and neither does its end.
use Rattle.std.proofs.Common.{◌≡◌, ◌≤◌, ◌++◌, ℕ, refl, List, [], Bool, Option, le_refl}
use Rattle.std.specs.Prelude.{codes}
use Rattle.pg_tree.specs.Trees.{Tree}
use Rattle.pg_tree.specs.declared.shape.Shape.{Shape}
use Rattle.pg_grammar_form.specs.Forms.{Node}
use Rattle.pg_grammar_value.specs.declared.trail.TrailItem.{TrailItem}
use Rattle.pg_language.specs.Derives.{Spot, applied}
use Rattle.pg_language.specs.Answers as answers
use Rattle.pg_language.specs.Answers.{Given, Answers, entered, AnswersForm, nothing, seq, choice, many, rule, AnswersParts, part, AfterPart, part_last, part_failed, part_stuck, part_ok, AnswersAlternatives, no_alternative, alternative, AfterAlternative, alternative_consumed, alternative_stands, alternative_waits, alternative_commits, alternative_failed, alternative_stuck, AnswersRounds, round, AfterRound, round_ended, round_failed, round_empty, round_stuck, round_ok, AnswersChain, first_operand, AfterFirst, first_failed, first_stuck, first_ok, AnswersLinks, link, AfterSeparator, separator_failed, separator_stuck, separator_ok, AfterOperand, operand_failed, operand_stuck, operand_ok, AnswersRows, only_term, loosest_row, AnswersRowOperand, row_operand, AfterRowOperand, row_failed, row_stuck, row_ok, AnswersTail, row_tail, AfterRight, right_stands, right_commits, right_stuck, right_failed, AfterLeft, left_stands, left_commits, left_stuck, left_failed, AnswersRight, right_side, AfterRightOperator, right_unread, right_read, AfterRightOperand, right_operand_failed, right_operand_stuck, right_operand_ok, AnswersLeft, left_side, AfterLeftOperator, left_unread, left_read, AfterLeftOperand, left_operand_failed, left_operand_stuck, left_operand_ok, AnswersNon, neither_side, AfterNonOperator, non_unread, non_read}
use Rattle.pg_language.specs.Errors.{Error, merge}
use Rattle.pg_language.specs.Outcomes.{Outcome}
use Rattle.pg_grammar_form.specs.declared.side.Side.{Side}
use Rattle.pg_grammar_value.specs.declared.trail.Fixity.TheVariants as fixity
use Rattle.pg_expand.specs.declared.rows.Row.{Row}
use Rattle.pg_language.specs.OperatorReads.{Read, read_at}
use Rattle.pg_language.specs.RowReactions.{Setting, as_applied, or_return, labelled_operator, ambiguous_right, ambiguous_left, ambiguous_non, with_last}
use Rattle.pg_language.proofs.ReadOn.{read_on}
use Rattle.pg_derive.proofs.NoEarlier.{NoEarlier, no_earlier_from, no_earlier_after, no_earlier_rest, no_earlier_round, no_earlier_noted, no_earlier_failure, no_earlier_unless, no_earlier_surrounded, no_earlier_finished, no_earlier_begun, no_earlier_leaf, no_earlier_unread, no_earlier_uses, no_earlier_stretch, no_earlier_then_operand, no_earlier_applied, no_earlier_labelled, no_earlier_return, no_earlier_ambiguous, no_earlier_prefix, no_earlier_postfix, no_earlier_last}

module _ (G : Given) where
  mutual
    pub no_earlier : {p : ℕ} {a : Spot} {o : Outcome} {m : ℕ} → Answers G p a o m → NoEarlier a.place o
    no_earlier (entered e d) = no_earlier_form d

    no_earlier_form : {f : Node} {a : Spot} {o : Outcome} {m : ℕ} → AnswersForm G f a o m → NoEarlier a.place o
    no_earlier_form (answers.leaf {l = l} {a = a} {o = o} e) = no_earlier_leaf G.grammar G.text l a o e
    no_earlier_form nothing = (le_refl _, le_refl _)
    no_earlier_form (seq d) = no_earlier_parts d
    no_earlier_form (choice d) = no_earlier_alternatives d
    no_earlier_form (many {a = a} {o = o} d) = no_earlier_noted a.place _ o (no_earlier_rounds d)
    no_earlier_form (answers.chain {a = a} {o = o} d) = no_earlier_noted a.place _ o (no_earlier_chain d)
    no_earlier_form (rule x d) = no_earlier d
    no_earlier_form (answers.expression x d) = no_earlier_rows d
    no_earlier_form (answers.around {k = k} {a = a} {o = o} d) = no_earlier_surrounded a.place k G.text a o (no_earlier d)

    no_earlier_parts : {p : ℕ} {ps : List ℕ} {a : Spot} {o : Outcome} {m : ℕ} → AnswersParts G p ps a o m → NoEarlier a.place o
    no_earlier_parts (part {a = a} d r) = no_earlier_after_part r a.place (no_earlier d)

    no_earlier_after_part : {ps : List ℕ} {x o : Outcome} {m : ℕ} → AfterPart G ps x o m → (i : ℕ) → NoEarlier i x → NoEarlier i o
    no_earlier_after_part part_last i h = h
    no_earlier_after_part part_failed i h = h
    no_earlier_after_part part_stuck i h = tt
    no_earlier_after_part (part_ok {c = c} {b = b} {v = v} {t = t} {e = e} {o = o} d) i h = no_earlier_rest i c v t e o h.1 (no_earlier_from i b.place o h.0 (no_earlier_parts d))

    no_earlier_alternatives : {k : ℕ} {ps : List ℕ} {a : Spot} {o : Outcome} {m : ℕ} → AnswersAlternatives G k ps a o m → NoEarlier a.place o
    no_earlier_alternatives no_alternative = le_refl _
    no_earlier_alternatives (alternative d r) = no_earlier_after_alternative r (no_earlier d)

    no_earlier_after_alternative : {k : ℕ} {ps : List ℕ} {a : Spot} {x o : Outcome} {m : ℕ} → AfterAlternative G k ps a x o m → NoEarlier a.place x → NoEarlier a.place o
    no_earlier_after_alternative alternative_consumed h = h
    no_earlier_after_alternative (alternative_stands e) h = h
    no_earlier_after_alternative (alternative_waits {a = a} {b = b} {v = v} {e = x} {o = o} e d) h = no_earlier_unless a.place b v _ x o h.0 h.1 (no_earlier_alternatives d)
    no_earlier_after_alternative alternative_commits h = h
    no_earlier_after_alternative (alternative_failed {a = a} {e = e} {o = o} d) h = no_earlier_failure a.place e o h (no_earlier_alternatives d)
    no_earlier_after_alternative alternative_stuck h = tt

    no_earlier_rounds : {p k : ℕ} {a : Spot} {o : Outcome} {m : ℕ} → AnswersRounds G p k a o m → NoEarlier a.place o
    no_earlier_rounds (round d r) = no_earlier_after_round r (no_earlier d)

    no_earlier_after_round : {p k : ℕ} {a : Spot} {x o : Outcome} {m : ℕ} → AfterRound G p k a x o m → NoEarlier a.place x → NoEarlier a.place o
    no_earlier_after_round round_ended h = (le_refl _, h)
    no_earlier_after_round round_failed h = h
    no_earlier_after_round round_empty h = tt
    no_earlier_after_round round_stuck h = tt
    no_earlier_after_round (round_ok {a = a} {b = b} {v = v} {t = t} {o = o} d) h = no_earlier_round a.place v t o (no_earlier_from a.place b.place o h.0 (no_earlier_rounds d))

    no_earlier_chain : {side : Side} {shape : Shape} {p s k : ℕ} {a : Spot} {o : Outcome} {m : ℕ} → AnswersChain G side shape p s k a o m → NoEarlier a.place o
    no_earlier_chain (first_operand {a = a} d r) = no_earlier_after_first r a.place (no_earlier d)

    no_earlier_after_first : {side : Side} {shape : Shape} {p s k : ℕ} {x o : Outcome} {m : ℕ} → AfterFirst G side shape p s k x o m → (i : ℕ) → NoEarlier i x → NoEarlier i o
    no_earlier_after_first first_failed i h = h
    no_earlier_after_first first_stuck i h = tt
    no_earlier_after_first (first_ok {c = c} {b = b} {t = t} {e = e} {o = o} d) i h = no_earlier_rest i c [] t e o h.1 (no_earlier_from i b.place o h.0 (no_earlier_links d))

    no_earlier_links : {side : Side} {shape : Shape} {p s : ℕ} {left : List Tree} {k : ℕ} {a : Spot} {o : Outcome} {m : ℕ} → AnswersLinks G side shape p s left k a o m → NoEarlier a.place o
    no_earlier_links (link d r) = no_earlier_after_separator r (no_earlier d)

    no_earlier_after_separator : {side : Side} {shape : Shape} {p s : ℕ} {left : List Tree} {k : ℕ} {a : Spot} {x o : Outcome} {m : ℕ} →
        AfterSeparator G side shape p s left k a x o m → NoEarlier a.place x → NoEarlier a.place o
    no_earlier_after_separator (separator_failed {left = left} {a = a} {c = c} {e = e}) h = no_earlier_begun c a left e h
    no_earlier_after_separator separator_stuck h = tt
    no_earlier_after_separator (separator_ok {a = a} {b = b} {x = x} d r) h = no_earlier_after_operand r h.1 (no_earlier_from a.place b.place x h.0 (no_earlier d))

    no_earlier_after_operand : {side : Side} {shape : Shape} {p s : ℕ} {left : List Tree} {k : ℕ} {a : Spot} {c : Bool} {v : List Tree} {t : List TrailItem} {e : Error} {x o : Outcome} {m : ℕ} →
        AfterOperand G side shape p s left k a c v t e x o m → a.place ≤ e.place → NoEarlier a.place x → NoEarlier a.place o
    no_earlier_after_operand (operand_failed {left = left} {a = a} {d = d} {e = e} {f = f}) l h = no_earlier_begun _ a left _ (no_earlier_after a.place d e f l h)
    no_earlier_after_operand operand_stuck l h = tt
    no_earlier_after_operand (operand_ok {side = side} {shape = shape} {left = left} {v = v} {a = a} {b = b} {c = c} {d = d} {t = t} {u = u} {e = e} {f = f} {o = o} x y) l h =
        no_earlier_rest a.place c [] t e _ l (no_earlier_rest a.place d [] u f _ h.1 (no_earlier_finished a.place side shape left v o (no_earlier_from a.place b.place o h.0 (no_earlier_links y))))

    no_earlier_rows : {s : Setting} {rows : List Row} {a : Spot} {o : Outcome} {m : ℕ} → AnswersRows G s rows a o m → NoEarlier a.place o
    no_earlier_rows (only_term {a = a} {o = o} d) = no_earlier_noted a.place _ o (no_earlier d)
    no_earlier_rows (loosest_row {a = a} d r) = no_earlier_after_row r a.place (no_earlier_row_operand d)

    no_earlier_row_operand : {s : Setting} {r : Row} {tighter : List Row} {a : Spot} {o : Outcome} {m : ℕ} → AnswersRowOperand G s r tighter a o m → NoEarlier a.place o
    no_earlier_row_operand (row_operand {s = s} {r = r} {a = a} {x = x} d) =
        no_earlier_postfix G.grammar G.text s r.postfix a.place _ (no_earlier_prefix G.grammar G.text s r.prefix a (read_at G.grammar G.text s.item r.prefix a.place) x refl (no_earlier_rows d))

    no_earlier_after_row : {s : Setting} {r : Row} {tighter : List Row} {x o : Outcome} {m : ℕ} → AfterRowOperand G s r tighter x o m → (i : ℕ) → NoEarlier i x → NoEarlier i o
    no_earlier_after_row row_failed i h = h
    no_earlier_after_row row_stuck i h = tt
    no_earlier_after_row (row_ok {c = c} {b = b} {t = t} {e = e} {o = o} d) i h =
        no_earlier_stretch i c t e (labelled_operator o) h.1 (no_earlier_labelled i o (no_earlier_from i b.place o h.0 (no_earlier_tail d)))

    no_earlier_tail : {s : Setting} {r : Row} {tighter : List Row} {v : List Tree} {a : Spot} {o : Outcome} {m : ℕ} → AnswersTail G s r tighter v a o m → NoEarlier a.place o
    no_earlier_tail (row_tail d r) = no_earlier_after_right r (no_earlier_right d)

    no_earlier_after_right : {s : Setting} {r : Row} {tighter : List Row} {v : List Tree} {a : Spot} {x o : Outcome} {m : ℕ} → AfterRight G s r tighter v a x o m → NoEarlier a.place x → NoEarlier a.place o
    no_earlier_after_right right_stands h = h
    no_earlier_after_right right_commits h = h
    no_earlier_after_right right_stuck h = tt
    no_earlier_after_right (right_failed {a = a} {e = e} {o = o} d r) h = no_earlier_failure a.place e o h (no_earlier_after_left r (no_earlier_left d))

    no_earlier_after_left : {s : Setting} {r : Row} {tighter : List Row} {v : List Tree} {a : Spot} {x o : Outcome} {m : ℕ} → AfterLeft G s r tighter v a x o m → NoEarlier a.place x → NoEarlier a.place o
    no_earlier_after_left left_stands h = h
    no_earlier_after_left left_commits h = h
    no_earlier_after_left left_stuck h = tt
    no_earlier_after_left (left_failed {v = v} {a = a} {e = e} {o = o} d) h = no_earlier_failure a.place e (or_return a v o) h (no_earlier_return a.place a v o (le_refl _) (no_earlier_non d))

    no_earlier_right : {s : Setting} {r : Row} {tighter : List Row} {v : List Tree} {a : Spot} {o : Outcome} {m : ℕ} → AnswersRight G s r tighter v a o m → NoEarlier a.place o
    no_earlier_right (right_side {s = s} {r = r} {a = a} {o = o} d) =
        no_earlier_ambiguous a.place (merge (ambiguous_left G.grammar G.text s.item r a.place) (ambiguous_non G.grammar G.text s.item r a.place)) o
        (no_earlier_uses G.grammar G.text s.item r.left r.non (codes "left") (codes "non") a.place) (no_earlier_after_right_operator d refl)

    no_earlier_after_right_operator : {s : Setting} {r : Row} {tighter : List Row} {v : List Tree} {a : Spot} {w : Option Read} {o : Outcome} {m : ℕ} → AfterRightOperator G s r tighter v a w o m →
        read_at G.grammar G.text s.item r.right a.place ≡ w → NoEarlier a.place o
    no_earlier_after_right_operator (right_unread {r = r} {a = a}) e = no_earlier_unread G.text r.right a.place
    no_earlier_after_right_operator (right_read {s = s} {r = r} {v = v} {a = a} {q = q} {o = o} d x) e =
        let l = read_on G.grammar G.text s.item r.right a.place q e in
        no_earlier_then_operand a.place fixity.Infix q (as_applied s.builders.infix q.operator v o) l
        (no_earlier_applied a.place s.builders.infix q.operator v o (no_earlier_from a.place q.end o l (no_earlier_after_right_operand x q.end (no_earlier_row_operand d))))

    no_earlier_after_right_operand : {s : Setting} {r : Row} {tighter : List Row} {x o : Outcome} {m : ℕ} → AfterRightOperand G s r tighter x o m → (i : ℕ) → NoEarlier i x → NoEarlier i o
    no_earlier_after_right_operand right_operand_failed i h = h
    no_earlier_after_right_operand right_operand_stuck i h = tt
    no_earlier_after_right_operand (right_operand_ok {c = c} {b = b} {w = w} {t = t} {e = e} {o = o} d) i h =
        no_earlier_stretch i c t e (or_return b w o) h.1 (no_earlier_return i b w o h.0 (no_earlier_from i b.place o h.0 (no_earlier_right d)))

    no_earlier_left : {s : Setting} {r : Row} {tighter : List Row} {v : List Tree} {a : Spot} {o : Outcome} {m : ℕ} → AnswersLeft G s r tighter v a o m → NoEarlier a.place o
    no_earlier_left (left_side {s = s} {r = r} {a = a} {o = o} d) =
        no_earlier_ambiguous a.place (merge (ambiguous_right G.grammar G.text s.item r a.place) (ambiguous_non G.grammar G.text s.item r a.place)) o
        (no_earlier_uses G.grammar G.text s.item r.right r.non (codes "right") (codes "non") a.place) (no_earlier_after_left_operator d refl)

    no_earlier_after_left_operator : {s : Setting} {r : Row} {tighter : List Row} {v : List Tree} {a : Spot} {w : Option Read} {o : Outcome} {m : ℕ} → AfterLeftOperator G s r tighter v a w o m →
        read_at G.grammar G.text s.item r.left a.place ≡ w → NoEarlier a.place o
    no_earlier_after_left_operator (left_unread {r = r} {a = a}) e = no_earlier_unread G.text r.left a.place
    no_earlier_after_left_operator (left_read {s = s} {r = r} {a = a} {q = q} {o = o} d x) e =
        let l = read_on G.grammar G.text s.item r.left a.place q e in
        no_earlier_then_operand a.place fixity.Infix q o l (no_earlier_from a.place q.end o l (no_earlier_after_left_operand x q.end (no_earlier_row_operand d)))

    no_earlier_after_left_operand : {s : Setting} {r : Row} {tighter : List Row} {v : List Tree} {q : Read} {x o : Outcome} {m : ℕ} → AfterLeftOperand G s r tighter v q x o m → (i : ℕ) → NoEarlier i x → NoEarlier i o
    no_earlier_after_left_operand left_operand_failed i h = h
    no_earlier_after_left_operand left_operand_stuck i h = tt
    no_earlier_after_left_operand (left_operand_ok {s = s} {v = v} {w = w} {q = q} {c = c} {b = b} {t = t} {e = e} {o = o} d) i h =
        no_earlier_stretch i c t e (or_return b (applied s.builders.infix q.operator (v ++ w)) o) h.1
        (no_earlier_return i b (applied s.builders.infix q.operator (v ++ w)) o h.0 (no_earlier_from i b.place o h.0 (no_earlier_left d)))

    no_earlier_non : {s : Setting} {r : Row} {tighter : List Row} {v : List Tree} {a : Spot} {o : Outcome} {m : ℕ} → AnswersNon G s r tighter v a o m → NoEarlier a.place o
    no_earlier_non (neither_side d) = no_earlier_after_non_operator d refl

    no_earlier_after_non_operator : {s : Setting} {r : Row} {tighter : List Row} {v : List Tree} {a : Spot} {w : Option Read} {o : Outcome} {m : ℕ} → AfterNonOperator G s r tighter v a w o m →
        read_at G.grammar G.text s.item r.non a.place ≡ w → NoEarlier a.place o
    no_earlier_after_non_operator (non_unread {r = r} {a = a}) e = no_earlier_unread G.text r.non a.place
    no_earlier_after_non_operator (non_read {s = s} {r = r} {v = v} {a = a} {q = q} {x = x} d) e =
        let l = read_on G.grammar G.text s.item r.non a.place q e in
        no_earlier_then_operand a.place fixity.Infix q (with_last G.grammar G.text s r q v x) l
        (no_earlier_last G.grammar G.text s r q v a.place x (no_earlier_from a.place q.end x l (no_earlier_row_operand d)))
