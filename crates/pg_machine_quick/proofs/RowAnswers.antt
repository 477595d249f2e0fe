-- What the operators of a row that are read, or aren't, make of its answers.
use Rattle.std.proofs.Common.{◌≡◌, ℕ, zero, ◌+◌, List, false, subst, sym}
use Rattle.std.specs.Prelude.{Option, Some, None}
use Rattle.pg_tree.specs.Trees.{Tree}
use Rattle.pg_grammar_value.specs.declared.trail.Fixity.TheVariants as fixity
use Rattle.pg_expand.specs.declared.rows.Row.{Row}
use Rattle.pg_language.specs.Derives.{Spot, at}
use Rattle.pg_language.specs.Answers.{Given, AnswersRowOperand, AnswersTail, row_tail, right_stands, right_commits, right_stuck, right_failed, left_stands, left_commits, left_stuck, left_failed, AnswersRight, right_side, AfterRightOperator, right_unread, right_read, AfterRightOperand, AnswersLeft, left_side, AfterLeftOperator, left_unread, left_read, AfterLeftOperand, AnswersNon, neither_side, AfterNonOperator, non_unread, non_read}
use Rattle.pg_language.specs.Errors.{Error, merge}
use Rattle.pg_language.specs.OperatorReads.{Read, read_at, unread}
use Rattle.pg_language.specs.Outcomes.{Outcome, ok, failed, empty_round}
use Rattle.pg_language.specs.Reactions.{after_failure}
use Rattle.pg_language.specs.RowReactions.{Setting, then_operand, as_applied, or_return, ambiguous_right, ambiguous_left, ambiguous_non, or_ambiguous, with_last}

-- the errors where no operator of the row follows
abbrev pub lefts_and_nons : Given → Setting → Row → ℕ → Error
lefts_and_nons G s r i = merge (ambiguous_left G.grammar G.text s.item r i) (ambiguous_non G.grammar G.text s.item r i)

abbrev pub rights_and_nons : Given → Setting → Row → ℕ → Error
rights_and_nons G s r i = merge (ambiguous_right G.grammar G.text s.item r i) (ambiguous_non G.grammar G.text s.item r i)

abbrev pub no_right : Given → Setting → Row → ℕ → Error
no_right G s r i = merge (unread G.text r.right i) (lefts_and_nons G s r i)

abbrev pub no_left : Given → Setting → Row → ℕ → Error
no_left G s r i = merge (unread G.text r.left i) (rights_and_nons G s r i)

module _ {G : Given} {s : Setting} where
  -- ---- right-associative operators

  pub right_answered : {r : Row} {ts : List Row} {v : List Tree} {b : Spot} {q : Read} {x y : Outcome} {m n : ℕ} → read_at G.grammar G.text s.item r.right b.place ≡ Some q →
      AnswersRowOperand G s r ts (at b q.end) x m → AfterRightOperand G s r ts x y n →
      AnswersRight G s r ts v b (or_ambiguous (lefts_and_nons G s r b.place) (then_operand fixity.Infix q (as_applied s.builders.infix q.operator v y))) (m + n)
  right_answered {r = r} {ts = ts} {v = v} {b = b} {q = q} {y = y} {m = m} {n = n} there d f =
      right_side (subst (λ (z : Option Read). AfterRightOperator G s r ts v b z (then_operand fixity.Infix q (as_applied s.builders.infix q.operator v y)) (m + n)) (sym there) (right_read d f))

  pub no_right_answered : {r : Row} {ts : List Row} {v : List Tree} {b : Spot} → read_at G.grammar G.text s.item r.right b.place ≡ None →
      AnswersRight G s r ts v b (failed false (no_right G s r b.place)) zero
  no_right_answered {r = r} {ts = ts} {v = v} {b = b} there =
      right_side (subst (λ (z : Option Read). AfterRightOperator G s r ts v b z (failed false (unread G.text r.right b.place)) zero) (sym there) right_unread)

  -- what consumed stands, whatever else might have followed
  pub right_committed : {r : Row} {ts : List Row} {v : List Tree} {b : Spot} {m : ℕ} (f : Error) (q : Read) (y : Outcome) →
      AnswersRight G s r ts v b (or_ambiguous f (then_operand fixity.Infix q y)) m → AnswersTail G s r ts v b (then_operand fixity.Infix q y) (m + zero)
  right_committed f q (ok d a w u e) h = row_tail h right_stands
  right_committed f q (failed d e) h = row_tail h right_commits
  right_committed f q empty_round h = row_tail h right_stuck

  -- ---- left-associative operators

  pub left_answered : {r : Row} {ts : List Row} {v : List Tree} {b : Spot} {q : Read} {x y : Outcome} {m n : ℕ} → read_at G.grammar G.text s.item r.left b.place ≡ Some q →
      AnswersRowOperand G s r ts (at b q.end) x m → AfterLeftOperand G s r ts v q x y n →
      AnswersLeft G s r ts v b (or_ambiguous (rights_and_nons G s r b.place) (then_operand fixity.Infix q y)) (m + n)
  left_answered {r = r} {ts = ts} {v = v} {b = b} {q = q} {y = y} {m = m} {n = n} there d f =
      left_side (subst (λ (z : Option Read). AfterLeftOperator G s r ts v b z (then_operand fixity.Infix q y) (m + n)) (sym there) (left_read d f))

  pub no_left_answered : {r : Row} {ts : List Row} {v : List Tree} {b : Spot} → read_at G.grammar G.text s.item r.left b.place ≡ None →
      AnswersLeft G s r ts v b (failed false (no_left G s r b.place)) zero
  no_left_answered {r = r} {ts = ts} {v = v} {b = b} there =
      left_side (subst (λ (z : Option Read). AfterLeftOperator G s r ts v b z (failed false (unread G.text r.left b.place)) zero) (sym there) left_unread)

  pub left_committed : {r : Row} {ts : List Row} {v : List Tree} {b : Spot} {m : ℕ} (f : Error) (q : Read) (y : Outcome) → read_at G.grammar G.text s.item r.right b.place ≡ None →
      AnswersLeft G s r ts v b (or_ambiguous f (then_operand fixity.Infix q y)) m → AnswersTail G s r ts v b (then_operand fixity.Infix q y) (zero + (m + zero))
  left_committed f q (ok d a w u e) none h = row_tail (no_right_answered none) (right_failed h left_stands)
  left_committed f q (failed d e) none h = row_tail (no_right_answered none) (right_failed h left_commits)
  left_committed f q empty_round none h = row_tail (no_right_answered none) (right_failed h left_stuck)

  -- ---- operators that are not associative

  pub non_answered : {r : Row} {ts : List Row} {v : List Tree} {b : Spot} {q : Read} {x : Outcome} {m : ℕ} → read_at G.grammar G.text s.item r.non b.place ≡ Some q →
      AnswersRowOperand G s r ts (at b q.end) x m → AnswersNon G s r ts v b (then_operand fixity.Infix q (with_last G.grammar G.text s r q v x)) m
  non_answered {r = r} {ts = ts} {v = v} {b = b} {q = q} {x = x} {m = m} there d = neither_side
      (subst (λ (z : Option Read). AfterNonOperator G s r ts v b z (then_operand fixity.Infix q (with_last G.grammar G.text s r q v x)) m) (sym there) (non_read d))

  pub non_committed : {r : Row} {ts : List Row} {v : List Tree} {b : Spot} {m : ℕ} (q : Read) (y : Outcome) → read_at G.grammar G.text s.item r.right b.place ≡ None →
      read_at G.grammar G.text s.item r.left b.place ≡ None → AnswersNon G s r ts v b (then_operand fixity.Infix q y) m →
      AnswersTail G s r ts v b (then_operand fixity.Infix q y) (zero + (zero + m))
  non_committed q (ok d a w u f) none none_left h = row_tail (no_right_answered none) (right_failed (no_left_answered none_left) (left_failed h))
  non_committed q (failed d f) none none_left h = row_tail (no_right_answered none) (right_failed (no_left_answered none_left) (left_failed h))
  non_committed q empty_round none none_left h = row_tail (no_right_answered none) (right_failed (no_left_answered none_left) (left_failed h))

  -- no infix operator of the row follows its first operand
  pub none_answered : {r : Row} {ts : List Row} {b : Spot} (v : List Tree) → read_at G.grammar G.text s.item r.right b.place ≡ None →
      read_at G.grammar G.text s.item r.left b.place ≡ None → read_at G.grammar G.text s.item r.non b.place ≡ None →
      AnswersTail G s r ts v b
      (after_failure (no_right G s r b.place) (after_failure (no_left G s r b.place) (or_return b v (failed false (unread G.text r.non b.place))))) (zero + (zero + zero))
  none_answered {r = r} {ts = ts} {b = b} v none none_left none_non =
      row_tail (no_right_answered none) (right_failed (no_left_answered none_left) (left_failed
      (neither_side (subst (λ (z : Option Read). AfterNonOperator G s r ts v b z (failed false (unread G.text r.non b.place)) zero) (sym none_non) non_unread))))
