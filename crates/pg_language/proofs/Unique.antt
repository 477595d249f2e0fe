-- There is at most one outcome, and one number of nodes: two runs are compared step by step. A second run's reaction is
-- to the outcome that the first run met, so that both react by one case.
use Rattle.std.proofs.Common.{◌≡◌, ℕ, suc, List, [], ◌∷◌, ◌++◌, Bool, Option, refl, sym, ap, subst}
use Rattle.std.specs.Prelude.{reverse}
use Rattle.pg_tree.specs.Trees.{Tree}
use Rattle.pg_tree.specs.declared.shape.Shape.{Shape}
use Rattle.pg_grammar_form.specs.Forms.{Node}
use Rattle.pg_grammar_value.specs.declared.grammar.Rule as declared
use Rattle.pg_language.specs.Derives.{Spot, applied}
use Rattle.pg_grammar_value.specs.declared.trail.TrailItem.{TrailItem}
use Rattle.pg_grammar_value.specs.declared.trail.TrailItem.TheVariants.{Alt, Ops}
use Rattle.pg_grammar_value.specs.declared.trail.Fixity.TheVariants as fixity
use Rattle.pg_grammar_form.specs.declared.operators_item.OperatorsItem.{OperatorsItem}
use Rattle.pg_expand.specs.Rows.{rows_of}
use Rattle.pg_expand.specs.declared.rows.Row.{Row}
use Rattle.pg_language.specs.Answers as answers
use Rattle.pg_language.specs.Answers.{Given, Answers, entered, AnswersForm, nothing, seq, choice, many, rule, AnswersParts, part, AfterPart, part_last, part_failed, part_stuck, part_ok, AnswersAlternatives, no_alternative, alternative, AfterAlternative, alternative_consumed, alternative_stands, alternative_waits, alternative_commits, alternative_failed, alternative_stuck, AnswersRounds, round, AfterRound, round_ended, round_failed, round_empty, round_stuck, round_ok, AnswersChain, first_operand, AfterFirst, first_failed, first_stuck, first_ok, AnswersLinks, link, AfterSeparator, separator_failed, separator_stuck, separator_ok, AfterOperand, operand_failed, operand_stuck, operand_ok, AnswersRows, only_term, loosest_row, AnswersRowOperand, row_operand, AfterRowOperand, row_failed, row_stuck, row_ok, AnswersTail, row_tail, AfterRight, right_stands, right_commits, right_stuck, right_failed, AfterLeft, left_stands, left_commits, left_stuck, left_failed, AnswersRight, right_side, AfterRightOperator, right_unread, right_read, AfterRightOperand, right_operand_failed, right_operand_stuck, right_operand_ok, AnswersLeft, left_side, AfterLeftOperator, left_unread, left_read, AfterLeftOperand, left_operand_failed, left_operand_stuck, left_operand_ok, AnswersNon, neither_side, AfterNonOperator, non_unread, non_read}
use Rattle.pg_language.specs.Errors.{Error, merge}
use Rattle.pg_grammar_form.specs.declared.side.Side.{Side}
use Rattle.pg_language.specs.OperatorReads.{Read}
use Rattle.pg_language.specs.Outcomes.{Outcome}
use Rattle.pg_language.specs.Reactions.{then_rest, then_round, noted, after_failure, unless_consumed, surrounded, as_finished}
use Rattle.pg_language.specs.RowReactions.{Setting, then_stretch, then_operand, as_applied, or_return, as_operand, labelled_operator, ambiguous_right, ambiguous_left, ambiguous_non, or_ambiguous, with_last}

-- the same outcome with the same number of nodes
pub record Same (o q : Outcome) (m n : ℕ) : Type 0 where
  pub outcome : o ≡ q
  pub count : m ≡ n

-- the same also in the number of rounds
record Alike (k l : ℕ) (o q : Outcome) (m n : ℕ) : Type 0 where
  rounds : k ≡ l
  outcome : o ≡ q
  count : m ≡ n

mutual
  pub same : {G : Given} {p : ℕ} {a : Spot} {o q : Outcome} {m n : ℕ} → Answers G p a o m → Answers G p a q n → Same o q m n
  same {G = G} (entered {n = f} {a = a} e d) (entered {m = n} {n = g} {o = q} h r) =
      let one : g ≡ f = cc in
      let s = same_form d (subst (λ (f : Node). AnswersForm G f a q n) one r) in
      record { outcome = s.outcome; count = ap suc s.count }

  same_form : {G : Given} {f : Node} {a : Spot} {o q : Outcome} {m n : ℕ} → AnswersForm G f a o m → AnswersForm G f a q n → Same o q m n
  same_form (answers.leaf e) (answers.leaf h) = record { outcome = cc; count = refl }
  same_form nothing nothing = record { outcome = refl; count = refl }
  same_form (seq d) (seq r) = same_parts d r
  same_form (choice d) (choice r) = same_alternatives d r
  same_form (many d) (many r) = let s = same_rounds d r in record { outcome = cc; count = s.count }
  same_form (answers.chain d) (answers.chain r) = let s = same_chain d r in record { outcome = cc; count = s.count }
  same_form {G = G} (rule {named = named} {a = a} e d) (rule {m = n} {named = other} {o = q} h r) =
      let one : other ≡ named = cc in
      same d (subst (λ (named : declared.Rule). Answers G named.body a q n) one r)
  same_form {G = G} (answers.expression {item = item} {builders = builders} {p = p} {a = a} e d) (answers.expression {item = other} {m = n} {o = q} h r) =
      let one : other ≡ item = cc in
      same_rows d (subst (λ (i : OperatorsItem). AnswersRows G (record { item = i; builders = builders; term = p }) (reverse (rows_of a.table.operators)) a q n) one r)
  same_form {G = G} (answers.around {k = k} {a = a} d) (answers.around r) =
      let s = same d r in record { outcome = ap (surrounded k G.text a) s.outcome; count = s.count }

  same_parts : {G : Given} {p : ℕ} {ps : List ℕ} {a : Spot} {o q : Outcome} {m n : ℕ} → AnswersParts G p ps a o m → AnswersParts G p ps a q n → Same o q m n
  same_parts {G = G} (part {ps = ps} d r) (part {n = n} {o = q} e t) =
      let s = same d e in
      let z = same_after_part r (subst (λ x. AfterPart G ps x q n) (sym s.outcome) t) in
      record { outcome = z.outcome; count = cc }

  same_after_part : {G : Given} {ps : List ℕ} {x o q : Outcome} {m n : ℕ} → AfterPart G ps x o m → AfterPart G ps x q n → Same o q m n
  same_after_part part_last part_last = record { outcome = refl; count = refl }
  same_after_part part_failed part_failed = record { outcome = refl; count = refl }
  same_after_part part_stuck part_stuck = record { outcome = refl; count = refl }
  same_after_part (part_ok {c = c} {v = v} {t = t} {e = e} d) (part_ok r) =
      let s = same_parts d r in record { outcome = ap (then_rest c v t e) s.outcome; count = s.count }

  same_alternatives : {G : Given} {k : ℕ} {ps : List ℕ} {a : Spot} {o q : Outcome} {m n : ℕ} →
      AnswersAlternatives G k ps a o m → AnswersAlternatives G k ps a q n → Same o q m n
  same_alternatives no_alternative no_alternative = record { outcome = refl; count = refl }
  same_alternatives {G = G} (alternative {k = k} {ps = ps} {a = a} d r) (alternative {n = n} {o = q} e t) =
      let s = same d e in
      let z = same_after_alternative r (subst (λ x. AfterAlternative G k ps a x q n) (sym s.outcome) t) in
      record { outcome = z.outcome; count = cc }

  same_after_alternative : {G : Given} {k : ℕ} {ps : List ℕ} {a : Spot} {x o q : Outcome} {m n : ℕ} →
      AfterAlternative G k ps a x o m → AfterAlternative G k ps a x q n → Same o q m n
  same_after_alternative alternative_consumed alternative_consumed = record { outcome = refl; count = refl }
  same_after_alternative (alternative_stands e) (alternative_stands h) = record { outcome = refl; count = refl }
  same_after_alternative (alternative_stands e) (alternative_waits h r) = absurd cc
  same_after_alternative (alternative_waits e d) (alternative_stands h) = absurd cc
  same_after_alternative (alternative_waits {k = k} {b = b} {v = v} {t = t} {e = e} x d) (alternative_waits h r) =
      let s = same_alternatives d r in record { outcome = ap (unless_consumed b v (Alt k ∷ t) e) s.outcome; count = s.count }
  same_after_alternative alternative_commits alternative_commits = record { outcome = refl; count = refl }
  same_after_alternative (alternative_failed {e = e} d) (alternative_failed r) =
      let s = same_alternatives d r in record { outcome = ap (after_failure e) s.outcome; count = s.count }
  same_after_alternative alternative_stuck alternative_stuck = record { outcome = refl; count = refl }

  same_rounds : {G : Given} {p k l : ℕ} {a : Spot} {o q : Outcome} {m n : ℕ} → AnswersRounds G p k a o m → AnswersRounds G p l a q n → Alike k l o q m n
  same_rounds {G = G} (round {p = p} {a = a} d r) (round {k = l} {n = n} {o = q} e t) =
      let s = same d e in
      let z = same_after_round r (subst (λ x. AfterRound G p l a x q n) (sym s.outcome) t) in
      record { rounds = z.rounds; outcome = z.outcome; count = cc }

  same_after_round : {G : Given} {p k l : ℕ} {a : Spot} {x o q : Outcome} {m n : ℕ} → AfterRound G p k a x o m → AfterRound G p l a x q n → Alike k l o q m n
  same_after_round round_ended round_ended = record { rounds = refl; outcome = refl; count = refl }
  same_after_round round_failed round_failed = record { rounds = refl; outcome = refl; count = refl }
  same_after_round round_empty round_empty = record { rounds = refl; outcome = refl; count = refl }
  same_after_round round_stuck round_stuck = record { rounds = refl; outcome = refl; count = refl }
  same_after_round (round_ok {v = v} {t = t} d) (round_ok r) =
      let s = same_rounds d r in record { rounds = ap suc s.rounds; outcome = ap (then_round v t) s.outcome; count = s.count }

  same_chain : {G : Given} {side : Side} {shape : Shape} {p s k l : ℕ} {a : Spot} {o q : Outcome} {m n : ℕ} →
      AnswersChain G side shape p s k a o m → AnswersChain G side shape p s l a q n → Alike k l o q m n
  same_chain {G = G} (first_operand {side = side} {shape = shape} {p = p} {s = s} d r) (first_operand {k = l} {n = n} {o = q} e t) =
      let u = same d e in
      let z = same_after_first r (subst (λ x. AfterFirst G side shape p s l x q n) (sym u.outcome) t) in
      record { rounds = z.rounds; outcome = z.outcome; count = cc }

  same_after_first : {G : Given} {side : Side} {shape : Shape} {p s k l : ℕ} {x o q : Outcome} {m n : ℕ} →
      AfterFirst G side shape p s k x o m → AfterFirst G side shape p s l x q n → Alike k l o q m n
  same_after_first first_failed first_failed = record { rounds = refl; outcome = refl; count = refl }
  same_after_first first_stuck first_stuck = record { rounds = refl; outcome = refl; count = refl }
  same_after_first (first_ok {c = c} {t = t} {e = e} d) (first_ok r) =
      let s = same_links d r in record { rounds = s.rounds; outcome = ap (then_rest c [] t e) s.outcome; count = s.count }

  same_links : {G : Given} {side : Side} {shape : Shape} {p s : ℕ} {left : List Tree} {k l : ℕ} {a : Spot} {o q : Outcome} {m n : ℕ} →
      AnswersLinks G side shape p s left k a o m → AnswersLinks G side shape p s left l a q n → Alike k l o q m n
  same_links {G = G} (link {side = side} {shape = shape} {p = p} {s = s} {left = left} {a = a} d r) (link {k = l} {n = n} {o = q} e t) =
      let u = same d e in
      let z = same_after_separator r (subst (λ x. AfterSeparator G side shape p s left l a x q n) (sym u.outcome) t) in
      record { rounds = z.rounds; outcome = z.outcome; count = cc }

  same_after_separator : {G : Given} {side : Side} {shape : Shape} {p s : ℕ} {left : List Tree} {k l : ℕ} {a : Spot} {x o q : Outcome} {m n : ℕ} →
      AfterSeparator G side shape p s left k a x o m → AfterSeparator G side shape p s left l a x q n → Alike k l o q m n
  same_after_separator separator_failed separator_failed = record { rounds = refl; outcome = refl; count = refl }
  same_after_separator separator_stuck separator_stuck = record { rounds = refl; outcome = refl; count = refl }
  same_after_separator {G = G} (separator_ok {side = side} {shape = shape} {p = p} {s = s} {left = left} {v = v} {a = a} {c = c} {t = t} {e = e} d r)
      (separator_ok {k = l} {n = n} {o = q} f u) =
      let w = same d f in
      let z = same_after_operand r (subst (λ x. AfterOperand G side shape p s left l a c v t e x q n) (sym w.outcome) u) in
      record { rounds = z.rounds; outcome = z.outcome; count = cc }

  same_after_operand : {G : Given} {side : Side} {shape : Shape} {p s : ℕ} {left : List Tree} {k l : ℕ} {a : Spot} {c : Bool} {v : List Tree} {t : List TrailItem} {e : Error} {x o q : Outcome} {m n : ℕ} →
      AfterOperand G side shape p s left k a c v t e x o m → AfterOperand G side shape p s left l a c v t e x q n → Alike k l o q m n
  same_after_operand operand_failed operand_failed = record { rounds = refl; outcome = refl; count = refl }
  same_after_operand operand_stuck operand_stuck = record { rounds = refl; outcome = refl; count = refl }
  same_after_operand {side = side} {shape = shape} (operand_ok {left = left} {v = v} {c = c} {d = d} {t = t} {u = u} {e = e} {f = f} h x) (operand_ok g y) =
      let s = same_links x y in
      record {
        rounds = ap suc s.rounds;
        outcome = ap (λ o. then_rest c [] t e (then_rest d [] u f (as_finished side shape left v o))) s.outcome;
        count = s.count;
      }

  -- ---- expressions

  same_rows : {G : Given} {s : Setting} {rows : List Row} {a : Spot} {o q : Outcome} {m n : ℕ} →
      AnswersRows G s rows a o m → AnswersRows G s rows a q n → Same o q m n
  same_rows (only_term d) (only_term r) = let u = same d r in record { outcome = ap (noted (Ops [])) u.outcome; count = u.count }
  same_rows {G = G} (loosest_row {s = s} {r = r} {tighter = tighter} d x) (loosest_row {n = n} {o = q} e y) =
      let u = same_row_operand d e in
      let z = same_after_row x (subst (λ x. AfterRowOperand G s r tighter x q n) (sym u.outcome) y) in
      record { outcome = z.outcome; count = cc }

  same_row_operand : {G : Given} {s : Setting} {r : Row} {tighter : List Row} {a : Spot} {o q : Outcome} {m n : ℕ} →
      AnswersRowOperand G s r tighter a o m → AnswersRowOperand G s r tighter a q n → Same o q m n
  same_row_operand {G = G} (row_operand {s = s} {r = r} {a = a} d) (row_operand e) =
      let u = same_rows d e in record { outcome = ap (as_operand G.grammar G.text s r a) u.outcome; count = u.count }

  same_after_row : {G : Given} {s : Setting} {r : Row} {tighter : List Row} {x o q : Outcome} {m n : ℕ} →
      AfterRowOperand G s r tighter x o m → AfterRowOperand G s r tighter x q n → Same o q m n
  same_after_row row_failed row_failed = record { outcome = refl; count = refl }
  same_after_row row_stuck row_stuck = record { outcome = refl; count = refl }
  same_after_row (row_ok {c = c} {t = t} {e = e} d) (row_ok r) =
      let u = same_tail d r in record { outcome = ap (λ o. then_stretch c t e (labelled_operator o)) u.outcome; count = u.count }

  same_tail : {G : Given} {s : Setting} {r : Row} {tighter : List Row} {v : List Tree} {a : Spot} {o q : Outcome} {m n : ℕ} →
      AnswersTail G s r tighter v a o m → AnswersTail G s r tighter v a q n → Same o q m n
  same_tail {G = G} (row_tail {s = s} {r = r} {tighter = tighter} {v = v} {a = a} d x) (row_tail {n = n} {o = q} e y) =
      let u = same_right d e in
      let z = same_after_right x (subst (λ x. AfterRight G s r tighter v a x q n) (sym u.outcome) y) in
      record { outcome = z.outcome; count = cc }

  same_after_right : {G : Given} {s : Setting} {r : Row} {tighter : List Row} {v : List Tree} {a : Spot} {x o q : Outcome} {m n : ℕ} →
      AfterRight G s r tighter v a x o m → AfterRight G s r tighter v a x q n → Same o q m n
  same_after_right right_stands right_stands = record { outcome = refl; count = refl }
  same_after_right right_commits right_commits = record { outcome = refl; count = refl }
  same_after_right right_stuck right_stuck = record { outcome = refl; count = refl }
  same_after_right {G = G} (right_failed {s = s} {r = r} {tighter = tighter} {v = v} {a = a} {e = e} d x) (right_failed {n = n} {o = q} f y) =
      let u = same_left d f in
      let z = same_after_left x (subst (λ x. AfterLeft G s r tighter v a x q n) (sym u.outcome) y) in
      record { outcome = ap (after_failure e) z.outcome; count = cc }

  same_after_left : {G : Given} {s : Setting} {r : Row} {tighter : List Row} {v : List Tree} {a : Spot} {x o q : Outcome} {m n : ℕ} →
      AfterLeft G s r tighter v a x o m → AfterLeft G s r tighter v a x q n → Same o q m n
  same_after_left left_stands left_stands = record { outcome = refl; count = refl }
  same_after_left left_commits left_commits = record { outcome = refl; count = refl }
  same_after_left left_stuck left_stuck = record { outcome = refl; count = refl }
  same_after_left (left_failed {v = v} {a = a} {e = e} d) (left_failed r) =
      let u = same_non d r in record { outcome = ap (λ o. after_failure e (or_return a v o)) u.outcome; count = u.count }

  same_right : {G : Given} {s : Setting} {r : Row} {tighter : List Row} {v : List Tree} {a : Spot} {o q : Outcome} {m n : ℕ} →
      AnswersRight G s r tighter v a o m → AnswersRight G s r tighter v a q n → Same o q m n
  same_right {G = G} (right_side {s = s} {r = r} {a = a} d) (right_side e) =
      let u = same_after_right_operator d e in
      record {
        outcome = ap (or_ambiguous (merge (ambiguous_left G.grammar G.text s.item r a.place) (ambiguous_non G.grammar G.text s.item r a.place))) u.outcome;
        count = u.count;
      }

  same_after_right_operator : {G : Given} {s : Setting} {r : Row} {tighter : List Row} {v : List Tree} {a : Spot} {w : Option Read} {o q : Outcome} {m n : ℕ} →
      AfterRightOperator G s r tighter v a w o m → AfterRightOperator G s r tighter v a w q n → Same o q m n
  same_after_right_operator right_unread right_unread = record { outcome = refl; count = refl }
  same_after_right_operator {G = G} (right_read {s = s} {r = r} {tighter = tighter} {v = v} {a = a} {q = w} d x) (right_read {n = n} {o = q} e y) =
      let u = same_row_operand d e in
      let z = same_after_right_operand x (subst (λ x. AfterRightOperand G s r tighter x q n) (sym u.outcome) y) in
      record { outcome = ap (λ o. then_operand fixity.Infix w (as_applied s.builders.infix w.operator v o)) z.outcome; count = cc }

  same_after_right_operand : {G : Given} {s : Setting} {r : Row} {tighter : List Row} {x o q : Outcome} {m n : ℕ} →
      AfterRightOperand G s r tighter x o m → AfterRightOperand G s r tighter x q n → Same o q m n
  same_after_right_operand right_operand_failed right_operand_failed = record { outcome = refl; count = refl }
  same_after_right_operand right_operand_stuck right_operand_stuck = record { outcome = refl; count = refl }
  same_after_right_operand (right_operand_ok {c = c} {b = b} {w = w} {t = t} {e = e} d) (right_operand_ok r) =
      let u = same_right d r in record { outcome = ap (λ o. then_stretch c t e (or_return b w o)) u.outcome; count = u.count }

  same_left : {G : Given} {s : Setting} {r : Row} {tighter : List Row} {v : List Tree} {a : Spot} {o q : Outcome} {m n : ℕ} →
      AnswersLeft G s r tighter v a o m → AnswersLeft G s r tighter v a q n → Same o q m n
  same_left {G = G} (left_side {s = s} {r = r} {a = a} d) (left_side e) =
      let u = same_after_left_operator d e in
      record {
        outcome = ap (or_ambiguous (merge (ambiguous_right G.grammar G.text s.item r a.place) (ambiguous_non G.grammar G.text s.item r a.place))) u.outcome;
        count = u.count;
      }

  same_after_left_operator : {G : Given} {s : Setting} {r : Row} {tighter : List Row} {v : List Tree} {a : Spot} {w : Option Read} {o q : Outcome} {m n : ℕ} →
      AfterLeftOperator G s r tighter v a w o m → AfterLeftOperator G s r tighter v a w q n → Same o q m n
  same_after_left_operator left_unread left_unread = record { outcome = refl; count = refl }
  same_after_left_operator {G = G} (left_read {s = s} {r = r} {tighter = tighter} {v = v} {a = a} {q = w} d x) (left_read {n = n} {o = q} e y) =
      let u = same_row_operand d e in
      let z = same_after_left_operand x (subst (λ x. AfterLeftOperand G s r tighter v w x q n) (sym u.outcome) y) in
      record { outcome = ap (then_operand fixity.Infix w) z.outcome; count = cc }

  same_after_left_operand : {G : Given} {s : Setting} {r : Row} {tighter : List Row} {v : List Tree} {w : Read} {x o q : Outcome} {m n : ℕ} →
      AfterLeftOperand G s r tighter v w x o m → AfterLeftOperand G s r tighter v w x q n → Same o q m n
  same_after_left_operand left_operand_failed left_operand_failed = record { outcome = refl; count = refl }
  same_after_left_operand left_operand_stuck left_operand_stuck = record { outcome = refl; count = refl }
  same_after_left_operand (left_operand_ok {s = s} {v = v} {w = w} {q = r} {c = c} {b = b} {t = t} {e = e} d) (left_operand_ok f) =
      let u = same_left d f in
      record { outcome = ap (λ o. then_stretch c t e (or_return b (applied s.builders.infix r.operator (v ++ w)) o)) u.outcome; count = u.count }

  same_non : {G : Given} {s : Setting} {r : Row} {tighter : List Row} {v : List Tree} {a : Spot} {o q : Outcome} {m n : ℕ} →
      AnswersNon G s r tighter v a o m → AnswersNon G s r tighter v a q n → Same o q m n
  same_non {G = G} (neither_side d) (neither_side e) = same_after_non_operator d e

  same_after_non_operator : {G : Given} {s : Setting} {r : Row} {tighter : List Row} {v : List Tree} {a : Spot} {w : Option Read} {o q : Outcome} {m n : ℕ} →
      AfterNonOperator G s r tighter v a w o m → AfterNonOperator G s r tighter v a w q n → Same o q m n
  same_after_non_operator non_unread non_unread = record { outcome = refl; count = refl }
  same_after_non_operator {G = G} (non_read {s = s} {r = r} {v = v} {a = a} {q = w} d) (non_read e) =
      let u = same_row_operand d e in
      record { outcome = ap (λ x. then_operand fixity.Infix w (with_last G.grammar G.text s r w v x)) u.outcome; count = u.count }
