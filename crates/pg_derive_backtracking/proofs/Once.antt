-- All runs of a node at one place have one log: two runs are compared step by step. A second run's reaction is to the outcome
-- that the first run met, so that both react by one case, and note the same.
use Rattle.std.proofs.Common.{◌≡◌, ℕ, List, [], ◌∷◌, ◌++◌, Bool, Option, refl, sym, ap, ap₂, ◌∙◌, subst}
use Rattle.std.specs.Prelude.{reverse}
use mathlib.Core.Path.{path_j, subst_refl}
use Rattle.pg_tree.specs.Trees.{Tree}
use Rattle.pg_tree.specs.declared.shape.Shape.{Shape}
use Rattle.pg_grammar_form.specs.Forms.{Node}
use Rattle.pg_grammar_form.specs.declared.side.Side.{Side}
use Rattle.pg_grammar_form.specs.declared.operators_item.OperatorsItem.{OperatorsItem}
use Rattle.pg_grammar_value.specs.declared.grammar.Rule as declared
use Rattle.pg_grammar_value.specs.declared.trail.TrailItem.{TrailItem}
use Rattle.pg_grammar_value.specs.declared.trail.TrailItem.TheVariants.{Ops}
use Rattle.pg_grammar_value.specs.declared.trail.Fixity.TheVariants as fixity
use Rattle.pg_expand.specs.Rows.{rows_of}
use Rattle.pg_expand.specs.declared.rows.Row.{Row}
use Rattle.pg_language.specs.Answers as answers
use Rattle.pg_language.specs.Answers.{Given, Answers, entered, AnswersForm, nothing, seq, choice, many, rule, AnswersParts, part, AfterPart, part_last, part_failed, part_stuck, part_ok, AnswersAlternatives, no_alternative, alternative, AfterAlternative, alternative_consumed, alternative_stands, alternative_waits, alternative_commits, alternative_failed, alternative_stuck, AnswersRounds, round, AfterRound, round_ended, round_failed, round_empty, round_stuck, round_ok, AnswersChain, first_operand, AfterFirst, first_failed, first_stuck, first_ok, AnswersLinks, link, AfterSeparator, separator_failed, separator_stuck, separator_ok, AfterOperand, operand_failed, operand_stuck, operand_ok, AnswersRows, only_term, loosest_row, AnswersRowOperand, row_operand, AfterRowOperand, row_failed, row_stuck, row_ok, AnswersTail, row_tail, AfterRight, right_stands, right_commits, right_stuck, right_failed, AfterLeft, left_stands, left_commits, left_stuck, left_failed, AnswersRight, right_side, AfterRightOperator, right_unread, right_read, AfterRightOperand, right_operand_failed, right_operand_stuck, right_operand_ok, AnswersLeft, left_side, AfterLeftOperator, left_unread, left_read, AfterLeftOperand, left_operand_failed, left_operand_stuck, left_operand_ok, AnswersNon, neither_side, AfterNonOperator, non_unread, non_read}
use Rattle.pg_language.specs.Derives.{Spot, applied}
use Rattle.pg_language.specs.Errors.{Error, merge}
use Rattle.pg_language.specs.OperatorReads.{Read, read_at}
use Rattle.pg_language.specs.Outcomes.{Outcome}
use Rattle.pg_language.specs.Reactions.{noted, after_failure}
use Rattle.pg_language.specs.RowReactions.{Setting, then_stretch, then_operand, as_applied, or_return, as_operand, labelled_operator, ambiguous_right, ambiguous_left, ambiguous_non, or_ambiguous, with_last}
use Rattle.pg_language.proofs.Unique.{same}
use Rattle.pg_derive_backtracking.specs.Events.{Event, Consumed, leaf_log, operator_log, around_log}
use Rattle.pg_derive_backtracking.specs.Logs.{log, form_log, parts_log, after_part_log, alternatives_log, after_alternative_log, rounds_log, after_round_log, chain_log, after_first_log, links_log, after_separator_log, after_operand_log, rows_log, row_operand_log, after_row_log, tail_log, after_right_log, after_left_log, right_log, right_operator_log, right_operand_log, left_log, left_operator_log, left_operand_log, non_log, non_operator_log, postfix_log}

-- what is read off something isn't changed by another name of it
renamed : {A : Type 0} (P : A → Type 0) (f : (x : A) → P x → List Event) {x y : A} (e : x ≡ y) (t : P x) → f y (subst P e t) ≡ f x t
renamed P f {x = x} e t = path_j (λ y e. f y (subst P e t) ≡ f x t) (ap (f x) (subst_refl P t)) e

-- the same outcome and the same log
record Once (o q : Outcome) (l k : List Event) : Type 0 where
  outcome : o ≡ q
  log : l ≡ k

mutual
  pub one_log : {G : Given} {p : ℕ} {a : Spot} {o q : Outcome} {m n : ℕ} (d : Answers G p a o m) (e : Answers G p a q n) → log d ≡ log e
  one_log {G = G} (entered {n = f} {a = a} e d) (entered {m = n} {n = g} {o = q} h r) =
      let one : g ≡ f = cc in
      one_form d (subst (λ (f : Node). AnswersForm G f a q n) one r) ∙ renamed (λ (f : Node). AnswersForm G f a q n) (λ x d. form_log d) one r

  one_form : {G : Given} {f : Node} {a : Spot} {o q : Outcome} {m n : ℕ} (d : AnswersForm G f a o m) (e : AnswersForm G f a q n) → form_log d ≡ form_log e
  one_form (answers.leaf {a = a} {o = o} e) (answers.leaf {o = q} h) = let one : o ≡ q = cc in ap (leaf_log a.place) one
  one_form nothing nothing = refl
  one_form (seq d) (seq r) = one_parts d r
  one_form (choice d) (choice r) = one_alternatives d r
  one_form (many d) (many r) = one_rounds d r
  one_form (answers.chain d) (answers.chain r) = one_chain d r
  one_form {G = G} (rule {named = named} {a = a} e d) (rule {m = n} {named = other} {o = q} h r) =
      let one : other ≡ named = cc in
      one_log d (subst (λ (named : declared.Rule). Answers G named.body a q n) one r) ∙ renamed (λ (named : declared.Rule). Answers G named.body a q n) (λ x d. log d) one r
  one_form {G = G} (answers.expression {item = item} {builders = builders} {p = p} {a = a} e d) (answers.expression {item = other} {m = n} {o = q} h r) =
      let one : other ≡ item = cc in
      (one_rows d (subst (λ (i : OperatorsItem). AnswersRows G (record { item = i; builders = builders; term = p }) (reverse (rows_of a.table.operators)) a q n) one r)).log
      ∙ renamed (λ (i : OperatorsItem). AnswersRows G (record { item = i; builders = builders; term = p }) (reverse (rows_of a.table.operators)) a q n) (λ x d. rows_log d) one r
  one_form {G = G} (answers.around {k = k} {p = p} {a = a} d) (answers.around r) =
      ap₂ (around_log G.grammar.nodes k p a.place) (same d r).outcome (one_log d r)

  one_parts : {G : Given} {p : ℕ} {ps : List ℕ} {a : Spot} {o q : Outcome} {m n : ℕ} (d : AnswersParts G p ps a o m) (e : AnswersParts G p ps a q n) → parts_log d ≡ parts_log e
  one_parts {G = G} (part {ps = ps} d r) (part {n = n} {o = q} e t) =
      let s = sym (same d e).outcome in
      ap₂ (λ l k. l ++ k) (one_log d e) (one_after_part r (subst (λ x. AfterPart G ps x q n) s t) ∙ renamed (λ x. AfterPart G ps x q n) (λ x d. after_part_log d) s t)

  one_after_part : {G : Given} {ps : List ℕ} {x o q : Outcome} {m n : ℕ} (d : AfterPart G ps x o m) (e : AfterPart G ps x q n) → after_part_log d ≡ after_part_log e
  one_after_part part_last part_last = refl
  one_after_part part_failed part_failed = refl
  one_after_part part_stuck part_stuck = refl
  one_after_part (part_ok d) (part_ok r) = one_parts d r

  one_alternatives : {G : Given} {k : ℕ} {ps : List ℕ} {a : Spot} {o q : Outcome} {m n : ℕ} (d : AnswersAlternatives G k ps a o m) (e : AnswersAlternatives G k ps a q n) → alternatives_log d ≡ alternatives_log e
  one_alternatives no_alternative no_alternative = refl
  one_alternatives {G = G} (alternative {k = k} {ps = ps} {a = a} d r) (alternative {n = n} {o = q} e t) =
      let s = sym (same d e).outcome in
      ap₂ (λ l k. l ++ k) (one_log d e)
      (one_after_alternative r (subst (λ x. AfterAlternative G k ps a x q n) s t) ∙ renamed (λ x. AfterAlternative G k ps a x q n) (λ x d. after_alternative_log d) s t)

  one_after_alternative : {G : Given} {k : ℕ} {ps : List ℕ} {a : Spot} {x o q : Outcome} {m n : ℕ} (d : AfterAlternative G k ps a x o m) (e : AfterAlternative G k ps a x q n) →
      after_alternative_log d ≡ after_alternative_log e
  one_after_alternative alternative_consumed alternative_consumed = refl
  one_after_alternative (alternative_stands e) (alternative_stands h) = refl
  one_after_alternative (alternative_stands e) (alternative_waits h r) = absurd cc
  one_after_alternative (alternative_waits e d) (alternative_stands h) = absurd cc
  one_after_alternative (alternative_waits e d) (alternative_waits h r) = one_alternatives d r
  one_after_alternative alternative_commits alternative_commits = refl
  one_after_alternative (alternative_failed d) (alternative_failed r) = one_alternatives d r
  one_after_alternative alternative_stuck alternative_stuck = refl

  one_rounds : {G : Given} {p k l : ℕ} {a : Spot} {o q : Outcome} {m n : ℕ} (d : AnswersRounds G p k a o m) (e : AnswersRounds G p l a q n) → rounds_log d ≡ rounds_log e
  one_rounds {G = G} (round {p = p} {a = a} d r) (round {k = l} {n = n} {o = q} e t) =
      let s = sym (same d e).outcome in
      ap₂ (λ l k. l ++ k) (one_log d e) (one_after_round r (subst (λ x. AfterRound G p l a x q n) s t) ∙ renamed (λ x. AfterRound G p l a x q n) (λ x d. after_round_log d) s t)

  one_after_round : {G : Given} {p k l : ℕ} {a : Spot} {x o q : Outcome} {m n : ℕ} (d : AfterRound G p k a x o m) (e : AfterRound G p l a x q n) → after_round_log d ≡ after_round_log e
  one_after_round round_ended round_ended = refl
  one_after_round round_failed round_failed = refl
  one_after_round round_empty round_empty = refl
  one_after_round round_stuck round_stuck = refl
  one_after_round (round_ok d) (round_ok r) = one_rounds d r

  one_chain : {G : Given} {side : Side} {shape : Shape} {p s k l : ℕ} {a : Spot} {o q : Outcome} {m n : ℕ} (d : AnswersChain G side shape p s k a o m) (e : AnswersChain G side shape p s l a q n) →
      chain_log d ≡ chain_log e
  one_chain {G = G} (first_operand {side = side} {shape = shape} {p = p} {s = s} d r) (first_operand {k = l} {n = n} {o = q} e t) =
      let u = sym (same d e).outcome in
      ap₂ (λ l k. l ++ k) (one_log d e) (one_after_first r (subst (λ x. AfterFirst G side shape p s l x q n) u t) ∙ renamed (λ x. AfterFirst G side shape p s l x q n) (λ x d. after_first_log d) u t)

  one_after_first : {G : Given} {side : Side} {shape : Shape} {p s k l : ℕ} {x o q : Outcome} {m n : ℕ} (d : AfterFirst G side shape p s k x o m) (e : AfterFirst G side shape p s l x q n) →
      after_first_log d ≡ after_first_log e
  one_after_first first_failed first_failed = refl
  one_after_first first_stuck first_stuck = refl
  one_after_first (first_ok d) (first_ok r) = one_links d r

  one_links : {G : Given} {side : Side} {shape : Shape} {p s : ℕ} {left : List Tree} {k l : ℕ} {a : Spot} {o q : Outcome} {m n : ℕ}
      (d : AnswersLinks G side shape p s left k a o m) (e : AnswersLinks G side shape p s left l a q n) → links_log d ≡ links_log e
  one_links {G = G} (link {side = side} {shape = shape} {p = p} {s = s} {left = left} {a = a} d r) (link {k = l} {n = n} {o = q} e t) =
      let u = sym (same d e).outcome in
      ap₂ (λ l k. l ++ k) (one_log d e)
      (one_after_separator r (subst (λ x. AfterSeparator G side shape p s left l a x q n) u t) ∙ renamed (λ x. AfterSeparator G side shape p s left l a x q n) (λ x d. after_separator_log d) u t)

  one_after_separator : {G : Given} {side : Side} {shape : Shape} {p s : ℕ} {left : List Tree} {k l : ℕ} {a : Spot} {x o q : Outcome} {m n : ℕ}
      (d : AfterSeparator G side shape p s left k a x o m) (e : AfterSeparator G side shape p s left l a x q n) → after_separator_log d ≡ after_separator_log e
  one_after_separator separator_failed separator_failed = refl
  one_after_separator separator_stuck separator_stuck = refl
  one_after_separator {G = G} (separator_ok {side = side} {shape = shape} {p = p} {s = s} {left = left} {v = v} {a = a} {c = c} {t = t} {e = e} d r)
      (separator_ok {k = l} {n = n} {o = q} f u) =
      let w = sym (same d f).outcome in
      ap₂ (λ l k. l ++ k) (one_log d f)
      (one_after_operand r (subst (λ x. AfterOperand G side shape p s left l a c v t e x q n) w u) ∙ renamed (λ x. AfterOperand G side shape p s left l a c v t e x q n) (λ x d. after_operand_log d) w u)

  one_after_operand : {G : Given} {side : Side} {shape : Shape} {p s : ℕ} {left : List Tree} {k l : ℕ} {a : Spot} {c : Bool} {v : List Tree} {t : List TrailItem} {e : Error} {x o q : Outcome} {m n : ℕ}
      (d : AfterOperand G side shape p s left k a c v t e x o m) (r : AfterOperand G side shape p s left l a c v t e x q n) → after_operand_log d ≡ after_operand_log r
  one_after_operand operand_failed operand_failed = refl
  one_after_operand operand_stuck operand_stuck = refl
  one_after_operand (operand_ok h x) (operand_ok g y) = one_links x y

  -- ---- expressions

  one_rows : {G : Given} {s : Setting} {rows : List Row} {a : Spot} {o q : Outcome} {m n : ℕ} (d : AnswersRows G s rows a o m) (e : AnswersRows G s rows a q n) → Once o q (rows_log d) (rows_log e)
  one_rows (only_term d) (only_term r) = record { outcome = ap (noted (Ops [])) (same d r).outcome; log = one_log d r }
  one_rows {G = G} (loosest_row {s = s} {r = r} {tighter = tighter} d x) (loosest_row {n = n} {o = q} e y) =
      let z = one_row_operand d e in
      let u = sym z.outcome in
      let w = one_after_row x (subst (λ x. AfterRowOperand G s r tighter x q n) u y) in
      record { outcome = w.outcome; log = ap₂ (λ l k. l ++ k) z.log (w.log ∙ renamed (λ x. AfterRowOperand G s r tighter x q n) (λ x d. after_row_log d) u y) }

  one_row_operand : {G : Given} {s : Setting} {r : Row} {tighter : List Row} {a : Spot} {o q : Outcome} {m n : ℕ} (d : AnswersRowOperand G s r tighter a o m) (e : AnswersRowOperand G s r tighter a q n) →
      Once o q (row_operand_log d) (row_operand_log e)
  one_row_operand {G = G} (row_operand {s = s} {r = r} {a = a} d) (row_operand e) =
      let u = one_rows d e in
      record {
        outcome = ap (as_operand G.grammar G.text s r a) u.outcome;
        log = ap₂ (λ l x. (operator_log a.place (read_at G.grammar G.text s.item r.prefix a.place) ++ l) ++ postfix_log G s r x) u.log u.outcome;
      }

  one_after_row : {G : Given} {s : Setting} {r : Row} {tighter : List Row} {x o q : Outcome} {m n : ℕ} (d : AfterRowOperand G s r tighter x o m) (e : AfterRowOperand G s r tighter x q n) →
      Once o q (after_row_log d) (after_row_log e)
  one_after_row row_failed row_failed = record { outcome = refl; log = refl }
  one_after_row row_stuck row_stuck = record { outcome = refl; log = refl }
  one_after_row (row_ok {c = c} {t = t} {e = e} d) (row_ok r) =
      let u = one_tail d r in record { outcome = ap (λ o. then_stretch c t e (labelled_operator o)) u.outcome; log = u.log }

  one_tail : {G : Given} {s : Setting} {r : Row} {tighter : List Row} {v : List Tree} {a : Spot} {o q : Outcome} {m n : ℕ} (d : AnswersTail G s r tighter v a o m) (e : AnswersTail G s r tighter v a q n) →
      Once o q (tail_log d) (tail_log e)
  one_tail {G = G} (row_tail {s = s} {r = r} {tighter = tighter} {v = v} {a = a} d x) (row_tail {n = n} {o = q} e y) =
      let z = one_right d e in
      let u = sym z.outcome in
      let w = one_after_right x (subst (λ x. AfterRight G s r tighter v a x q n) u y) in
      record { outcome = w.outcome; log = ap₂ (λ l k. l ++ k) z.log (w.log ∙ renamed (λ x. AfterRight G s r tighter v a x q n) (λ x d. after_right_log d) u y) }

  one_after_right : {G : Given} {s : Setting} {r : Row} {tighter : List Row} {v : List Tree} {a : Spot} {x o q : Outcome} {m n : ℕ} (d : AfterRight G s r tighter v a x o m) (e : AfterRight G s r tighter v a x q n) →
      Once o q (after_right_log d) (after_right_log e)
  one_after_right right_stands right_stands = record { outcome = refl; log = refl }
  one_after_right right_commits right_commits = record { outcome = refl; log = refl }
  one_after_right right_stuck right_stuck = record { outcome = refl; log = refl }
  one_after_right {G = G} (right_failed {s = s} {r = r} {tighter = tighter} {v = v} {a = a} {e = e} d x) (right_failed {n = n} {o = q} f y) =
      let z = one_left d f in
      let u = sym z.outcome in
      let w = one_after_left x (subst (λ x. AfterLeft G s r tighter v a x q n) u y) in
      record {
        outcome = ap (after_failure e) w.outcome;
        log = ap₂ (λ l k. l ++ k) z.log (w.log ∙ renamed (λ x. AfterLeft G s r tighter v a x q n) (λ x d. after_left_log d) u y);
      }

  one_after_left : {G : Given} {s : Setting} {r : Row} {tighter : List Row} {v : List Tree} {a : Spot} {x o q : Outcome} {m n : ℕ} (d : AfterLeft G s r tighter v a x o m) (e : AfterLeft G s r tighter v a x q n) →
      Once o q (after_left_log d) (after_left_log e)
  one_after_left left_stands left_stands = record { outcome = refl; log = refl }
  one_after_left left_commits left_commits = record { outcome = refl; log = refl }
  one_after_left left_stuck left_stuck = record { outcome = refl; log = refl }
  one_after_left (left_failed {v = v} {a = a} {e = e} d) (left_failed r) =
      let u = one_non d r in record { outcome = ap (λ o. after_failure e (or_return a v o)) u.outcome; log = u.log }

  one_right : {G : Given} {s : Setting} {r : Row} {tighter : List Row} {v : List Tree} {a : Spot} {o q : Outcome} {m n : ℕ} (d : AnswersRight G s r tighter v a o m) (e : AnswersRight G s r tighter v a q n) →
      Once o q (right_log d) (right_log e)
  one_right {G = G} (right_side {s = s} {r = r} {a = a} d) (right_side e) =
      let u = one_right_operator d e in
      record {
        outcome = ap (or_ambiguous (merge (ambiguous_left G.grammar G.text s.item r a.place) (ambiguous_non G.grammar G.text s.item r a.place))) u.outcome;
        log = u.log;
      }

  one_right_operator : {G : Given} {s : Setting} {r : Row} {tighter : List Row} {v : List Tree} {a : Spot} {w : Option Read} {o q : Outcome} {m n : ℕ}
      (d : AfterRightOperator G s r tighter v a w o m) (e : AfterRightOperator G s r tighter v a w q n) → Once o q (right_operator_log d) (right_operator_log e)
  one_right_operator right_unread right_unread = record { outcome = refl; log = refl }
  one_right_operator {G = G} (right_read {s = s} {r = r} {tighter = tighter} {v = v} {a = a} {q = w} d x) (right_read {n = n} {o = q} e y) =
      let z = one_row_operand d e in
      let u = sym z.outcome in
      let k = one_right_operand x (subst (λ x. AfterRightOperand G s r tighter x q n) u y) in
      record {
        outcome = ap (λ o. then_operand fixity.Infix w (as_applied s.builders.infix w.operator v o)) k.outcome;
        log = ap₂ (λ l k. Consumed a.place ∷ (l ++ k)) z.log (k.log ∙ renamed (λ x. AfterRightOperand G s r tighter x q n) (λ x d. right_operand_log d) u y);
      }

  one_right_operand : {G : Given} {s : Setting} {r : Row} {tighter : List Row} {x o q : Outcome} {m n : ℕ} (d : AfterRightOperand G s r tighter x o m) (e : AfterRightOperand G s r tighter x q n) →
      Once o q (right_operand_log d) (right_operand_log e)
  one_right_operand right_operand_failed right_operand_failed = record { outcome = refl; log = refl }
  one_right_operand right_operand_stuck right_operand_stuck = record { outcome = refl; log = refl }
  one_right_operand (right_operand_ok {c = c} {b = b} {w = w} {t = t} {e = e} d) (right_operand_ok r) =
      let u = one_right d r in record { outcome = ap (λ o. then_stretch c t e (or_return b w o)) u.outcome; log = u.log }

  one_left : {G : Given} {s : Setting} {r : Row} {tighter : List Row} {v : List Tree} {a : Spot} {o q : Outcome} {m n : ℕ} (d : AnswersLeft G s r tighter v a o m) (e : AnswersLeft G s r tighter v a q n) →
      Once o q (left_log d) (left_log e)
  one_left {G = G} (left_side {s = s} {r = r} {a = a} d) (left_side e) =
      let u = one_left_operator d e in
      record {
        outcome = ap (or_ambiguous (merge (ambiguous_right G.grammar G.text s.item r a.place) (ambiguous_non G.grammar G.text s.item r a.place))) u.outcome;
        log = u.log;
      }

  one_left_operator : {G : Given} {s : Setting} {r : Row} {tighter : List Row} {v : List Tree} {a : Spot} {w : Option Read} {o q : Outcome} {m n : ℕ}
      (d : AfterLeftOperator G s r tighter v a w o m) (e : AfterLeftOperator G s r tighter v a w q n) → Once o q (left_operator_log d) (left_operator_log e)
  one_left_operator left_unread left_unread = record { outcome = refl; log = refl }
  one_left_operator {G = G} (left_read {s = s} {r = r} {tighter = tighter} {v = v} {a = a} {q = w} d x) (left_read {n = n} {o = q} e y) =
      let z = one_row_operand d e in
      let u = sym z.outcome in
      let k = one_left_operand x (subst (λ x. AfterLeftOperand G s r tighter v w x q n) u y) in
      record {
        outcome = ap (then_operand fixity.Infix w) k.outcome;
        log = ap₂ (λ l k. Consumed a.place ∷ (l ++ k)) z.log (k.log ∙ renamed (λ x. AfterLeftOperand G s r tighter v w x q n) (λ x d. left_operand_log d) u y);
      }

  one_left_operand : {G : Given} {s : Setting} {r : Row} {tighter : List Row} {v : List Tree} {w : Read} {x o q : Outcome} {m n : ℕ} (d : AfterLeftOperand G s r tighter v w x o m) (e : AfterLeftOperand G s r tighter v w x q n) →
      Once o q (left_operand_log d) (left_operand_log e)
  one_left_operand left_operand_failed left_operand_failed = record { outcome = refl; log = refl }
  one_left_operand left_operand_stuck left_operand_stuck = record { outcome = refl; log = refl }
  one_left_operand (left_operand_ok {s = s} {v = v} {w = w} {q = r} {c = c} {b = b} {t = t} {e = e} d) (left_operand_ok f) =
      let u = one_left d f in
      record { outcome = ap (λ o. then_stretch c t e (or_return b (applied s.builders.infix r.operator (v ++ w)) o)) u.outcome; log = u.log }

  one_non : {G : Given} {s : Setting} {r : Row} {tighter : List Row} {v : List Tree} {a : Spot} {o q : Outcome} {m n : ℕ} (d : AnswersNon G s r tighter v a o m) (e : AnswersNon G s r tighter v a q n) →
      Once o q (non_log d) (non_log e)
  one_non (neither_side d) (neither_side e) = one_non_operator d e

  one_non_operator : {G : Given} {s : Setting} {r : Row} {tighter : List Row} {v : List Tree} {a : Spot} {w : Option Read} {o q : Outcome} {m n : ℕ}
      (d : AfterNonOperator G s r tighter v a w o m) (e : AfterNonOperator G s r tighter v a w q n) → Once o q (non_operator_log d) (non_operator_log e)
  one_non_operator non_unread non_unread = record { outcome = refl; log = refl }
  one_non_operator {G = G} (non_read {s = s} {r = r} {v = v} {a = a} {q = w} d) (non_read e) =
      let u = one_row_operand d e in
      record {
        outcome = ap (λ x. then_operand fixity.Infix w (with_last G.grammar G.text s r w v x)) u.outcome;
        log = ap (λ l. Consumed a.place ∷ l) u.log;
      }
