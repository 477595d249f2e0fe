-- The log of a run: the notes of its parts, in the order in which they run. It is read off the run, case by case of the
-- relation of answers (`pg_language`), so each run has a log.
--
-- A lookahead that refuses notes nothing: `notFollowedBy`, a `try` around a lexeme, and the parsers that report an ambiguous
-- use of operators.
use Rattle.std.specs.Prelude.{◌++◌, ℕ, List, [], ◌∷◌, Bool, Option}
use Rattle.pg_tree.specs.Trees.{Tree}
use Rattle.pg_tree.specs.declared.shape.Shape.{Shape}
use Rattle.pg_grammar_form.specs.Forms.{Node}
use Rattle.pg_grammar_form.specs.declared.side.Side.{Side}
use Rattle.pg_grammar_value.specs.declared.trail.TrailItem.{TrailItem}
use Rattle.pg_expand.specs.declared.rows.Row.{Row}
use Rattle.pg_language.specs.Answers as answers
use Rattle.pg_language.specs.Answers.{Given, Answers, entered, AnswersForm, nothing, seq, choice, many, rule, AnswersParts, part, AfterPart, part_last, part_failed, part_stuck, part_ok, AnswersAlternatives, no_alternative, alternative, AfterAlternative, alternative_consumed, alternative_stands, alternative_waits, alternative_commits, alternative_failed, alternative_stuck, AnswersRounds, round, AfterRound, round_ended, round_failed, round_empty, round_stuck, round_ok, AnswersChain, first_operand, AfterFirst, first_failed, first_stuck, first_ok, AnswersLinks, link, AfterSeparator, separator_failed, separator_stuck, separator_ok, AfterOperand, operand_failed, operand_stuck, operand_ok, AnswersRows, only_term, loosest_row, AnswersRowOperand, row_operand, AfterRowOperand, row_failed, row_stuck, row_ok, AnswersTail, row_tail, AfterRight, right_stands, right_commits, right_stuck, right_failed, AfterLeft, left_stands, left_commits, left_stuck, left_failed, AnswersRight, right_side, AfterRightOperator, right_unread, right_read, AfterRightOperand, right_operand_failed, right_operand_stuck, right_operand_ok, AnswersLeft, left_side, AfterLeftOperator, left_unread, left_read, AfterLeftOperand, left_operand_failed, left_operand_stuck, left_operand_ok, AnswersNon, neither_side, AfterNonOperator, non_unread, non_read}
use Rattle.pg_language.specs.Derives.{Spot}
use Rattle.pg_language.specs.Errors.{Error}
use Rattle.pg_language.specs.OperatorReads.{Read, read_at}
use Rattle.pg_language.specs.Outcomes.{Outcome, ok, failed, empty_round}
use Rattle.pg_language.specs.RowReactions.{Setting}
use Rattle.pg_derive_backtracking.specs.Events.{Event, Consumed, leaf_log, operator_log, around_log}

-- the log of a row's postfix that is read after the rest of an operand
abbrev pub postfix_log : Given → Setting → Row → Outcome → List Event
postfix_log G s r (ok c b v t e) = operator_log b.place (read_at G.grammar G.text s.item r.postfix b.place)
postfix_log G s r (failed c e) = []
postfix_log G s r empty_round = []

-- the notes of the parts of a run, in the order in which they run
abbrev mutual
  pub log : {G : Given} {p : ℕ} {a : Spot} {o : Outcome} {m : ℕ} → Answers G p a o m → List Event
  log (entered e d) = form_log d

  pub form_log : {G : Given} {n : Node} {a : Spot} {o : Outcome} {m : ℕ} → AnswersForm G n a o m → List Event
  form_log (answers.leaf {a = a} {o = o} e) = leaf_log a.place o
  form_log nothing = []
  form_log (seq d) = parts_log d
  form_log (choice d) = alternatives_log d
  form_log (many d) = rounds_log d
  form_log (answers.chain d) = chain_log d
  form_log (rule e d) = log d
  form_log (answers.expression e d) = rows_log d
  form_log {G = G} (answers.around {k = k} {p = q} {a = a} {o = o} d) = around_log G.grammar.nodes k q a.place o (log d)

  -- ---- sequences

  pub parts_log : {G : Given} {p : ℕ} {ps : List ℕ} {a : Spot} {o : Outcome} {m : ℕ} → AnswersParts G p ps a o m → List Event
  parts_log (part d r) = log d ++ after_part_log r

  pub after_part_log : {G : Given} {ps : List ℕ} {x o : Outcome} {m : ℕ} → AfterPart G ps x o m → List Event
  after_part_log part_last = []
  after_part_log part_failed = []
  after_part_log part_stuck = []
  after_part_log (part_ok d) = parts_log d

  -- ---- choices

  pub alternatives_log : {G : Given} {k : ℕ} {ps : List ℕ} {a : Spot} {o : Outcome} {m : ℕ} → AnswersAlternatives G k ps a o m → List Event
  alternatives_log no_alternative = []
  alternatives_log (alternative d r) = log d ++ after_alternative_log r

  pub after_alternative_log : {G : Given} {k : ℕ} {ps : List ℕ} {a : Spot} {x o : Outcome} {m : ℕ} → AfterAlternative G k ps a x o m → List Event
  after_alternative_log alternative_consumed = []
  after_alternative_log (alternative_stands e) = []
  after_alternative_log (alternative_waits e d) = alternatives_log d
  after_alternative_log alternative_commits = []
  after_alternative_log (alternative_failed d) = alternatives_log d
  after_alternative_log alternative_stuck = []

  -- ---- repetitions

  pub rounds_log : {G : Given} {p k : ℕ} {a : Spot} {o : Outcome} {m : ℕ} → AnswersRounds G p k a o m → List Event
  rounds_log (round d r) = log d ++ after_round_log r

  pub after_round_log : {G : Given} {p k : ℕ} {a : Spot} {x o : Outcome} {m : ℕ} → AfterRound G p k a x o m → List Event
  after_round_log round_ended = []
  after_round_log round_failed = []
  after_round_log round_empty = []
  after_round_log round_stuck = []
  after_round_log (round_ok d) = rounds_log d

  -- ---- chains

  pub chain_log : {G : Given} {side : Side} {shape : Shape} {p s k : ℕ} {a : Spot} {o : Outcome} {m : ℕ} → AnswersChain G side shape p s k a o m → List Event
  chain_log (first_operand d r) = log d ++ after_first_log r

  pub after_first_log : {G : Given} {side : Side} {shape : Shape} {p s k : ℕ} {x o : Outcome} {m : ℕ} → AfterFirst G side shape p s k x o m → List Event
  after_first_log first_failed = []
  after_first_log first_stuck = []
  after_first_log (first_ok d) = links_log d

  pub links_log : {G : Given} {side : Side} {shape : Shape} {p s : ℕ} {left : List Tree} {k : ℕ} {a : Spot} {o : Outcome} {m : ℕ} → AnswersLinks G side shape p s left k a o m → List Event
  links_log (link d r) = log d ++ after_separator_log r

  pub after_separator_log : {G : Given} {side : Side} {shape : Shape} {p s : ℕ} {left : List Tree} {k : ℕ} {a : Spot} {x o : Outcome} {m : ℕ} →
      AfterSeparator G side shape p s left k a x o m → List Event
  after_separator_log separator_failed = []
  after_separator_log separator_stuck = []
  after_separator_log (separator_ok d r) = log d ++ after_operand_log r

  pub after_operand_log : {G : Given} {side : Side} {shape : Shape} {p s : ℕ} {left : List Tree} {k : ℕ} {a : Spot} {c : Bool} {v : List Tree} {t : List TrailItem} {e : Error} {x o : Outcome} {m : ℕ} →
      AfterOperand G side shape p s left k a c v t e x o m → List Event
  after_operand_log operand_failed = []
  after_operand_log operand_stuck = []
  after_operand_log (operand_ok moves d) = links_log d

  -- ---- expressions

  pub rows_log : {G : Given} {s : Setting} {rows : List Row} {a : Spot} {o : Outcome} {m : ℕ} → AnswersRows G s rows a o m → List Event
  rows_log (only_term d) = log d
  rows_log (loosest_row d r) = row_operand_log d ++ after_row_log r

  -- the prefix of an operand, what follows it, and the postfix
  pub row_operand_log : {G : Given} {s : Setting} {r : Row} {tighter : List Row} {a : Spot} {o : Outcome} {m : ℕ} → AnswersRowOperand G s r tighter a o m → List Event
  row_operand_log {G = G} (row_operand {s = s} {r = r} {a = a} {x = x} d) =
      (operator_log a.place (read_at G.grammar G.text s.item r.prefix a.place) ++ rows_log d) ++ postfix_log G s r x

  pub after_row_log : {G : Given} {s : Setting} {r : Row} {tighter : List Row} {x o : Outcome} {m : ℕ} → AfterRowOperand G s r tighter x o m → List Event
  after_row_log row_failed = []
  after_row_log row_stuck = []
  after_row_log (row_ok d) = tail_log d

  pub tail_log : {G : Given} {s : Setting} {r : Row} {tighter : List Row} {v : List Tree} {a : Spot} {o : Outcome} {m : ℕ} → AnswersTail G s r tighter v a o m → List Event
  tail_log (row_tail d x) = right_log d ++ after_right_log x

  pub after_right_log : {G : Given} {s : Setting} {r : Row} {tighter : List Row} {v : List Tree} {a : Spot} {x o : Outcome} {m : ℕ} → AfterRight G s r tighter v a x o m → List Event
  after_right_log right_stands = []
  after_right_log right_commits = []
  after_right_log right_stuck = []
  after_right_log (right_failed d x) = left_log d ++ after_left_log x

  pub after_left_log : {G : Given} {s : Setting} {r : Row} {tighter : List Row} {v : List Tree} {a : Spot} {x o : Outcome} {m : ℕ} → AfterLeft G s r tighter v a x o m → List Event
  after_left_log left_stands = []
  after_left_log left_commits = []
  after_left_log left_stuck = []
  after_left_log (left_failed d) = non_log d

  pub right_log : {G : Given} {s : Setting} {r : Row} {tighter : List Row} {v : List Tree} {a : Spot} {o : Outcome} {m : ℕ} → AnswersRight G s r tighter v a o m → List Event
  right_log (right_side d) = right_operator_log d

  pub right_operator_log : {G : Given} {s : Setting} {r : Row} {tighter : List Row} {v : List Tree} {a : Spot} {w : Option Read} {o : Outcome} {m : ℕ} →
      AfterRightOperator G s r tighter v a w o m → List Event
  right_operator_log right_unread = []
  right_operator_log (right_read {a = a} d x) = Consumed a.place ∷ (row_operand_log d ++ right_operand_log x)

  pub right_operand_log : {G : Given} {s : Setting} {r : Row} {tighter : List Row} {x o : Outcome} {m : ℕ} → AfterRightOperand G s r tighter x o m → List Event
  right_operand_log right_operand_failed = []
  right_operand_log right_operand_stuck = []
  right_operand_log (right_operand_ok d) = right_log d

  pub left_log : {G : Given} {s : Setting} {r : Row} {tighter : List Row} {v : List Tree} {a : Spot} {o : Outcome} {m : ℕ} → AnswersLeft G s r tighter v a o m → List Event
  left_log (left_side d) = left_operator_log d

  pub left_operator_log : {G : Given} {s : Setting} {r : Row} {tighter : List Row} {v : List Tree} {a : Spot} {w : Option Read} {o : Outcome} {m : ℕ} →
      AfterLeftOperator G s r tighter v a w o m → List Event
  left_operator_log left_unread = []
  left_operator_log (left_read {a = a} d x) = Consumed a.place ∷ (row_operand_log d ++ left_operand_log x)

  pub left_operand_log : {G : Given} {s : Setting} {r : Row} {tighter : List Row} {v : List Tree} {q : Read} {x o : Outcome} {m : ℕ} → AfterLeftOperand G s r tighter v q x o m → List Event
  left_operand_log left_operand_failed = []
  left_operand_log left_operand_stuck = []
  left_operand_log (left_operand_ok d) = left_log d

  pub non_log : {G : Given} {s : Setting} {r : Row} {tighter : List Row} {v : List Tree} {a : Spot} {o : Outcome} {m : ℕ} → AnswersNon G s r tighter v a o m → List Event
  non_log (neither_side d) = non_operator_log d

  pub non_operator_log : {G : Given} {s : Setting} {r : Row} {tighter : List Row} {v : List Tree} {a : Spot} {w : Option Read} {o : Outcome} {m : ℕ} →
      AfterNonOperator G s r tighter v a w o m → List Event
  non_operator_log non_unread = []
  non_operator_log (non_read {a = a} d) = Consumed a.place ∷ row_operand_log d
