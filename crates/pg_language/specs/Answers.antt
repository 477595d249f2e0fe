-- How the nodes of a grammar answer: each runs its parts in order and reacts to their answers.
use Rattle.std.specs.Prelude.{◌≡◌, ◌+◌, ℕ, zero, suc, List, [], ◌∷◌, ◌++◌, reverse, Bool, true, false, ◌||◌, Option, Some, None, slice_get}
use Rattle.pg_tree.specs.Trees.{Tree}
use Rattle.pg_tree.specs.declared.shape.Shape.{Shape}
use Rattle.pg_grammar_value.specs.Grammar.{Grammar}
use Rattle.pg_grammar_form.specs.Forms.{Node}
use Rattle.pg_grammar_form.specs.declared.form.Form.TheVariants as form
use Rattle.pg_grammar_form.specs.declared.form.Leaf.{Leaf}
use Rattle.pg_grammar_form.specs.declared.form.Around.{Around}
use Rattle.pg_grammar_form.specs.declared.side.Side.{Side}
use Rattle.pg_grammar_value.specs.declared.grammar.Rule as declared
use Rattle.pg_grammar_form.specs.declared.operators_item.OperatorsItem.{OperatorsItem}
use Rattle.pg_grammar_form.specs.declared.used.ChainBuilder.{ChainBuilder}
use Rattle.pg_grammar_form.specs.declared.used.OperatorBuilders.{OperatorBuilders}
use Rattle.pg_language.specs.Derives.{Spot, at, applied, carried}
use Rattle.pg_table.specs.Tables.{Table}
use Rattle.pg_grammar_value.specs.declared.trail.TrailItem.{TrailItem}
use Rattle.pg_grammar_value.specs.declared.trail.TrailItem.TheVariants.{Alt, Rounds, Ops}
use Rattle.pg_grammar_value.specs.declared.trail.Fixity.TheVariants as fixity
use Rattle.pg_expand.specs.Rows.{rows_of}
use Rattle.pg_expand.specs.declared.rows.Row.{Row}
use Rattle.pg_language.specs.Errors.{Error, no_messages_at, merge}
use Rattle.pg_language.specs.Leaves.{leaf_outcome}
use Rattle.pg_language.specs.OperatorReads.{Read, read_at, unread}
use Rattle.pg_language.specs.Outcomes.{Outcome, ok, failed, empty_round}
use Rattle.pg_language.specs.Reactions.{then_rest, then_round, noted, after_failure, unless_consumed, surrounded, as_finished, unless_begun, error_after}
use Rattle.pg_language.specs.RowReactions.{Setting, then_stretch, then_operand, as_applied, or_return, past_prefix, as_operand, labelled_operator, ambiguous_right, ambiguous_left, ambiguous_non, or_ambiguous, with_last}
use Rattle.pg_language.specs.declared.reading.Reading.{Reading}
use Rattle.pg_language.specs.declared.reading.Reading.TheVariants.{Library, Report}

-- what is fixed in a run: the reading of choice, the grammar and the text
pub record Given : Type 0 where
  pub reading : Reading
  pub grammar : Grammar
  pub text : List ℕ

-- a run of a grammar over a text, in a reading
abbrev pub given : Reading → Grammar → List ℕ → Given
given reading g text = record { reading = reading; grammar = g; text = text }

mutual
  -- the node, run at the spot, has this outcome, with this many nodes entered
  pub data Answers (G : Given) : ℕ → Spot → Outcome → ℕ → Type 0 where
    entered : {p m : ℕ} {n : Node} {a : Spot} {o : Outcome} →
        slice_get G.grammar.nodes p ≡ Some n → AnswersForm G n a o m → Answers G p a o (suc m)

  -- as `Answers`, for the form of a node; the node itself isn't counted
  pub data AnswersForm (G : Given) : Node → Spot → Outcome → ℕ → Type 0 where
    leaf : {l : Leaf ℕ} {a : Spot} {o : Outcome} → leaf_outcome G.grammar G.text l a ≡ Some o → AnswersForm G (form.Leaf l) a o zero
    -- without parts: ok and empty
    nothing : {a : Spot} → AnswersForm G (form.Seq []) a (ok false a [] [] (no_messages_at a.place)) zero
    seq : {p m : ℕ} {ps : List ℕ} {a : Spot} {o : Outcome} → AnswersParts G p ps a o m → AnswersForm G (form.Seq (p ∷ ps)) a o m
    choice : {ps : List ℕ} {m : ℕ} {a : Spot} {o : Outcome} → AnswersAlternatives G (suc zero) ps a o m → AnswersForm G (form.Choice ps) a o m
    many : {p k m : ℕ} {a : Spot} {o : Outcome} → AnswersRounds G p k a o m → AnswersForm G (form.Many p) a (noted (Rounds k) o) m
    chain : {side : Side} {used : ChainBuilder} {p s k m : ℕ} {a : Spot} {o : Outcome} → AnswersChain G side used.shape p s k a o m →
        AnswersForm G (form.Chain side used p s) a (noted (Rounds k) o) m
    rule : {r m : ℕ} {named : declared.Rule} {a : Spot} {o : Outcome} → slice_get G.grammar.rules r ≡ Some named →
        Answers G named.body a o m → AnswersForm G (form.Rule r) a o m
    -- the rows of the table in force, over the term
    expression : {item : OperatorsItem} {builders : OperatorBuilders} {p m : ℕ} {a : Spot} {o : Outcome} → G.grammar.operators ≡ Some item →
        AnswersRows G (record { item = item; builders = builders; term = p }) (reverse (rows_of a.table.operators)) a o m →
        AnswersForm G (form.Expression builders p) a o m
    around : {k : Around} {p m : ℕ} {a : Spot} {o : Outcome} → Answers G p a o m → AnswersForm G (form.Around k p) a (surrounded k G.text a o) m

  -- ---- sequences: a part, and the parts after it
  pub data AnswersParts (G : Given) : ℕ → List ℕ → Spot → Outcome → ℕ → Type 0 where
    part : {p m n : ℕ} {ps : List ℕ} {a : Spot} {x o : Outcome} → Answers G p a x m → AfterPart G ps x o n → AnswersParts G p ps a o (m + n)

  -- the outcome of a sequence from that of a part; the last part's is the sequence's
  pub data AfterPart (G : Given) : List ℕ → Outcome → Outcome → ℕ → Type 0 where
    part_last : {x : Outcome} → AfterPart G [] x x zero
    part_failed : {q : ℕ} {ps : List ℕ} {c : Bool} {e : Error} → AfterPart G (q ∷ ps) (failed c e) (failed c e) zero
    part_stuck : {q : ℕ} {ps : List ℕ} → AfterPart G (q ∷ ps) empty_round empty_round zero
    part_ok : {q m : ℕ} {ps : List ℕ} {c : Bool} {b : Spot} {v : List Tree} {t : List TrailItem} {e : Error} {o : Outcome} →
        AnswersParts G q ps b o m → AfterPart G (q ∷ ps) (ok c b v t e) (then_rest c v t e o) m

  -- ---- choices: these alternatives, numbered from k
  pub data AnswersAlternatives (G : Given) : ℕ → List ℕ → Spot → Outcome → ℕ → Type 0 where
    no_alternative : {k : ℕ} {a : Spot} → AnswersAlternatives G k [] a (failed false (no_messages_at a.place)) zero
    alternative : {k p m n : ℕ} {ps : List ℕ} {a : Spot} {x o : Outcome} → Answers G p a x m → AfterAlternative G k ps a x o n →
        AnswersAlternatives G k (p ∷ ps) a o (m + n)

  -- the outcome of a choice from that of an alternative; the next one runs if this one failed empty
  pub data AfterAlternative (G : Given) : ℕ → List ℕ → Spot → Outcome → Outcome → ℕ → Type 0 where
    alternative_consumed : {k : ℕ} {ps : List ℕ} {a b : Spot} {v : List Tree} {t : List TrailItem} {e : Error} →
        AfterAlternative G k ps a (ok true b v t e) (ok true b v (Alt k ∷ t) e) zero
    alternative_stands : {k : ℕ} {ps : List ℕ} {a b : Spot} {v : List Tree} {t : List TrailItem} {e : Error} → G.reading ≡ Library →
        AfterAlternative G k ps a (ok false b v t e) (ok false b v (Alt k ∷ t) e) zero
    alternative_waits : {k m : ℕ} {ps : List ℕ} {a b : Spot} {v : List Tree} {t : List TrailItem} {e : Error} {o : Outcome} → G.reading ≡ Report →
        AnswersAlternatives G (suc k) ps a o m → AfterAlternative G k ps a (ok false b v t e) (unless_consumed b v (Alt k ∷ t) e o) m
    alternative_commits : {k : ℕ} {ps : List ℕ} {a : Spot} {e : Error} → AfterAlternative G k ps a (failed true e) (failed true e) zero
    alternative_failed : {k m : ℕ} {ps : List ℕ} {a : Spot} {e : Error} {o : Outcome} → AnswersAlternatives G (suc k) ps a o m →
        AfterAlternative G k ps a (failed false e) (after_failure e o) m
    alternative_stuck : {k : ℕ} {ps : List ℕ} {a : Spot} → AfterAlternative G k ps a empty_round empty_round zero

  -- ---- repetitions: rounds of a part, k of which are ok
  pub data AnswersRounds (G : Given) : ℕ → ℕ → Spot → Outcome → ℕ → Type 0 where
    round : {p k m n : ℕ} {a : Spot} {x o : Outcome} → Answers G p a x m → AfterRound G p k a x o n → AnswersRounds G p k a o (m + n)

  -- the outcome of a repetition from that of a round; a round that failed empty ends the repetition, with its error alone
  pub data AfterRound (G : Given) : ℕ → ℕ → Spot → Outcome → Outcome → ℕ → Type 0 where
    round_ended : {p : ℕ} {a : Spot} {e : Error} → AfterRound G p zero a (failed false e) (ok false a [] [] e) zero
    round_failed : {p : ℕ} {a : Spot} {e : Error} → AfterRound G p zero a (failed true e) (failed true e) zero
    round_empty : {p : ℕ} {a b : Spot} {v : List Tree} {t : List TrailItem} {e : Error} → AfterRound G p zero a (ok false b v t e) empty_round zero
    round_stuck : {p : ℕ} {a : Spot} → AfterRound G p zero a empty_round empty_round zero
    round_ok : {p k m : ℕ} {a b : Spot} {v : List Tree} {t : List TrailItem} {e : Error} {o : Outcome} → AnswersRounds G p k b o m →
        AfterRound G p (suc k) a (ok true b v t e) (then_round v t o) m

  -- ---- chains: an operand p, and then links, k of which are ok
  pub data AnswersChain (G : Given) : Side → Shape → ℕ → ℕ → ℕ → Spot → Outcome → ℕ → Type 0 where
    first_operand : {side : Side} {shape : Shape} {p s k m n : ℕ} {a : Spot} {x o : Outcome} → Answers G p a x m →
        AfterFirst G side shape p s k x o n → AnswersChain G side shape p s k a o (m + n)

  -- the outcome of a chain from that of its first operand
  pub data AfterFirst (G : Given) : Side → Shape → ℕ → ℕ → ℕ → Outcome → Outcome → ℕ → Type 0 where
    first_failed : {side : Side} {shape : Shape} {p s : ℕ} {c : Bool} {e : Error} → AfterFirst G side shape p s zero (failed c e) (failed c e) zero
    first_stuck : {side : Side} {shape : Shape} {p s : ℕ} → AfterFirst G side shape p s zero empty_round empty_round zero
    first_ok : {side : Side} {shape : Shape} {p s k m : ℕ} {c : Bool} {b : Spot} {v : List Tree} {t : List TrailItem} {e : Error} {o : Outcome} →
        AnswersLinks G side shape p s v k b o m → AfterFirst G side shape p s k (ok c b v t e) (then_rest c [] t e o) m

  -- separators s, each with an operand p after it, where the chain has this forest so far
  pub data AnswersLinks (G : Given) : Side → Shape → ℕ → ℕ → List Tree → ℕ → Spot → Outcome → ℕ → Type 0 where
    link : {side : Side} {shape : Shape} {p s k m n : ℕ} {left : List Tree} {a : Spot} {x o : Outcome} → Answers G s a x m →
        AfterSeparator G side shape p s left k a x o n → AnswersLinks G side shape p s left k a o (m + n)

  -- the outcome of a chain from that of a separator
  pub data AfterSeparator (G : Given) : Side → Shape → ℕ → ℕ → List Tree → ℕ → Spot → Outcome → Outcome → ℕ → Type 0 where
    separator_failed : {side : Side} {shape : Shape} {p s : ℕ} {left : List Tree} {a : Spot} {c : Bool} {e : Error} →
        AfterSeparator G side shape p s left zero a (failed c e) (unless_begun c a left e) zero
    separator_stuck : {side : Side} {shape : Shape} {p s : ℕ} {left : List Tree} {a : Spot} →
        AfterSeparator G side shape p s left zero a empty_round empty_round zero
    separator_ok : {side : Side} {shape : Shape} {p s k m n : ℕ} {left v : List Tree} {a b : Spot} {c : Bool} {t : List TrailItem} {e : Error} {x o : Outcome} →
        Answers G p b x m → AfterOperand G side shape p s left k a c v t e x o n → AfterSeparator G side shape p s left k a (ok c b v t e) o (m + n)

  -- the outcome of a chain from that of an operand, after a separator that was ok; a link that consumes nothing has no outcome
  pub data AfterOperand (G : Given) : Side → Shape → ℕ → ℕ → List Tree → ℕ → Spot → Bool → List Tree → List TrailItem → Error → Outcome → Outcome → ℕ → Type 0 where
    operand_failed : {side : Side} {shape : Shape} {p s : ℕ} {left v : List Tree} {a : Spot} {c d : Bool} {t : List TrailItem} {e f : Error} →
        AfterOperand G side shape p s left zero a c v t e (failed d f) (unless_begun (c || d) a left (error_after d e f)) zero
    operand_stuck : {side : Side} {shape : Shape} {p s : ℕ} {left v : List Tree} {a : Spot} {c : Bool} {t : List TrailItem} {e : Error} →
        AfterOperand G side shape p s left zero a c v t e empty_round empty_round zero
    operand_ok : {side : Side} {shape : Shape} {p s k m : ℕ} {left v w : List Tree} {a b : Spot} {c d : Bool} {t u : List TrailItem} {e f : Error} {o : Outcome} →
        (c || d) ≡ true → AnswersLinks G side shape p s (carried side shape left v w) k b o m →
        AfterOperand G side shape p s left (suc k) a c v t e (ok d b w u f)
        (then_rest c [] t e (then_rest d [] u f (as_finished side shape left v o))) m

  -- ---- expressions: these rows, the loosest first, over the term; the parsers of rows aren't nodes, so they aren't counted
  pub data AnswersRows (G : Given) : Setting → List Row → Spot → Outcome → ℕ → Type 0 where
    only_term : {s : Setting} {m : ℕ} {a : Spot} {o : Outcome} → Answers G s.term a o m → AnswersRows G s [] a (noted (Ops []) o) m
    loosest_row : {s : Setting} {r : Row} {tighter : List Row} {m n : ℕ} {a : Spot} {x o : Outcome} → AnswersRowOperand G s r tighter a x m →
        AfterRowOperand G s r tighter x o n → AnswersRows G s (r ∷ tighter) a o (m + n)

  -- an operand of a row: the tighter rows, perhaps with one prefix of the row before them and one postfix after them
  pub data AnswersRowOperand (G : Given) : Setting → Row → List Row → Spot → Outcome → ℕ → Type 0 where
    row_operand : {s : Setting} {r : Row} {tighter : List Row} {m : ℕ} {a : Spot} {x : Outcome} →
        AnswersRows G s tighter (past_prefix a (read_at G.grammar G.text s.item r.prefix a.place)) x m →
        AnswersRowOperand G s r tighter a (as_operand G.grammar G.text s r a x) m

  -- the outcome of a row from that of its first operand
  pub data AfterRowOperand (G : Given) : Setting → Row → List Row → Outcome → Outcome → ℕ → Type 0 where
    row_failed : {s : Setting} {r : Row} {tighter : List Row} {c : Bool} {e : Error} → AfterRowOperand G s r tighter (failed c e) (failed c e) zero
    row_stuck : {s : Setting} {r : Row} {tighter : List Row} → AfterRowOperand G s r tighter empty_round empty_round zero
    row_ok : {s : Setting} {r : Row} {tighter : List Row} {m : ℕ} {c : Bool} {b : Spot} {v : List Tree} {t : List TrailItem} {e : Error} {o : Outcome} →
        AnswersTail G s r tighter v b o m → AfterRowOperand G s r tighter (ok c b v t e) (then_stretch c t e (labelled_operator o)) m

  -- after an operand with this forest: right-associative operators, or otherwise left-associative ones, or otherwise a non-associative one, or
  -- otherwise nothing
  pub data AnswersTail (G : Given) : Setting → Row → List Row → List Tree → Spot → Outcome → ℕ → Type 0 where
    row_tail : {s : Setting} {r : Row} {tighter : List Row} {m n : ℕ} {v : List Tree} {a : Spot} {x o : Outcome} → AnswersRight G s r tighter v a x m →
        AfterRight G s r tighter v a x o n → AnswersTail G s r tighter v a o (m + n)

  -- the outcome after an operand, from that of the right-associative operators
  pub data AfterRight (G : Given) : Setting → Row → List Row → List Tree → Spot → Outcome → Outcome → ℕ → Type 0 where
    right_stands : {s : Setting} {r : Row} {tighter : List Row} {v w : List Tree} {a b : Spot} {c : Bool} {t : List TrailItem} {e : Error} →
        AfterRight G s r tighter v a (ok c b w t e) (ok c b w t e) zero
    right_commits : {s : Setting} {r : Row} {tighter : List Row} {v : List Tree} {a : Spot} {e : Error} →
        AfterRight G s r tighter v a (failed true e) (failed true e) zero
    right_stuck : {s : Setting} {r : Row} {tighter : List Row} {v : List Tree} {a : Spot} → AfterRight G s r tighter v a empty_round empty_round zero
    right_failed : {s : Setting} {r : Row} {tighter : List Row} {m n : ℕ} {v : List Tree} {a : Spot} {e : Error} {x o : Outcome} →
        AnswersLeft G s r tighter v a x m → AfterLeft G s r tighter v a x o n → AfterRight G s r tighter v a (failed false e) (after_failure e o) (m + n)

  -- the outcome after an operand, from that of the left-associative operators
  pub data AfterLeft (G : Given) : Setting → Row → List Row → List Tree → Spot → Outcome → Outcome → ℕ → Type 0 where
    left_stands : {s : Setting} {r : Row} {tighter : List Row} {v w : List Tree} {a b : Spot} {c : Bool} {t : List TrailItem} {e : Error} →
        AfterLeft G s r tighter v a (ok c b w t e) (ok c b w t e) zero
    left_commits : {s : Setting} {r : Row} {tighter : List Row} {v : List Tree} {a : Spot} {e : Error} →
        AfterLeft G s r tighter v a (failed true e) (failed true e) zero
    left_stuck : {s : Setting} {r : Row} {tighter : List Row} {v : List Tree} {a : Spot} → AfterLeft G s r tighter v a empty_round empty_round zero
    left_failed : {s : Setting} {r : Row} {tighter : List Row} {m : ℕ} {v : List Tree} {a : Spot} {e : Error} {o : Outcome} →
        AnswersNon G s r tighter v a o m → AfterLeft G s r tighter v a (failed false e) (after_failure e (or_return a v o)) m

  -- ---- right-associative operators: one, an operand, and what is right of that
  pub data AnswersRight (G : Given) : Setting → Row → List Row → List Tree → Spot → Outcome → ℕ → Type 0 where
    right_side : {s : Setting} {r : Row} {tighter : List Row} {m : ℕ} {v : List Tree} {a : Spot} {o : Outcome} →
        AfterRightOperator G s r tighter v a (read_at G.grammar G.text s.item r.right a.place) o m →
        AnswersRight G s r tighter v a
        (or_ambiguous (merge (ambiguous_left G.grammar G.text s.item r a.place) (ambiguous_non G.grammar G.text s.item r a.place)) o) m

  -- the outcome after reading such an operator, if there was one
  pub data AfterRightOperator (G : Given) : Setting → Row → List Row → List Tree → Spot → Option Read → Outcome → ℕ → Type 0 where
    right_unread : {s : Setting} {r : Row} {tighter : List Row} {v : List Tree} {a : Spot} →
        AfterRightOperator G s r tighter v a None (failed false (unread G.text r.right a.place)) zero
    right_read : {s : Setting} {r : Row} {tighter : List Row} {m n : ℕ} {v : List Tree} {a : Spot} {q : Read} {x o : Outcome} →
        AnswersRowOperand G s r tighter (at a q.end) x m → AfterRightOperand G s r tighter x o n →
        AfterRightOperator G s r tighter v a (Some q) (then_operand fixity.Infix q (as_applied s.builders.infix q.operator v o)) (m + n)

  -- the outcome from that of the operand; more right-associative operators may follow it
  pub data AfterRightOperand (G : Given) : Setting → Row → List Row → Outcome → Outcome → ℕ → Type 0 where
    right_operand_failed : {s : Setting} {r : Row} {tighter : List Row} {c : Bool} {e : Error} → AfterRightOperand G s r tighter (failed c e) (failed c e) zero
    right_operand_stuck : {s : Setting} {r : Row} {tighter : List Row} → AfterRightOperand G s r tighter empty_round empty_round zero
    right_operand_ok : {s : Setting} {r : Row} {tighter : List Row} {m : ℕ} {c : Bool} {b : Spot} {w : List Tree} {t : List TrailItem} {e : Error} {o : Outcome} →
        AnswersRight G s r tighter w b o m → AfterRightOperand G s r tighter (ok c b w t e) (then_stretch c t e (or_return b w o)) m

  -- ---- left-associative operators: one, an operand, and what follows the tree of the three
  pub data AnswersLeft (G : Given) : Setting → Row → List Row → List Tree → Spot → Outcome → ℕ → Type 0 where
    left_side : {s : Setting} {r : Row} {tighter : List Row} {m : ℕ} {v : List Tree} {a : Spot} {o : Outcome} →
        AfterLeftOperator G s r tighter v a (read_at G.grammar G.text s.item r.left a.place) o m →
        AnswersLeft G s r tighter v a
        (or_ambiguous (merge (ambiguous_right G.grammar G.text s.item r a.place) (ambiguous_non G.grammar G.text s.item r a.place)) o) m

  -- the outcome after reading such an operator, if there was one
  pub data AfterLeftOperator (G : Given) : Setting → Row → List Row → List Tree → Spot → Option Read → Outcome → ℕ → Type 0 where
    left_unread : {s : Setting} {r : Row} {tighter : List Row} {v : List Tree} {a : Spot} →
        AfterLeftOperator G s r tighter v a None (failed false (unread G.text r.left a.place)) zero
    left_read : {s : Setting} {r : Row} {tighter : List Row} {m n : ℕ} {v : List Tree} {a : Spot} {q : Read} {x o : Outcome} →
        AnswersRowOperand G s r tighter (at a q.end) x m → AfterLeftOperand G s r tighter v q x o n →
        AfterLeftOperator G s r tighter v a (Some q) (then_operand fixity.Infix q o) (m + n)

  -- the outcome from that of the operand; the operator is applied at once, and more left-associative operators may follow
  pub data AfterLeftOperand (G : Given) : Setting → Row → List Row → List Tree → Read → Outcome → Outcome → ℕ → Type 0 where
    left_operand_failed : {s : Setting} {r : Row} {tighter : List Row} {v : List Tree} {q : Read} {c : Bool} {e : Error} →
        AfterLeftOperand G s r tighter v q (failed c e) (failed c e) zero
    left_operand_stuck : {s : Setting} {r : Row} {tighter : List Row} {v : List Tree} {q : Read} → AfterLeftOperand G s r tighter v q empty_round empty_round zero
    left_operand_ok : {s : Setting} {r : Row} {tighter : List Row} {m : ℕ} {v w : List Tree} {q : Read} {c : Bool} {b : Spot} {t : List TrailItem} {e : Error} {o : Outcome} →
        AnswersLeft G s r tighter (applied s.builders.infix q.operator (v ++ w)) b o m →
        AfterLeftOperand G s r tighter v q (ok c b w t e) (then_stretch c t e (or_return b (applied s.builders.infix q.operator (v ++ w)) o)) m

  -- ---- non-associative operators: one and an operand, after which no infix operator of the row may follow
  pub data AnswersNon (G : Given) : Setting → Row → List Row → List Tree → Spot → Outcome → ℕ → Type 0 where
    neither_side : {s : Setting} {r : Row} {tighter : List Row} {m : ℕ} {v : List Tree} {a : Spot} {o : Outcome} →
        AfterNonOperator G s r tighter v a (read_at G.grammar G.text s.item r.non a.place) o m → AnswersNon G s r tighter v a o m

  -- the outcome after reading such an operator, if there was one
  pub data AfterNonOperator (G : Given) : Setting → Row → List Row → List Tree → Spot → Option Read → Outcome → ℕ → Type 0 where
    non_unread : {s : Setting} {r : Row} {tighter : List Row} {v : List Tree} {a : Spot} →
        AfterNonOperator G s r tighter v a None (failed false (unread G.text r.non a.place)) zero
    non_read : {s : Setting} {r : Row} {tighter : List Row} {m : ℕ} {v : List Tree} {a : Spot} {q : Read} {x : Outcome} →
        AnswersRowOperand G s r tighter (at a q.end) x m →
        AfterNonOperator G s r tighter v a (Some q) (then_operand fixity.Infix q (with_last G.grammar G.text s r q v x)) m

-- the start rule, run at the start of the text with a table, has this outcome
pub record AnswersStart (G : Given) (table : Table) (o : Outcome) (m : ℕ) : Type 0 where
  pub start : declared.Rule
  pub is_start : slice_get G.grammar.rules G.grammar.start ≡ Some start
  pub body : Answers G start.body (record { place = 0; table = table }) o m
