-- What each run of a predictive grammar notes.
use Rattle.std.proofs.Common.{◌≡◌, ℕ, suc, List, [], ◌∷◌, ◌++◌, Bool, true, false, ◌||◌, refl, sym, subst, Some, slice_get, append_assoc}
use Rattle.std.specs.Prelude.{Option, nat_lt}
use Rattle.std.specs.List.{Contains}
use Rattle.pg_tree.specs.Trees.{Tree}
use Rattle.pg_tree.specs.declared.shape.Shape.{Shape}
use Rattle.pg_grammar_form.specs.Forms.{Node}
use Rattle.pg_grammar_form.specs.declared.side.Side.{Side}
use Rattle.pg_grammar_form.specs.declared.decl.Role.TheVariants.{InfixLeft, InfixRight, InfixNone}
use Rattle.pg_grammar_form.specs.declared.operators_item.OperatorsItem.{OperatorsItem}
use Rattle.pg_grammar_form.specs.declared.used.OperatorBuilders.{OperatorBuilders}
use Rattle.pg_grammar_value.specs.declared.trail.TrailItem.{TrailItem}
use Rattle.pg_grammar_value.specs.declared.trail.TrailItem.TheVariants.{Rounds, Ops}
use Rattle.pg_grammar_value.specs.declared.trail.Fixity.TheVariants as fixity
use Rattle.pg_expand.specs.declared.rows.Row.{Row}
use Rattle.pg_expand.proofs.RowTrees.{IsRow}
use Rattle.pg_language.specs.Answers as answers
use Rattle.pg_language.specs.Answers.{Given, Answers, entered, AnswersForm, nothing, seq, choice, many, rule, AnswersParts, part, AfterPart, part_last, part_failed, part_stuck, part_ok, AnswersAlternatives, no_alternative, alternative, AfterAlternative, alternative_consumed, alternative_stands, alternative_waits, alternative_commits, alternative_failed, alternative_stuck, AnswersRounds, round, AfterRound, round_ended, round_failed, round_empty, round_stuck, round_ok, AnswersChain, first_operand, AfterFirst, first_failed, first_stuck, first_ok, AnswersLinks, link, AfterSeparator, separator_failed, separator_stuck, separator_ok, AfterOperand, operand_failed, operand_stuck, operand_ok, AnswersRows, only_term, loosest_row, AnswersRowOperand, row_operand, AfterRowOperand, row_failed, row_stuck, row_ok, AnswersTail, row_tail, AfterRight, right_stands, right_commits, right_stuck, right_failed, AfterLeft, left_stands, left_commits, left_stuck, left_failed, AnswersRight, right_side, AfterRightOperator, right_unread, right_read, AfterRightOperand, right_operand_failed, right_operand_stuck, right_operand_ok, AnswersLeft, left_side, AfterLeftOperator, left_unread, left_read, AfterLeftOperand, left_operand_failed, left_operand_stuck, left_operand_ok, AnswersNon, neither_side, AfterNonOperator, non_unread, non_read}
use Rattle.pg_language.specs.Derives.{Spot, applied}
use Rattle.pg_language.specs.Errors.{Error, merge}
use Rattle.pg_language.specs.OperatorReads.{Read, read_at}
use Rattle.pg_language.specs.Outcomes.{Outcome, ok, failed, empty_round}
use Rattle.pg_language.specs.Reactions.{error_after, unless_consumed}
use Rattle.pg_language.specs.RowReactions.{Setting, with_last, ambiguous_left, ambiguous_right, ambiguous_non}
use Rattle.pg_language.proofs.Flags.{moved}
use Rattle.pg_language.proofs.Moves.{tells}
use Rattle.pg_derive.specs.ClosedSets.{NodeSets, PartsFollowed}
use Rattle.pg_derive.specs.Predictive.{ExpressionIsPredictive, AlternativesArePredictive, ManyIsPredictive, ChainIsPredictive, IsPredictiveAt}
use Rattle.pg_derive.specs.PredictiveLaws.{Predicts}
use Rattle.pg_derive.proofs.Begins.{still, moves, BeginsNode}
use Rattle.pg_derive.proofs.OperatorsOfTables.{proper_table}
use Rattle.pg_derive.proofs.Predicted.{spelled}
use Rattle.pg_derive.proofs.Quiet.{IsWhole}
use Rattle.pg_derive.proofs.StartLists.{contains_first}
use Rattle.pg_derive.proofs.Whole.{is_whole}
use Rattle.pg_derive.proofs.WholeRows.{AreAllLevels, level, all_levels}
use Rattle.pg_derive_bound.proofs.Nodes as nodes
use Rattle.pg_derive_bound.proofs.Nodes.{IsSpot, bare_of, ends_at_spot}
use Rattle.pg_derive_bound.proofs.Paid as paid
use Rattle.pg_derive_bound.proofs.Paid.{End, end_of, joined, returned}
use Rattle.pg_derive_bound.proofs.Parts.{rest_ends, failure_ends}
use Rattle.pg_derive_bound.proofs.Repeats.{round_ends, noted_ends, begun_ends, linked_ends, not_both}
use Rattle.pg_derive_bound.proofs.RowEnds.{At, row_ends, operand_ends, operator_ends, applied_operator_ends, non_ends, ambiguous_ends, failure_ends as row_failure_ends, at_failure, at_noted, at_row, at_operand, at_operator, at_applied_operator, at_ambiguous, at_non}
use Rattle.pg_derive_backtracking.specs.Events.{Event, Consumed}
use Rattle.pg_derive_backtracking.specs.Logs.{log, form_log, parts_log, after_part_log, alternatives_log, after_alternative_log, rounds_log, after_round_log, chain_log, after_first_log, links_log, after_separator_log, after_operand_log, rows_log, row_operand_log, after_row_log, tail_log, after_right_log, after_left_log, right_log, right_operator_log, right_operand_log, left_log, left_operator_log, left_operand_log, non_log, non_operator_log}
use Rattle.pg_derive_backtracking.proofs.Calm as calm
use Rattle.pg_derive_backtracking.proofs.Calm.{around, and_nothing, noted_as}
use Rattle.pg_derive_backtracking.proofs.Nodes.{NotesNode, by_itself, as_part, any_around}
use Rattle.pg_derive_backtracking.proofs.Parts.{NotesParts, NotesAlternatives, last_part, failed_part, rest_of_parts, whole_seq, one_alternative, other_alternatives, whole_choice}
use Rattle.pg_derive_backtracking.proofs.Repeats.{NotesRounds, NotesLink, NotesLinks, failed_round, more_rounds, whole_many, no_separator, one_link, failed_link, more_links, no_operand, whole_chain}
use Rattle.pg_derive_backtracking.proofs.RowSteps.{Over, NotesOperand, NotesTail, NotesInfix, reads, after_prefix, notes_term, notes_row_operand, notes_ambiguous, notes_stretch, unread, notes_infix, notes_return, notes_stands, notes_else}

module _ (G : Given) (sets : NodeSets) (h : Predicts G sets) where
  abbrev Is : Spot → Type 0
  Is a = IsSpot G sets h a

  abbrev NodeNotes : ℕ → ℕ → End → List Event → Type 0
  NodeNotes p i z l = NotesNode G sets h p i z l

  whole : IsWhole G.grammar
  whole = is_whole G.grammar h.grammar

  one_item : (p q : ℕ) (item : OperatorsItem) (f : ExpressionIsPredictive G.grammar sets p q) → G.grammar.operators ≡ Some item → f.item ≡ item
  one_item p q item f named = let known = f.named in cc

  -- the expression, as its rows are run over it
  abbrev over_rows : (p q : ℕ) (builders : OperatorBuilders) (item : OperatorsItem) (a : Spot) → G.grammar.operators ≡ Some item → ExpressionIsPredictive G.grammar sets p q → Is a →
      Over G sets h p (record { item = item; builders = builders; term = q })
  over_rows p q builders item a named f is = record { table = a.table; comes = is.1; fits = f; item = one_item p q item f named }

  at_node : {p : ℕ} {a : Spot} {o : Outcome} {m : ℕ} → Answers G p a o m → Is a → At Is o
  at_node {o = ok d b v t e} run is = ends_at_spot G sets h run is
  at_node {o = failed d e} run is = tt
  at_node {o = empty_round} run is = tt

  -- what is ok and consumed nothing is nullable
  ok_nullable : {q : ℕ} {a b : Spot} {v : List Tree} {t : List TrailItem} {e : Error} {m : ℕ} → Answers G q a (ok false b v t e) m → sets.nullable q ≡ true
  ok_nullable {q = q} {a = a} {b = b} run = go (tells G (spelled G sets h) run).0 (nodes.begins_at G sets h run)
    where
      go : false ≡ nat_lt a.place b.place → BeginsNode G.grammar sets G.text q a b → sets.nullable q ≡ true
      go flag (still stays n) = n
      go flag (moves l n) = not_both (moved l) (sym flag)

  -- an alternative that may be ok on nothing is the last, so that none is run after it
  last_waits : (qs : List ℕ) {k : ℕ} {a : Spot} {o : Outcome} {m : ℕ} (d : AnswersAlternatives G k qs a o m) (p q : ℕ) (b : Spot) (v : List Tree) (t : List TrailItem) (e : Error) (l : List Event) →
      AlternativesArePredictive sets p (q ∷ qs) → sets.nullable q ≡ true → NotesAlternatives G sets h p (q ∷ qs) a.place (paid.ends false b.place) l →
      NotesAlternatives G sets h p (q ∷ qs) a.place (end_of (unless_consumed b v t e o)) (l ++ alternatives_log d)
  last_waits [] no_alternative p q b v t e l f n y = and_nothing y
  last_waits (r ∷ rs) d p q b v t e l f n y = not_both n (f.1 r (contains_first r rs)).full

  -- what is claimed of the parsers of rows
  abbrev Operand : ℕ → ℕ → ℕ → Outcome → List Event → Type 0
  Operand p q i o l = NotesOperand G sets h p q i (end_of o) l × At Is o

  abbrev Tail : ℕ → ℕ → Outcome → List Event → Type 0
  Tail q i o l = NotesTail G sets h q i (end_of o) l × At Is o

  abbrev Infix : ℕ → ℕ → Outcome → List Event → Type 0
  Infix q i o l = NotesInfix G sets h q i (end_of o) l × At Is o

  mutual
    pub notes : {p : ℕ} {a : Spot} {o : Outcome} {m : ℕ} (d : Answers G p a o m) → Is a → NodeNotes p a.place (end_of o) (log d)
    notes (entered {p = p} {n = n} e d) is = notes_form d p e (h.predictive.nodes p n e) is

    notes_form : {n : Node} {a : Spot} {o : Outcome} {m : ℕ} (d : AnswersForm G n a o m) (p : ℕ) → slice_get G.grammar.nodes p ≡ Some n → IsPredictiveAt G.grammar sets p n → Is a → NodeNotes p a.place (end_of o) (form_log d)
    notes_form (answers.leaf x) p e f is = by_itself G sets h (entered e (answers.leaf x)) is
    notes_form nothing p e f is = by_itself G sets h (entered e nothing) is
    notes_form (seq {p = q} {ps = qs} {a = a} {o = o} d) p e f is = whole_seq G sets h p (q ∷ qs) a.place (end_of o) (parts_log d) f (notes_parts d p f.follow is)
    notes_form (choice {ps = qs} {a = a} {o = o} d) p e f is = whole_choice G sets h p qs a.place (end_of o) (alternatives_log d) f (notes_alternatives d p f is)
    notes_form (many {p = q} {k = k} {a = a} {o = o} d) p e f is =
        subst (λ z. NodeNotes p a.place z (rounds_log d)) (noted_ends (Rounds k) o) (whole_many G sets h p q a.place (end_of o) (rounds_log d) f (notes_rounds d p f is))
    notes_form (answers.chain {k = k} {a = a} {o = o} d) p e f is =
        subst (λ z. NodeNotes p a.place z (chain_log d)) (noted_ends (Rounds k) o) (notes_chain d p f is)
    notes_form (rule {r = r} {named = named} {a = a} {o = o} at d) p e f is = as_part G sets h p named.body a.place (end_of o) (log d) (f.body named at) (notes d is)
    notes_form (answers.expression {item = item} {builders = builders} {p = q} {a = a} {o = o} named d) p e f is =
        let over = over_rows p q builders item a named f is in
        let rows = (notes_rows d p over _ (all_levels a.table.operators (proper_table G.grammar a.table whole.initials is.1)) is).0 in
        around (λ x. absurd x) (λ none. none) (λ j. bare_of G sets h (sets.follow q) (Contains (sets.follow p)) j f.follow) rows
    notes_form (answers.around {k = k} {p = q} {a = a} {o = o} d) p e f is = any_around G sets h p q k a o _ (log d) f is (entered e (answers.around d)) (notes d is)

    -- ---- sequences

    notes_parts : {q : ℕ} {qs : List ℕ} {a : Spot} {o : Outcome} {m : ℕ} (d : AnswersParts G q qs a o m) (p : ℕ) → PartsFollowed sets (sets.follow p) (q ∷ qs) → Is a → NotesParts G sets h p (q ∷ qs) a.place (end_of o) (parts_log d)
    notes_parts (part {p = q} {a = a} d r) p followed is = notes_after_part r p q a (log d) followed d (notes d is) is

    notes_after_part : {qs : List ℕ} {x o : Outcome} {n m : ℕ} (r : AfterPart G qs x o n) (p q : ℕ) (a : Spot) (l : List Event) → PartsFollowed sets (sets.follow p) (q ∷ qs) → Answers G q a x m →
        NodeNotes q a.place (end_of x) l → Is a → NotesParts G sets h p (q ∷ qs) a.place (end_of o) (l ++ after_part_log r)
    notes_after_part (part_last {x = x}) p q a l followed d y is = and_nothing (last_part G sets h p q a.place (end_of x) l followed y)
    notes_after_part (part_failed {q = r} {ps = rs} {c = x}) p q a l followed d y is = and_nothing (failed_part G sets h p q (r ∷ rs) a.place x l y)
    notes_after_part part_stuck p q a l followed d y is = calm.stuck
    notes_after_part (part_ok {q = r} {ps = rs} {c = x} {b = b} {v = v} {t = t} {e = e} {o = o} rest) p q a l followed d y is =
        subst (λ z. NotesParts G sets h p (q ∷ r ∷ rs) a.place z (l ++ parts_log rest)) (rest_ends x v t e o)
        (rest_of_parts G sets h p q r rs a.place b.place x (end_of o) l (parts_log rest) followed y (notes_parts rest p followed.2 (ends_at_spot G sets h d is)))

    -- ---- choices

    notes_alternatives : {k : ℕ} {qs : List ℕ} {a : Spot} {o : Outcome} {m : ℕ} (d : AnswersAlternatives G k qs a o m) (p : ℕ) → AlternativesArePredictive sets p qs → Is a →
        NotesAlternatives G sets h p qs a.place (end_of o) (alternatives_log d)
    notes_alternatives no_alternative p f is = calm.refuses
    notes_alternatives (alternative {p = q} d r) p f is = notes_after_alternative r p q (log d) f is d (notes d is)

    notes_after_alternative : {k : ℕ} {qs : List ℕ} {a : Spot} {x o : Outcome} {n m : ℕ} (r : AfterAlternative G k qs a x o n) (p q : ℕ) (l : List Event) → AlternativesArePredictive sets p (q ∷ qs) → Is a → Answers G q a x m →
        NodeNotes q a.place (end_of x) l → NotesAlternatives G sets h p (q ∷ qs) a.place (end_of o) (l ++ after_alternative_log r)
    notes_after_alternative (alternative_consumed {ps = qs} {a = a} {b = b}) p q l f is d y = and_nothing (one_alternative G sets h p q qs a.place (paid.ends true b.place) l f.0 y)
    notes_after_alternative (alternative_stands {ps = qs} {a = a} {b = b} e) p q l f is d y = and_nothing (one_alternative G sets h p q qs a.place (paid.ends false b.place) l f.0 y)
    notes_after_alternative (alternative_waits {ps = qs} {a = a} {b = b} {v = v} {t = t} {e = e} same rest) p q l f is d y =
        last_waits qs rest p q b v _ e l f (ok_nullable d) (one_alternative G sets h p q qs a.place (paid.ends false b.place) l f.0 y)
    notes_after_alternative (alternative_commits {ps = qs} {a = a}) p q l f is d y = and_nothing (one_alternative G sets h p q qs a.place (paid.stops true) l f.0 y)
    notes_after_alternative (alternative_failed {ps = qs} {a = a} {e = e} {o = o} rest) p q l f is d y =
        subst (λ z. NotesAlternatives G sets h p (q ∷ qs) a.place z (l ++ alternatives_log rest)) (failure_ends e o)
        (other_alternatives G sets h p q qs a.place (end_of o) l (alternatives_log rest) f.1 y (notes_alternatives rest p f.2 is))
    notes_after_alternative alternative_stuck p q l f is d y = calm.stuck

    -- ---- repetitions

    notes_rounds : {q k : ℕ} {a : Spot} {o : Outcome} {m : ℕ} (d : AnswersRounds G q k a o m) (p : ℕ) → ManyIsPredictive sets p q → Is a → NotesRounds G sets h p q a.place (end_of o) (rounds_log d)
    notes_rounds (round d r) p f is = notes_after_round r p (log d) f is d (notes d is)

    notes_after_round : {q k : ℕ} {a : Spot} {x o : Outcome} {n m : ℕ} (r : AfterRound G q k a x o n) (p : ℕ) (l : List Event) → ManyIsPredictive sets p q → Is a → Answers G q a x m →
        NodeNotes q a.place (end_of x) l → NotesRounds G sets h p q a.place (end_of o) (l ++ after_round_log r)
    notes_after_round (round_ended {p = q} {a = a}) p l f is d y = and_nothing (failed_round G sets h p q a.place false l f y)
    notes_after_round (round_failed {p = q} {a = a}) p l f is d y = and_nothing (failed_round G sets h p q a.place true l f y)
    notes_after_round round_empty p l f is d y = calm.stuck
    notes_after_round round_stuck p l f is d y = calm.stuck
    notes_after_round (round_ok {p = q} {a = a} {b = b} {v = v} {t = t} {o = o} rest) p l f is d y =
        subst (λ z. NotesRounds G sets h p q a.place z (l ++ rounds_log rest)) (round_ends v t o)
        (more_rounds G sets h p q a.place b.place true (end_of o) l (rounds_log rest) f y (notes_rounds rest p f (ends_at_spot G sets h d is)))

    -- ---- chains

    notes_chain : {side : Side} {shape : Shape} {q r k : ℕ} {a : Spot} {o : Outcome} {m : ℕ} (d : AnswersChain G side shape q r k a o m) (p : ℕ) → ChainIsPredictive sets p q r → Is a → NodeNotes p a.place (end_of o) (chain_log d)
    notes_chain (first_operand {a = a} d r) p f is = notes_after_first r p a (log d) f is d (notes d is)

    notes_after_first : {side : Side} {shape : Shape} {q r k : ℕ} {x o : Outcome} {n m : ℕ} (z : AfterFirst G side shape q r k x o n) (p : ℕ) (a : Spot) (l : List Event) → ChainIsPredictive sets p q r → Is a →
        Answers G q a x m → NodeNotes q a.place (end_of x) l → NodeNotes p a.place (end_of o) (l ++ after_first_log z)
    notes_after_first (first_failed {p = q} {s = r} {c = x}) p a l f is d y = and_nothing (no_operand G sets h p q r a.place x l f y)
    notes_after_first first_stuck p a l f is d y = calm.stuck
    notes_after_first (first_ok {p = q} {s = r} {c = x} {b = b} {t = t} {e = e} {o = o} rest) p a l f is d y =
        subst (λ z. NodeNotes p a.place z (l ++ links_log rest)) (rest_ends x [] t e o)
        (whole_chain G sets h p q r a.place b.place x (end_of o) l (links_log rest) f y (notes_links rest p f (ends_at_spot G sets h d is)))

    notes_links : {side : Side} {shape : Shape} {q r : ℕ} {left : List Tree} {k : ℕ} {a : Spot} {o : Outcome} {m : ℕ} (d : AnswersLinks G side shape q r left k a o m) (p : ℕ) → ChainIsPredictive sets p q r → Is a →
        NotesLinks G sets h p q r a.place (end_of o) (links_log d)
    notes_links (link d x) p f is = notes_after_separator x p (log d) f is d (notes d is)

    notes_after_separator : {side : Side} {shape : Shape} {q r : ℕ} {left : List Tree} {k : ℕ} {a : Spot} {x o : Outcome} {n m : ℕ} (z : AfterSeparator G side shape q r left k a x o n) (p : ℕ) (l : List Event) →
        ChainIsPredictive sets p q r → Is a → Answers G r a x m → NodeNotes r a.place (end_of x) l → NotesLinks G sets h p q r a.place (end_of o) (l ++ after_separator_log z)
    notes_after_separator (separator_failed {p = q} {s = r} {left = left} {a = a} {c = x} {e = e}) p l f is d y =
        and_nothing (subst (λ z. NotesLinks G sets h p q r a.place z l) (begun_ends x a left e) (failed_link G sets h p q r a.place x l f (no_separator G sets h p q r a.place x l y)))
    notes_after_separator separator_stuck p l f is d y = calm.stuck
    notes_after_separator (separator_ok {p = q} {s = r} {a = a} {b = b} {c = x} {x = z} {o = o} operand after) p l f is d y =
        let there = ends_at_spot G sets h d is in
        let link = one_link G sets h p q r a.place b.place x (end_of z) l (log operand) f y (notes operand there) in
        noted_as (append_assoc l (log operand) (after_operand_log after)) (notes_after_operand after p b (l ++ log operand) f there operand link)

    notes_after_operand : {side : Side} {shape : Shape} {q r : ℕ} {left : List Tree} {k : ℕ} {a : Spot} {x : Bool} {v : List Tree} {t : List TrailItem} {e : Error} {y o : Outcome} {n m : ℕ}
        (z : AfterOperand G side shape q r left k a x v t e y o n) (p : ℕ) (b : Spot) (l : List Event) → ChainIsPredictive sets p q r → Is b → Answers G q b y m → NotesLink G sets h p q r a.place (joined x (end_of y)) l →
        NotesLinks G sets h p q r a.place (end_of o) (l ++ after_operand_log z)
    notes_after_operand (operand_failed {p = q} {s = r} {left = left} {a = a} {c = x} {d = d} {e = e} {f = g}) p b l f is run y =
        and_nothing (subst (λ z. NotesLinks G sets h p q r a.place z l) (begun_ends (x || d) a left (error_after d e g)) (failed_link G sets h p q r a.place (x || d) l f y))
    notes_after_operand operand_stuck p b l f is run y = calm.stuck
    notes_after_operand (operand_ok {side = side} {shape = shape} {p = q} {s = r} {left = left} {v = v} {a = a} {b = z} {c = x} {d = d} {t = t} {u = u} {e = e} {f = g} {o = o} consumed rest) p b l f is run y =
        subst (λ z. NotesLinks G sets h p q r a.place z (l ++ links_log rest)) (linked_ends side shape left v [] x d t u e g o)
        (more_links G sets h p q r a.place z.place (x || d) (end_of o) l (links_log rest) f y (notes_links rest p f (ends_at_spot G sets h run is)))

    -- ---- expressions

    notes_rows : {s : Setting} {rows : List Row} {a : Spot} {o : Outcome} {m : ℕ} (d : AnswersRows G s rows a o m) (p : ℕ) (over : Over G sets h p s) (k : ℕ) → AreAllLevels over.table.operators k rows → Is a →
        Operand p s.term a.place o (rows_log d)
    notes_rows (only_term {s = s} {a = a} {o = o} d) p over k levels is =
        (subst (λ z. NotesOperand G sets h p s.term a.place z (log d)) (noted_ends (Ops []) o) (notes_term G sets h p s over a.place (end_of o) (log d) (notes d is)), at_noted Is (Ops []) o (at_node d is))
    notes_rows (loosest_row {a = a} d r) p over k (level {k = j} row levels) is = notes_after_row_operand r p over (suc j) j row levels a.place (row_operand_log d) (notes_operand d p over (suc j) j row levels is)

    notes_operand : {s : Setting} {r : Row} {tighter : List Row} {a : Spot} {o : Outcome} {m : ℕ} (d : AnswersRowOperand G s r tighter a o m) (p : ℕ) (over : Over G sets h p s) (k j : ℕ) → IsRow over.table.operators k r →
        AreAllLevels over.table.operators j tighter → Is a → Operand p s.term a.place o (row_operand_log d)
    notes_operand (row_operand {s = s} {r = r} {a = a} {x = x} d) p over k j row levels is =
        notes_row_operand G sets h p s over k r a x (rows_log d) row is (notes_rows d p over j levels (after_prefix G sets h p s over k r a row is))

    notes_after_row_operand : {s : Setting} {r : Row} {tighter : List Row} {x o : Outcome} {n : ℕ} (z : AfterRowOperand G s r tighter x o n) (p : ℕ) (over : Over G sets h p s) (k j : ℕ) → IsRow over.table.operators k r →
        AreAllLevels over.table.operators j tighter → (i : ℕ) (l : List Event) → Operand p s.term i x l → Operand p s.term i o (l ++ after_row_log z)
    notes_after_row_operand row_failed p over k j row levels i l y = (and_nothing y.0, tt)
    notes_after_row_operand row_stuck p over k j row levels i l y = (calm.stuck, tt)
    notes_after_row_operand (row_ok {s = s} {c = x} {b = b} {t = t} {e = e} {o = o} d) p over k j row levels i l y =
        let tail = notes_tail d p over k j row levels y.1 in
        (subst (λ z. NotesOperand G sets h p s.term i z (l ++ tail_log d)) (row_ends x t e o) (notes_stretch G sets h p s over i b.place x (end_of o) l (tail_log d) y.0 tail.0), at_row Is x t e o tail.1)

    notes_tail : {s : Setting} {r : Row} {tighter : List Row} {v : List Tree} {a : Spot} {o : Outcome} {m : ℕ} (d : AnswersTail G s r tighter v a o m) (p : ℕ) (over : Over G sets h p s) (k j : ℕ) → IsRow over.table.operators k r →
        AreAllLevels over.table.operators j tighter → Is a → Tail s.term a.place o (tail_log d)
    notes_tail (row_tail d x) p over k j row levels is = notes_after_right x p over k j row levels is (right_log d) (notes_right d p over k j row levels is)

    notes_after_right : {s : Setting} {r : Row} {tighter : List Row} {v : List Tree} {a : Spot} {x o : Outcome} {n : ℕ} (z : AfterRight G s r tighter v a x o n) (p : ℕ) (over : Over G sets h p s) (k j : ℕ) → IsRow over.table.operators k r →
        AreAllLevels over.table.operators j tighter → Is a → (l : List Event) → Infix s.term a.place x l → Tail s.term a.place o (l ++ after_right_log z)
    notes_after_right (right_stands {s = s} {a = a} {b = b} {c = x}) p over k j row levels is l y = (notes_stands G sets h p s over a.place (paid.ends x b.place) l y.0, y.1)
    notes_after_right (right_commits {s = s} {a = a}) p over k j row levels is l y = (notes_stands G sets h p s over a.place (paid.stops true) l y.0, tt)
    notes_after_right right_stuck p over k j row levels is l y = (calm.stuck, tt)
    notes_after_right (right_failed {s = s} {a = a} {e = e} {o = o} d x) p over k j row levels is l y =
        let left = notes_after_left x p over k j row levels is (left_log d) (notes_left d p over k j row levels is) in
        let n : List Event = left_log d ++ after_left_log x in
        (subst (λ z. NotesTail G sets h s.term a.place z (l ++ n)) (row_failure_ends e o) (notes_else G sets h p s over a.place (end_of o) l n y.0.1 left.0), at_failure Is e o left.1)

    notes_after_left : {s : Setting} {r : Row} {tighter : List Row} {v : List Tree} {a : Spot} {x o : Outcome} {n : ℕ} (z : AfterLeft G s r tighter v a x o n) (p : ℕ) (over : Over G sets h p s) (k j : ℕ) → IsRow over.table.operators k r →
        AreAllLevels over.table.operators j tighter → Is a → (l : List Event) → Infix s.term a.place x l → Tail s.term a.place o (l ++ after_left_log z)
    notes_after_left (left_stands {s = s} {a = a} {b = b} {c = x}) p over k j row levels is l y = (notes_stands G sets h p s over a.place (paid.ends x b.place) l y.0, y.1)
    notes_after_left (left_commits {s = s} {a = a}) p over k j row levels is l y = (notes_stands G sets h p s over a.place (paid.stops true) l y.0, tt)
    notes_after_left left_stuck p over k j row levels is l y = (calm.stuck, tt)
    notes_after_left (left_failed {s = s} {v = v} {a = a} {e = e} {o = o} d) p over k j row levels is l y =
        let non = notes_non d p over k j row levels is in (
          subst (λ z. NotesTail G sets h s.term a.place z (l ++ non_log d)) (non_ends e a v o)
              (notes_else G sets h p s over a.place (returned a.place (end_of o)) l (non_log d) y.0.1 (notes_return G sets h p s over a.place (end_of o) (non_log d) non.0)),
          at_non Is e a v o is non.1,
        )

    notes_right : {s : Setting} {r : Row} {tighter : List Row} {v : List Tree} {a : Spot} {o : Outcome} {m : ℕ} (d : AnswersRight G s r tighter v a o m) (p : ℕ) (over : Over G sets h p s) (k j : ℕ) → IsRow over.table.operators k r →
        AreAllLevels over.table.operators j tighter → Is a → Infix s.term a.place o (right_log d)
    notes_right (right_side {s = s} {r = r} {a = a} {o = o} d) p over k j row levels is =
        let inner = notes_right_operator d p over k j row levels is refl in
        let e : Error = merge (ambiguous_left G.grammar G.text s.item r a.place) (ambiguous_non G.grammar G.text s.item r a.place) in
        (subst (λ z. NotesInfix G sets h s.term a.place z (right_operator_log d)) (ambiguous_ends e o) inner.0, at_ambiguous Is e o inner.1)

    notes_right_operator : {s : Setting} {r : Row} {tighter : List Row} {v : List Tree} {a : Spot} {w : Option Read} {o : Outcome} {m : ℕ} (d : AfterRightOperator G s r tighter v a w o m) (p : ℕ) (over : Over G sets h p s)
        (k j : ℕ) → IsRow over.table.operators k r → AreAllLevels over.table.operators j tighter → Is a → read_at G.grammar G.text s.item r.right a.place ≡ w → Infix s.term a.place o (right_operator_log d)
    notes_right_operator (right_unread {s = s} {a = a}) p over k j row levels is e = (unread G sets h p s over a.place, tt)
    notes_right_operator (right_read {s = s} {r = r} {v = v} {a = a} {q = q} {o = o} d x) p over k j row levels is e =
        let read = reads G sets h p s over InfixRight k r.right row.right a is q e in
        let l : List Event = row_operand_log d ++ right_operand_log x in
        let operand = notes_right_operand x p over k j row levels q.end (row_operand_log d) (notes_operand d p over k j row levels read.spot) in (
          subst (λ z. NotesInfix G sets h s.term a.place z (Consumed a.place ∷ l)) (applied_operator_ends fixity.Infix q s.builders.infix v o) (notes_infix G sets h p s over a q (end_of o) l read operand.0),
          at_applied_operator Is fixity.Infix q s.builders.infix v o operand.1,
        )

    notes_right_operand : {s : Setting} {r : Row} {tighter : List Row} {x o : Outcome} {n : ℕ} (z : AfterRightOperand G s r tighter x o n) (p : ℕ) (over : Over G sets h p s) (k j : ℕ) → IsRow over.table.operators k r →
        AreAllLevels over.table.operators j tighter → (i : ℕ) (l : List Event) → Operand p s.term i x l → Operand p s.term i o (l ++ right_operand_log z)
    notes_right_operand right_operand_failed p over k j row levels i l y = (and_nothing y.0, tt)
    notes_right_operand right_operand_stuck p over k j row levels i l y = (calm.stuck, tt)
    notes_right_operand (right_operand_ok {s = s} {c = x} {b = b} {w = w} {t = t} {e = e} {o = o} d) p over k j row levels i l y =
        let right = notes_right d p over k j row levels y.1 in (
          subst (λ z. NotesOperand G sets h p s.term i z (l ++ right_log d)) (operand_ends x t e b w o)
              (notes_stretch G sets h p s over i b.place x (returned b.place (end_of o)) l (right_log d) y.0 (notes_return G sets h p s over b.place (end_of o) (right_log d) right.0)),
          at_operand Is x t e b w o y.1 right.1,
        )

    notes_left : {s : Setting} {r : Row} {tighter : List Row} {v : List Tree} {a : Spot} {o : Outcome} {m : ℕ} (d : AnswersLeft G s r tighter v a o m) (p : ℕ) (over : Over G sets h p s) (k j : ℕ) → IsRow over.table.operators k r →
        AreAllLevels over.table.operators j tighter → Is a → Infix s.term a.place o (left_log d)
    notes_left (left_side {s = s} {r = r} {a = a} {o = o} d) p over k j row levels is =
        let inner = notes_left_operator d p over k j row levels is refl in
        let e : Error = merge (ambiguous_right G.grammar G.text s.item r a.place) (ambiguous_non G.grammar G.text s.item r a.place) in
        (subst (λ z. NotesInfix G sets h s.term a.place z (left_operator_log d)) (ambiguous_ends e o) inner.0, at_ambiguous Is e o inner.1)

    notes_left_operator : {s : Setting} {r : Row} {tighter : List Row} {v : List Tree} {a : Spot} {w : Option Read} {o : Outcome} {m : ℕ} (d : AfterLeftOperator G s r tighter v a w o m) (p : ℕ) (over : Over G sets h p s)
        (k j : ℕ) → IsRow over.table.operators k r → AreAllLevels over.table.operators j tighter → Is a → read_at G.grammar G.text s.item r.left a.place ≡ w → Infix s.term a.place o (left_operator_log d)
    notes_left_operator (left_unread {s = s} {a = a}) p over k j row levels is e = (unread G sets h p s over a.place, tt)
    notes_left_operator (left_read {s = s} {r = r} {a = a} {q = q} {o = o} d x) p over k j row levels is e =
        let read = reads G sets h p s over InfixLeft k r.left row.left a is q e in
        let l : List Event = row_operand_log d ++ left_operand_log x in
        let operand = notes_left_operand x p over k j row levels q.end (row_operand_log d) (notes_operand d p over k j row levels read.spot) in
        (subst (λ z. NotesInfix G sets h s.term a.place z (Consumed a.place ∷ l)) (operator_ends fixity.Infix q o) (notes_infix G sets h p s over a q (end_of o) l read operand.0), at_operator Is fixity.Infix q o operand.1)

    notes_left_operand : {s : Setting} {r : Row} {tighter : List Row} {v : List Tree} {q : Read} {x o : Outcome} {n : ℕ} (z : AfterLeftOperand G s r tighter v q x o n) (p : ℕ) (over : Over G sets h p s) (k j : ℕ) →
        IsRow over.table.operators k r → AreAllLevels over.table.operators j tighter → (i : ℕ) (l : List Event) → Operand p s.term i x l → Operand p s.term i o (l ++ left_operand_log z)
    notes_left_operand left_operand_failed p over k j row levels i l y = (and_nothing y.0, tt)
    notes_left_operand left_operand_stuck p over k j row levels i l y = (calm.stuck, tt)
    notes_left_operand (left_operand_ok {s = s} {v = v} {w = w} {q = q} {c = x} {b = b} {t = t} {e = e} {o = o} d) p over k j row levels i l y =
        let left = notes_left d p over k j row levels y.1 in
        let forest : List Tree = applied s.builders.infix q.operator (v ++ w) in (
          subst (λ z. NotesOperand G sets h p s.term i z (l ++ left_log d)) (operand_ends x t e b forest o)
              (notes_stretch G sets h p s over i b.place x (returned b.place (end_of o)) l (left_log d) y.0 (notes_return G sets h p s over b.place (end_of o) (left_log d) left.0)),
          at_operand Is x t e b forest o y.1 left.1,
        )

    notes_non : {s : Setting} {r : Row} {tighter : List Row} {v : List Tree} {a : Spot} {o : Outcome} {m : ℕ} (d : AnswersNon G s r tighter v a o m) (p : ℕ) (over : Over G sets h p s) (k j : ℕ) → IsRow over.table.operators k r →
        AreAllLevels over.table.operators j tighter → Is a → Infix s.term a.place o (non_log d)
    notes_non (neither_side d) p over k j row levels is = notes_non_operator d p over k j row levels is refl

    notes_non_operator : {s : Setting} {r : Row} {tighter : List Row} {v : List Tree} {a : Spot} {w : Option Read} {o : Outcome} {m : ℕ} (d : AfterNonOperator G s r tighter v a w o m) (p : ℕ) (over : Over G sets h p s)
        (k j : ℕ) → IsRow over.table.operators k r → AreAllLevels over.table.operators j tighter → Is a → read_at G.grammar G.text s.item r.non a.place ≡ w → Infix s.term a.place o (non_operator_log d)
    notes_non_operator (non_unread {s = s} {a = a}) p over k j row levels is e = (unread G sets h p s over a.place, tt)
    notes_non_operator (non_read {s = s} {r = r} {v = v} {a = a} {q = q} {x = x} d) p over k j row levels is e =
        let read = reads G sets h p s over InfixNone k r.non row.non a is q e in
        let first = notes_operand d p over k j row levels read.spot in
        let l : List Event = row_operand_log d in
        let last = notes_ambiguous G sets h p s over r q v q.end x l first.1 first.0 in
        let o : Outcome = with_last G.grammar G.text s r q v x in
        (subst (λ z. NotesInfix G sets h s.term a.place z (Consumed a.place ∷ l)) (operator_ends fixity.Infix q o) (notes_infix G sets h p s over a q (end_of o) l read last.0), at_operator Is fixity.Infix q o last.1)
