-- The rows of an expression have an answer wherever its term has one.
use Rattle.std.proofs.Common.{◌≡◌, ◌<◌, ◌≤◌, ◌+◌, ℕ, zero, suc, Bool, true, false, List, [], ◌∷◌, ◌++◌, length, refl, sym, subst, arith, le_refl, le_trans}
use Rattle.std.specs.Prelude.{Option, Some, None}
use Rattle.pg_tree.specs.Trees.{Tree}
use Rattle.pg_grammar_form.specs.Operators.{Operator}
use Rattle.pg_grammar_form.specs.declared.used.BuilderUse.{BuilderUse}
use Rattle.pg_grammar_form.specs.declared.used.OperatorBuilders.{OperatorBuilders}
use Rattle.pg_grammar_value.specs.declared.trail.Fixity.TheVariants as fixity
use Rattle.pg_grammar_value.specs.declared.trail.TrailItem.{TrailItem}
use Rattle.pg_grammar_value.specs.declared.trail.TrailItem.TheVariants.{Ops}
use Rattle.pg_expand.specs.declared.rows.Row.{Row}
use Rattle.pg_language.specs.Answers.{Given, Answers, AnswersRows, only_term, loosest_row, AnswersRowOperand, row_operand, AfterRowOperand, row_failed, row_ok, AnswersTail, row_tail, AfterRight, right_stands, right_commits, right_failed, AfterLeft, left_stands, left_commits, left_failed, AnswersRight, right_side, AfterRightOperator, right_unread, right_read, AfterRightOperand, right_operand_failed, right_operand_ok, AnswersLeft, left_side, AfterLeftOperator, left_unread, left_read, AfterLeftOperand, left_operand_failed, left_operand_ok, AnswersNon, neither_side, AfterNonOperator, non_unread, non_read}
use Rattle.pg_language.specs.Derives.{Spot, at, applied}
use Rattle.pg_language.specs.Errors.{Error, merge, no_messages_at}
use Rattle.pg_language.specs.OperatorReads.{Read, read_at}
use Rattle.pg_language.specs.Outcomes.{Outcome, ok, failed, empty_round}
use Rattle.pg_language.specs.Reactions.{noted, after_failure, unless_begun}
use Rattle.pg_language.specs.RowReactions.{Setting, noted_operator, then_stretch, as_applied, or_return, past_prefix, with_prefix, postfix_outcome, with_postfix, or_ambiguous, with_last, labelled_operator, ambiguous_left, ambiguous_right, ambiguous_non}

-- it isn't that a repetition met a round that consumed nothing, and where it is ok, this is so of the spot after it
abbrev pub IsAnswer : (Spot → Type 0) → Outcome → Type 0
IsAnswer Is (ok c b v t e) = Is b
IsAnswer Is (failed c e) = Unit {0}
IsAnswer Is empty_round = ⊥

-- the run has an outcome of this kind
pub record Settled (Is : Spot → Type 0) (Run : Outcome → ℕ → Type 0) : Type 0 where
  pub outcome : Outcome
  pub count : ℕ
  pub run : Run outcome count
  pub answers : IsAnswer Is outcome

-- ---- reactions keep that

answers_if_also : (Is Also : Spot → Type 0) (o : Outcome) → ((b : Spot) → Is b → Also b) → IsAnswer Is o → IsAnswer Also o
answers_if_also Is Also (ok c b v t e) f h = f b h
answers_if_also Is Also (failed c e) f h = tt
answers_if_also Is Also empty_round f h = absurd h

module _ (Is : Spot → Type 0) where
  stretch_answers : (c : Bool) (t : List TrailItem) (e : Error) (o : Outcome) → IsAnswer Is o → IsAnswer Is (then_stretch c t e o)
  stretch_answers c t e (ok d b w u f) h = h
  stretch_answers c t e (failed d f) h = tt
  stretch_answers c t e empty_round h = absurd h

  applied_answers : (used : BuilderUse) (o : Operator) (v : List Tree) (x : Outcome) → IsAnswer Is x → IsAnswer Is (as_applied used o v x)
  applied_answers used o v (ok c b w t e) h = h
  applied_answers used o v (failed c e) h = tt
  applied_answers used o v empty_round h = absurd h

  begun_answers : (c : Bool) (a : Spot) (v : List Tree) (e : Error) → Is a → IsAnswer Is (unless_begun c a v e)
  begun_answers true a v e h = tt
  begun_answers false a v e h = h

  return_answers : (a : Spot) (v : List Tree) (o : Outcome) → Is a → IsAnswer Is o → IsAnswer Is (or_return a v o)
  return_answers a v (ok c b w t e) i h = h
  return_answers a v (failed c e) i h = begun_answers c a v e i
  return_answers a v empty_round i h = absurd h

  ambiguous_answers : (e : Error) (o : Outcome) → IsAnswer Is o → IsAnswer Is (or_ambiguous e o)
  ambiguous_answers e (ok c b v t f) h = h
  ambiguous_answers e (failed true f) h = tt
  ambiguous_answers e (failed false f) h = tt
  ambiguous_answers e empty_round h = absurd h

  labelled_answers : (o : Outcome) → IsAnswer Is o → IsAnswer Is (labelled_operator o)
  labelled_answers (ok c b v t e) h = h
  labelled_answers (failed c e) h = tt
  labelled_answers empty_round h = absurd h

  failure_answers : (e : Error) (o : Outcome) → IsAnswer Is o → IsAnswer Is (after_failure e o)
  failure_answers e (ok c b v t f) h = h
  failure_answers e (failed c f) h = tt
  failure_answers e empty_round h = absurd h

  noted_answers : (x : TrailItem) (o : Outcome) → IsAnswer Is o → IsAnswer Is (noted x o)
  noted_answers x (ok c b v t e) h = h
  noted_answers x (failed c e) h = tt
  noted_answers x empty_round h = absurd h

  prefix_answers : (text : List ℕ) (builders : OperatorBuilders) (os : List Operator) (a : Spot) (w : Option Read) (o : Outcome) → IsAnswer Is o → IsAnswer Is (with_prefix text builders os a w o)
  prefix_answers text builders os a None o h = stretch_answers false [] _ o h
  prefix_answers text builders os a (Some q) o h = stretch_answers true (noted_operator fixity.Prefix q.operator) (no_messages_at q.end) (as_applied builders.prefix q.operator [] o) (applied_answers builders.prefix q.operator [] o h)

module _ (G : Given) (s : Setting) (Is : Spot → Type 0)
    (reads : (os : List Operator) (b : Spot) (q : Read) → Is b → read_at G.grammar G.text s.item os b.place ≡ Some q → Is (at b q.end))
    (within : (b : Spot) → Is b → b.place ≤ length G.text)
    (ahead : (os : List Operator) (b : Spot) (q : Read) → read_at G.grammar G.text s.item os b.place ≡ Some q → b.place < q.end) where
  -- so is the spot, and it isn't before this place
  abbrev From : ℕ → Spot → Type 0
  From i b = Is b × (i ≤ b.place)

  abbrev Terms : Type 0
  Terms = (a : Spot) → Is a → Settled (From a.place) (Answers G s.term a)

  postfix_answers : (os : List Operator) (v : List Tree) (i : ℕ) (b : Spot) (w : Option Read) → From i b → read_at G.grammar G.text s.item os b.place ≡ w → IsAnswer (From i) (postfix_outcome G.text s.builders os v b w)
  postfix_answers os v i b None h e = h
  postfix_answers os v i b (Some q) h e = (reads os b q h.0 e, (let far = ahead os b q e in omega arith))

  affix_answers : (i : ℕ) (os : List Operator) (o : Outcome) → IsAnswer (From i) o → IsAnswer (From i) (with_postfix G.grammar G.text s os o)
  affix_answers i os (ok c b v t e) h = stretch_answers (From i) c t e _ (postfix_answers os v i b (read_at G.grammar G.text s.item os b.place) h refl)
  affix_answers i os (failed c e) h = tt
  affix_answers i os empty_round h = absurd h

  last_answers : (i : ℕ) (r : Row) (q : Read) (v : List Tree) (o : Outcome) → IsAnswer (From i) o → IsAnswer (From i) (with_last G.grammar G.text s r q v o)
  last_answers i r q v (ok c b w t e) h =
      let f : Error = merge (ambiguous_right G.grammar G.text s.item r b.place) (merge (ambiguous_left G.grammar G.text s.item r b.place) (ambiguous_non G.grammar G.text s.item r b.place)) in
      stretch_answers (From i) c t e (unless_begun false b (applied s.builders.infix q.operator (v ++ w)) f) h
  last_answers i r q v (failed c e) h = tt
  last_answers i r q v empty_round h = absurd h

  module _ (r : Row) (tighter : List Row) where
    abbrev Operands : Type 0
    Operands = (a : Spot) → Is a → Settled (From a.place) (AnswersRowOperand G s r tighter a)

    settle_operand : ((a : Spot) → Is a → Settled (From a.place) (AnswersRows G s tighter a)) → Operands
    settle_operand rows a is = go (read_at G.grammar G.text s.item r.prefix a.place) refl
      where
        made : (o : Outcome) (m : ℕ) → AnswersRows G s tighter (past_prefix a (read_at G.grammar G.text s.item r.prefix a.place)) o m → IsAnswer (From a.place) o →
            Settled (From a.place) (AnswersRowOperand G s r tighter a)
        made o m run h = record {
          outcome = _;
          count = m;
          run = row_operand run;
          answers = affix_answers a.place r.postfix _ (prefix_answers (From a.place) G.text s.builders r.prefix a (read_at G.grammar G.text s.item r.prefix a.place) o h);
        }

        go : (w : Option Read) → read_at G.grammar G.text s.item r.prefix a.place ≡ w → Settled (From a.place) (AnswersRowOperand G s r tighter a)
        go None e =
            let x = rows a is in
            made x.outcome x.count (subst (λ w. AnswersRows G s tighter (past_prefix a w) x.outcome x.count) (sym e) x.run) x.answers
        go (Some q) e =
            let x = rows (at a q.end) (reads r.prefix a q is e) in
            let far = ahead r.prefix a q e in
            made x.outcome x.count (subst (λ w. AnswersRows G s tighter (past_prefix a w) x.outcome x.count) (sym e) x.run)
            (answers_if_also (From q.end) (From a.place) x.outcome (λ b h. (h.0, (let l = h.1 in omega arith))) x.answers)

    -- ---- right-associative operators

    abbrev Rights : ℕ → Type 0
    Rights n = (v : List Tree) (b : Spot) → Is b → length G.text < n + b.place → Settled (From b.place) (AnswersRight G s r tighter v b)

    settle_right_operand : (n : ℕ) → Rights n → (a : Spot) (x : Outcome) → length G.text < n + a.place → IsAnswer (From a.place) x → Settled (From a.place) (AfterRightOperand G s r tighter x)
    settle_right_operand n rights a (ok c b w t e) l h =
        let more = rights w b h.0 (let on = h.1 in omega arith) in
        record {
          outcome = _;
          count = _;
          run = right_operand_ok more.run;
          answers = stretch_answers (From a.place) c t e _ (return_answers (From a.place) b w more.outcome h (answers_if_also (From b.place) (From a.place) more.outcome (λ z g. (g.0, le_trans h.1 g.1)) more.answers));
        }
    settle_right_operand n rights a (failed c e) l h = record { outcome = _; count = _; run = right_operand_failed; answers = tt }
    settle_right_operand n rights a empty_round l h = absurd h

    settle_right : Operands → (n : ℕ) → Rights n
    settle_right operands zero v b is l = let inside = within b is in absurd (omega arith)
    settle_right operands (suc n) v b is l = go (settle_right operands n) (read_at G.grammar G.text s.item r.right b.place) refl
      where
        made : {w : Option Read} {o : Outcome} {m : ℕ} → read_at G.grammar G.text s.item r.right b.place ≡ w → AfterRightOperator G s r tighter v b w o m → IsAnswer (From b.place) o →
            Settled (From b.place) (AnswersRight G s r tighter v b)
        made {o = o} {m = m} e run h = record {
          outcome = _;
          count = m;
          run = right_side (subst (λ w. AfterRightOperator G s r tighter v b w o m) (sym e) run);
          answers = ambiguous_answers (From b.place) (merge (ambiguous_left G.grammar G.text s.item r b.place) (ambiguous_non G.grammar G.text s.item r b.place)) o h;
        }

        go : Rights n → (w : Option Read) → read_at G.grammar G.text s.item r.right b.place ≡ w → Settled (From b.place) (AnswersRight G s r tighter v b)
        go rest None e = made e right_unread tt
        go rest (Some q) e =
            let far = ahead r.right b q e in
            let operand = operands (at b q.end) (reads r.right b q is e) in
            let more = settle_right_operand n rest (at b q.end) operand.outcome (omega arith) operand.answers in
            made e (right_read operand.run more.run)
            (stretch_answers (From b.place) true (noted_operator fixity.Infix q.operator) (no_messages_at q.end) (as_applied s.builders.infix q.operator v more.outcome) (applied_answers (From b.place) s.builders.infix q.operator v more.outcome
            (answers_if_also (From q.end) (From b.place) more.outcome (λ z h. (h.0, (let on = h.1 in omega arith))) more.answers)))

    -- ---- left-associative operators

    abbrev Lefts : ℕ → Type 0
    Lefts n = (v : List Tree) (b : Spot) → Is b → length G.text < n + b.place → Settled (From b.place) (AnswersLeft G s r tighter v b)

    settle_left_operand : (n : ℕ) → Lefts n → (v : List Tree) (q : Read) (a : Spot) (x : Outcome) → length G.text < n + a.place → IsAnswer (From a.place) x → Settled (From a.place) (AfterLeftOperand G s r tighter v q x)
    settle_left_operand n lefts v q a (ok c b w t e) l h =
        let z : List Tree = applied s.builders.infix q.operator (v ++ w) in
        let more = lefts z b h.0 (let on = h.1 in omega arith) in
        record {
          outcome = _;
          count = _;
          run = left_operand_ok more.run;
          answers = stretch_answers (From a.place) c t e _ (return_answers (From a.place) b z more.outcome h (answers_if_also (From b.place) (From a.place) more.outcome (λ z g. (g.0, le_trans h.1 g.1)) more.answers));
        }
    settle_left_operand n lefts v q a (failed c e) l h = record { outcome = _; count = _; run = left_operand_failed; answers = tt }
    settle_left_operand n lefts v q a empty_round l h = absurd h

    settle_left : Operands → (n : ℕ) → Lefts n
    settle_left operands zero v b is l = let inside = within b is in absurd (omega arith)
    settle_left operands (suc n) v b is l = go (settle_left operands n) (read_at G.grammar G.text s.item r.left b.place) refl
      where
        made : {w : Option Read} {o : Outcome} {m : ℕ} → read_at G.grammar G.text s.item r.left b.place ≡ w → AfterLeftOperator G s r tighter v b w o m → IsAnswer (From b.place) o →
            Settled (From b.place) (AnswersLeft G s r tighter v b)
        made {o = o} {m = m} e run h = record {
          outcome = _;
          count = m;
          run = left_side (subst (λ w. AfterLeftOperator G s r tighter v b w o m) (sym e) run);
          answers = ambiguous_answers (From b.place) (merge (ambiguous_right G.grammar G.text s.item r b.place) (ambiguous_non G.grammar G.text s.item r b.place)) o h;
        }

        go : Lefts n → (w : Option Read) → read_at G.grammar G.text s.item r.left b.place ≡ w → Settled (From b.place) (AnswersLeft G s r tighter v b)
        go rest None e = made e left_unread tt
        go rest (Some q) e =
            let far = ahead r.left b q e in
            let operand = operands (at b q.end) (reads r.left b q is e) in
            let more = settle_left_operand n rest v q (at b q.end) operand.outcome (omega arith) operand.answers in
            made e (left_read operand.run more.run)
            (stretch_answers (From b.place) true (noted_operator fixity.Infix q.operator) (no_messages_at q.end) more.outcome (answers_if_also (From q.end) (From b.place) more.outcome (λ z h. (h.0, (let on = h.1 in omega arith))) more.answers))

    -- ---- operators that aren't associative

    settle_non : Operands → (v : List Tree) (b : Spot) → Is b → Settled (From b.place) (AnswersNon G s r tighter v b)
    settle_non operands v b is = go (read_at G.grammar G.text s.item r.non b.place) refl
      where
        made : {w : Option Read} {o : Outcome} {m : ℕ} → read_at G.grammar G.text s.item r.non b.place ≡ w → AfterNonOperator G s r tighter v b w o m → IsAnswer (From b.place) o →
            Settled (From b.place) (AnswersNon G s r tighter v b)
        made {o = o} {m = m} e run h = record { outcome = _; count = m; run = neither_side (subst (λ w. AfterNonOperator G s r tighter v b w o m) (sym e) run); answers = h }

        go : (w : Option Read) → read_at G.grammar G.text s.item r.non b.place ≡ w → Settled (From b.place) (AnswersNon G s r tighter v b)
        go None e = made e non_unread tt
        go (Some q) e =
            let far = ahead r.non b q e in
            let operand = operands (at b q.end) (reads r.non b q is e) in
            made e (non_read operand.run)
            (stretch_answers (From b.place) true (noted_operator fixity.Infix q.operator) (no_messages_at q.end) (with_last G.grammar G.text s r q v operand.outcome) (answers_if_also (From q.end) (From b.place) (with_last G.grammar G.text s r q v operand.outcome) (λ z h. (h.0, (let on = h.1 in omega arith))) (last_answers q.end r q v operand.outcome operand.answers)))

    -- ---- after the first operand

    settle_after_left : Operands → (v : List Tree) (b : Spot) (x : Outcome) → Is b → IsAnswer (From b.place) x → Settled (From b.place) (AfterLeft G s r tighter v b x)
    settle_after_left operands v b (ok c z w t e) is h = record { outcome = _; count = _; run = left_stands; answers = h }
    settle_after_left operands v b (failed true e) is h = record { outcome = _; count = _; run = left_commits; answers = tt }
    settle_after_left operands v b (failed false e) is h =
        let non = settle_non operands v b is in
        record { outcome = _; count = _; run = left_failed non.run; answers = failure_answers (From b.place) e _ (return_answers (From b.place) b v non.outcome (is, le_refl _) non.answers) }
    settle_after_left operands v b empty_round is h = absurd h

    settle_after_right : Operands → (v : List Tree) (b : Spot) (x : Outcome) → Is b → IsAnswer (From b.place) x → Settled (From b.place) (AfterRight G s r tighter v b x)
    settle_after_right operands v b (ok c z w t e) is h = record { outcome = _; count = _; run = right_stands; answers = h }
    settle_after_right operands v b (failed true e) is h = record { outcome = _; count = _; run = right_commits; answers = tt }
    settle_after_right operands v b (failed false e) is h =
        let left = settle_left operands (suc (length G.text)) v b is (omega arith) in
        let after = settle_after_left operands v b left.outcome is left.answers in
        record { outcome = _; count = _; run = right_failed left.run after.run; answers = failure_answers (From b.place) e after.outcome after.answers }
    settle_after_right operands v b empty_round is h = absurd h

    settle_tail : Operands → (v : List Tree) (b : Spot) → Is b → Settled (From b.place) (AnswersTail G s r tighter v b)
    settle_tail operands v b is =
        let right = settle_right operands (suc (length G.text)) v b is (omega arith) in
        let after = settle_after_right operands v b right.outcome is right.answers in
        record { outcome = after.outcome; count = _; run = row_tail right.run after.run; answers = after.answers }

    settle_after_operand : Operands → (a : Spot) (x : Outcome) → IsAnswer (From a.place) x → Settled (From a.place) (AfterRowOperand G s r tighter x)
    settle_after_operand operands a (ok c b v t e) h =
        let tail = settle_tail operands v b h.0 in
        record {
          outcome = _;
          count = _;
          run = row_ok tail.run;
          answers = stretch_answers (From a.place) c t e _ (labelled_answers (From a.place) tail.outcome (answers_if_also (From b.place) (From a.place) tail.outcome (λ z g. (g.0, le_trans h.1 g.1)) tail.answers));
        }
    settle_after_operand operands a (failed c e) h = record { outcome = _; count = _; run = row_failed; answers = tt }
    settle_after_operand operands a empty_round h = absurd h

    settle_row : Operands → (a : Spot) → Is a → Settled (From a.place) (AnswersRows G s (r ∷ tighter) a)
    settle_row operands a is =
        let operand = operands a is in
        let after = settle_after_operand operands a operand.outcome operand.answers in
        record { outcome = after.outcome; count = _; run = loosest_row operand.run after.run; answers = after.answers }

  pub settle_rows : Terms → (rows : List Row) (a : Spot) → Is a → Settled (From a.place) (AnswersRows G s rows a)
  settle_rows terms [] a is =
      let x = terms a is in record { outcome = _; count = _; run = only_term x.run; answers = noted_answers (From a.place) (Ops []) x.outcome x.answers }
  settle_rows terms (r ∷ tighter) a is = settle_row r tighter (settle_operand r tighter (λ b h. settle_rows terms tighter b h)) a is
