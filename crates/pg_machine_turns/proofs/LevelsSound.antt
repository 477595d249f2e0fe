-- Soundness of the levels of an expression: every outcome that they reach is one of the relation of answers.
use Rattle.std.proofs.Common.{◌≡◌, ℕ, zero, ◌+◌, List, [], ◌∷◌, ◌++◌, Bool, false, refl, subst, sym, ap, ◌∙◌, arith}
use Rattle.std.specs.Prelude.{Option, Some, None}
use Rattle.pg_tree.specs.Trees.{Tree}
use Rattle.pg_grammar_value.specs.declared.trail.TrailItem.{TrailItem}
use Rattle.pg_grammar_value.specs.declared.trail.Fixity.TheVariants as fixity
use Rattle.pg_expand.specs.declared.rows.Row.{Row}
use Rattle.pg_language.specs.Derives.{Spot, at, applied}
use Rattle.pg_language.specs.Answers.{Given, AnswersRows, only_term, loosest_row, AnswersRowOperand, row_operand, AfterRowOperand, row_failed, row_stuck, row_ok, AnswersTail, row_tail, right_stands, right_commits, right_stuck, right_failed, left_stands, left_commits, left_stuck, left_failed, AnswersRight, right_side, AfterRightOperator, right_unread, right_read, AfterRightOperand, right_operand_failed, right_operand_stuck, right_operand_ok, AnswersLeft, left_side, AfterLeftOperator, left_unread, left_read, AfterLeftOperand, left_operand_failed, left_operand_stuck, left_operand_ok, AnswersNon, neither_side, AfterNonOperator, non_unread, non_read}
use Rattle.pg_language.specs.Errors.{Error, merge}
use Rattle.pg_language.specs.OperatorReads.{Read, read_at, unread}
use Rattle.pg_language.specs.Outcomes.{Outcome, ok, failed, empty_round}
use Rattle.pg_language.specs.RowReactions.{Setting, joined_trail, then_stretch, then_operand, as_applied, past_prefix, as_operand, ambiguous_right, ambiguous_left, ambiguous_non, or_ambiguous, with_last}
use Rattle.pg_machine_turns.proofs.Stretches.{row_goes_on, goes_on, left_goes_on}
use Rattle.pg_machine_turns.specs.Frames.{Frame}
use Rattle.pg_machine_turns.specs.Levels.{none_precedes, right_precedes, left_precedes, non_precedes, Level, row_level, right_level, after_operator, with_infix, no_right, no_left, no_infix, after_first, after_right, after_left, row_follows, follows}
use Rattle.pg_machine_turns.specs.Turns.{descend, followed, climb}
use Rattle.pg_machine_turns.specs.Finishes.{LevelsGive, no_level, first_gives, right_gives, left_gives, non_gives, right_side_gives, gives_expression, Returns, over, Finishes, entering, handing}

-- some part of an expression answers, its outcome is handed to the levels, changed by a function, and what they come to is
-- handed on
pub record Then (G : Given) (s : Setting) (outcomes : Outcome → ℕ → Type 0) (changed : Outcome → Outcome) (levels : List Level) (fs : List Frame) (out : Outcome) (n : ℕ) : Type 0 where
  pub outcome : Outcome
  pub nodes : ℕ
  pub handed : Outcome
  pub more : ℕ
  pub further : ℕ
  pub answers : outcomes outcome nodes
  pub gives : LevelsGive G s levels (changed outcome) handed more
  pub returns : Returns G fs handed out further
  pub count : n ≡ nodes + more + further

-- the levels come to an outcome, which is handed on
pub record Climbed (G : Given) (s : Setting) (levels : List Level) (x : Outcome) (fs : List Frame) (out : Outcome) (n : ℕ) : Type 0 where
  pub handed : Outcome
  pub more : ℕ
  pub further : ℕ
  pub gives : LevelsGive G s levels x handed more
  pub returns : Returns G fs handed out further
  pub count : n ≡ more + further

-- what is known of the levels below
abbrev Climbs : Given → Setting → List Level → List Frame → Outcome → Type 0
Climbs G s levels fs out = (y : Outcome) (n : ℕ) → Finishes G (climb G s levels y fs) out n → Climbed G s levels y fs out n

abbrev same : Outcome → Outcome
same y = y

-- what is right of a forest and an operator is all that was read after it
abbrev right_of : Setting → List Tree → Read → List TrailItem → Outcome → Outcome
right_of s v q t y = after_operator q t (as_applied s.builders.infix q.operator v y)

module _ {G : Given} {s : Setting} where
  -- an outcome that needed no node more is handed on
  none_more : {outcomes : Outcome → ℕ → Type 0} {changed : Outcome → Outcome} {levels : List Level} {fs : List Frame} {out : Outcome} {n : ℕ} (y : Outcome) → outcomes y zero →
      Climbed G s levels (changed y) fs out n → Then G s outcomes changed levels fs out n
  none_more y a d = record {
    outcome = y;
    nodes = zero;
    handed = d.handed;
    more = d.more;
    further = d.further;
    answers = a;
    gives = d.gives;
    returns = d.returns;
    count = let e = d.count in omega arith;
  }

  -- ---- going down through the rows

  first_row : {r : Row} {ts : List Row} {a : Spot} {levels : List Level} {fs : List Frame} {x o out : Outcome} {m k l : ℕ} (n : ℕ) →
      AnswersRows G s ts (past_prefix a (read_at G.grammar G.text s.item r.prefix a.place)) x m → LevelsGive G s (row_level r ts a none_precedes ∷ levels) x o k →
      Returns G fs o out l → n ≡ m + k + l → Then G s (AnswersRows G s (r ∷ ts) a) same levels fs out n
  first_row {o = o} {m = m} {l = l} n d (first_gives {y = y} {m = j} {n = i} f g) h e = record {
    outcome = y;
    nodes = m + j;
    handed = o;
    more = i;
    further = l;
    answers = loosest_row (row_operand d) f;
    gives = g;
    returns = h;
    count = omega arith;
  }

  pub descend_sound : (rows : List Row) (a : Spot) (levels : List Level) (fs : List Frame) (out : Outcome) (n : ℕ) → Finishes G (descend G s rows a levels fs) out n →
      Then G s (AnswersRows G s rows a) same levels fs out n
  descend_sound [] a levels fs out n (entering {m = m} d (over {o = o} {m = j} {n = l} (gives_expression g) h)) = record {
    outcome = _;
    nodes = m;
    handed = o;
    more = j;
    further = l;
    answers = only_term d;
    gives = g;
    returns = h;
    count = omega arith;
  }
  descend_sound (r ∷ ts) a levels fs out n h =
      let d = descend_sound ts (past_prefix a (read_at G.grammar G.text s.item r.prefix a.place)) (row_level r ts a none_precedes ∷ levels) fs out n h in
      first_row n d.answers d.gives d.returns d.count

  -- ---- right-associative operators

  -- what consumed stands, whatever else might have followed
  right_committed : {r : Row} {ts : List Row} {v : List Tree} {b : Spot} {m : ℕ} (f : Error) (q : Read) (y : Outcome) →
      AnswersRight G s r ts v b (or_ambiguous f (then_operand fixity.Infix q y)) m → AnswersTail G s r ts v b (then_operand fixity.Infix q y) (m + zero)
  right_committed e q (ok d a w u f) h = row_tail h right_stands
  right_committed e q (failed d f) h = row_tail h right_commits
  right_committed e q empty_round h = row_tail h right_stuck

  right_answered : {r : Row} {ts : List Row} {v : List Tree} {b : Spot} {q : Read} {x y : Outcome} {m n : ℕ} → read_at G.grammar G.text s.item r.right b.place ≡ Some q →
      AnswersRowOperand G s r ts (at b q.end) x m → AfterRightOperand G s r ts x y n →
      AnswersRight G s r ts v b (or_ambiguous (merge (ambiguous_left G.grammar G.text s.item r b.place) (ambiguous_non G.grammar G.text s.item r b.place))
      (then_operand fixity.Infix q (as_applied s.builders.infix q.operator v y))) (m + n)
  right_answered {r = r} {ts = ts} {v = v} {b = b} {q = q} {y = y} {m = m} {n = n} there d f =
      right_side (subst (λ (z : Option Read). AfterRightOperator G s r ts v b z (then_operand fixity.Infix q (as_applied s.builders.infix q.operator v y)) (m + n)) (sym there) (right_read d f))

  -- a right-associative operator follows the first operand
  first_right : {r : Row} {ts : List Row} {levels : List Level} {fs : List Frame} {x o out : Outcome} {m k l : ℕ} (c : Bool) (b : Spot) (v : List Tree) (t : List TrailItem) (e : Error) (q : Read) (n : ℕ) →
      read_at G.grammar G.text s.item r.right b.place ≡ Some q →
      AnswersRows G s ts (past_prefix (at b q.end) (read_at G.grammar G.text s.item r.prefix q.end)) x m →
      LevelsGive G s (row_level r ts (at b q.end) (right_precedes v q (with_infix t q)) ∷ levels) x o k → Returns G fs o out l → n ≡ m + k + l →
      Then G s (AfterRowOperand G s r ts (ok c b v t e)) same levels fs out n
  first_right {r = r} {levels = levels} {o = o} {m = m} {l = l} c b v t e q n there d (right_gives {y = y} {m = j} {n = i} f g) h z = record {
    outcome = _;
    nodes = m + j + zero;
    handed = o;
    more = i;
    further = l;
    answers = row_ok (right_committed (merge (ambiguous_left G.grammar G.text s.item r b.place) (ambiguous_non G.grammar G.text s.item r b.place)) q (as_applied s.builders.infix q.operator v y) (right_answered there (row_operand d) f));
    gives = subst (λ (w : Outcome). LevelsGive G s levels w o i) (sym (row_goes_on c t e q (as_applied s.builders.infix q.operator v y))) g;
    returns = h;
    count = omega arith;
  }

  right_side_given : {v : List Tree} {q : Read} {t : List TrailItem} {levels : List Level} {x o : Outcome} {n : ℕ} → LevelsGive G s (right_level v q t ∷ levels) x o n →
      LevelsGive G s levels (right_of s v q t x) o n
  right_side_given (right_side_gives g) = g

  -- a right-associative operator follows the operand of another one
  next_right : {r : Row} {ts : List Row} {levels : List Level} {fs : List Frame} {x o out : Outcome} {m k l : ℕ} (v : List Tree) (q : Read) (t : List TrailItem) (c : Bool) (b : Spot) (w : List Tree)
      (u : List TrailItem) (e : Error) (p : Read) (n : ℕ) → read_at G.grammar G.text s.item r.right b.place ≡ Some p →
      AnswersRows G s ts (past_prefix (at b p.end) (read_at G.grammar G.text s.item r.prefix p.end)) x m →
      LevelsGive G s (row_level r ts (at b p.end) (right_precedes w p (with_infix u p)) ∷ right_level v q t ∷ levels) x o k → Returns G fs o out l → n ≡ m + k + l →
      Then G s (AfterRightOperand G s r ts (ok c b w u e)) (right_of s v q t) levels fs out n
  next_right {r = r} {levels = levels} {o = o} {m = m} {l = l} v q t c b w u e p n there d (right_gives {y = y} {m = j} {n = i} f g) h z = record {
    outcome = _;
    nodes = m + j;
    handed = o;
    more = i;
    further = l;
    answers = right_operand_ok (right_answered there (row_operand d) f);
    gives = subst (λ (x : Outcome). LevelsGive G s levels (right_of s v q t x) o i)
        (sym (goes_on c u e (merge (ambiguous_left G.grammar G.text s.item r b.place) (ambiguous_non G.grammar G.text s.item r b.place)) b w p (as_applied s.builders.infix p.operator w y)))
        (right_side_given g);
    returns = h;
    count = omega arith;
  }

  -- none follows
  no_right_answered : {r : Row} {ts : List Row} {v : List Tree} {b : Spot} → read_at G.grammar G.text s.item r.right b.place ≡ None →
      AnswersRight G s r ts v b (failed false (no_right G s r b.place)) zero
  no_right_answered {r = r} {ts = ts} {v = v} {b = b} there =
      right_side (subst (λ (z : Option Read). AfterRightOperator G s r ts v b z (failed false (unread G.text r.right b.place)) zero) (sym there) right_unread)

  -- ---- left-associative operators

  left_committed : {r : Row} {ts : List Row} {v : List Tree} {b : Spot} {m : ℕ} (f : Error) (q : Read) (y : Outcome) → read_at G.grammar G.text s.item r.right b.place ≡ None →
      AnswersLeft G s r ts v b (or_ambiguous f (then_operand fixity.Infix q y)) m → AnswersTail G s r ts v b (then_operand fixity.Infix q y) (zero + (m + zero))
  left_committed e q (ok d a w u f) none h = row_tail (no_right_answered none) (right_failed h left_stands)
  left_committed e q (failed d f) none h = row_tail (no_right_answered none) (right_failed h left_commits)
  left_committed e q empty_round none h = row_tail (no_right_answered none) (right_failed h left_stuck)

  left_answered : {r : Row} {ts : List Row} {v : List Tree} {b : Spot} {q : Read} {x y : Outcome} {m n : ℕ} → read_at G.grammar G.text s.item r.left b.place ≡ Some q →
      AnswersRowOperand G s r ts (at b q.end) x m → AfterLeftOperand G s r ts v q x y n →
      AnswersLeft G s r ts v b (or_ambiguous (merge (ambiguous_right G.grammar G.text s.item r b.place) (ambiguous_non G.grammar G.text s.item r b.place))
      (then_operand fixity.Infix q y)) (m + n)
  left_answered {r = r} {ts = ts} {v = v} {b = b} {q = q} {y = y} {m = m} {n = n} there d f =
      left_side (subst (λ (z : Option Read). AfterLeftOperator G s r ts v b z (then_operand fixity.Infix q y) (m + n)) (sym there) (left_read d f))

  first_left : {r : Row} {ts : List Row} {levels : List Level} {fs : List Frame} {x o out : Outcome} {m k l : ℕ} (c : Bool) (b : Spot) (v : List Tree) (t : List TrailItem) (e : Error) (q : Read) (n : ℕ) →
      read_at G.grammar G.text s.item r.right b.place ≡ None → read_at G.grammar G.text s.item r.left b.place ≡ Some q →
      AnswersRows G s ts (past_prefix (at b q.end) (read_at G.grammar G.text s.item r.prefix q.end)) x m →
      LevelsGive G s (row_level r ts (at b q.end) (left_precedes v q (with_infix t q)) ∷ levels) x o k → Returns G fs o out l → n ≡ m + k + l →
      Then G s (AfterRowOperand G s r ts (ok c b v t e)) same levels fs out n
  first_left {r = r} {levels = levels} {o = o} {m = m} {l = l} c b v t e q n none there d (left_gives {y = y} {m = j} {n = i} f g) h z = record {
    outcome = _;
    nodes = zero + (m + j + zero);
    handed = o;
    more = i;
    further = l;
    answers = row_ok (left_committed (merge (ambiguous_right G.grammar G.text s.item r b.place) (ambiguous_non G.grammar G.text s.item r b.place)) q y none (left_answered there (row_operand d) f));
    gives = subst (λ (w : Outcome). LevelsGive G s levels w o i) (sym (row_goes_on c t e q y)) g;
    returns = h;
    count = omega arith;
  }

  next_left : {r : Row} {ts : List Row} {levels : List Level} {fs : List Frame} {x o out : Outcome} {m k l : ℕ} (v : List Tree) (q : Read) (t : List TrailItem) (c : Bool) (b : Spot) (w : List Tree)
      (u : List TrailItem) (e : Error) (p : Read) (n : ℕ) → read_at G.grammar G.text s.item r.left b.place ≡ Some p →
      AnswersRows G s ts (past_prefix (at b p.end) (read_at G.grammar G.text s.item r.prefix p.end)) x m →
      LevelsGive G s (row_level r ts (at b p.end) (left_precedes (applied s.builders.infix q.operator (v ++ w)) p (with_infix (joined_trail t u) p)) ∷ levels) x o k →
      Returns G fs o out l → n ≡ m + k + l → Then G s (AfterLeftOperand G s r ts v q (ok c b w u e)) (after_operator q t) levels fs out n
  next_left {r = r} {levels = levels} {o = o} {m = m} {l = l} v q t c b w u e p n there d (left_gives {y = y} {m = j} {n = i} f g) h z = record {
    outcome = _;
    nodes = m + j;
    handed = o;
    more = i;
    further = l;
    answers = left_operand_ok (left_answered there (row_operand d) f);
    gives = subst (λ (x : Outcome). LevelsGive G s levels x o i)
        (sym (left_goes_on q t u p y) ∙ ap (after_operator q t)
        (sym (goes_on c u e (merge (ambiguous_right G.grammar G.text s.item r b.place) (ambiguous_non G.grammar G.text s.item r b.place)) b (applied s.builders.infix q.operator (v ++ w)) p y)))
        g;
    returns = h;
    count = omega arith;
  }

  no_left_answered : {r : Row} {ts : List Row} {v : List Tree} {b : Spot} → read_at G.grammar G.text s.item r.left b.place ≡ None →
      AnswersLeft G s r ts v b (failed false (no_left G s r b.place)) zero
  no_left_answered {r = r} {ts = ts} {v = v} {b = b} there =
      left_side (subst (λ (z : Option Read). AfterLeftOperator G s r ts v b z (failed false (unread G.text r.left b.place)) zero) (sym there) left_unread)

  -- ---- operators that are not associative

  non_committed : {r : Row} {ts : List Row} {v : List Tree} {b : Spot} {m : ℕ} (q : Read) (y : Outcome) → read_at G.grammar G.text s.item r.right b.place ≡ None →
      read_at G.grammar G.text s.item r.left b.place ≡ None → AnswersNon G s r ts v b (then_operand fixity.Infix q y) m →
      AnswersTail G s r ts v b (then_operand fixity.Infix q y) (zero + (zero + m))
  non_committed q (ok d a w u f) none none_left h = row_tail (no_right_answered none) (right_failed (no_left_answered none_left) (left_failed h))
  non_committed q (failed d f) none none_left h = row_tail (no_right_answered none) (right_failed (no_left_answered none_left) (left_failed h))
  non_committed q empty_round none none_left h = row_tail (no_right_answered none) (right_failed (no_left_answered none_left) (left_failed h))

  first_non : {r : Row} {ts : List Row} {levels : List Level} {fs : List Frame} {x o out : Outcome} {m k l : ℕ} (c : Bool) (b : Spot) (v : List Tree) (t : List TrailItem) (e : Error) (q : Read) (n : ℕ) →
      read_at G.grammar G.text s.item r.right b.place ≡ None → read_at G.grammar G.text s.item r.left b.place ≡ None → read_at G.grammar G.text s.item r.non b.place ≡ Some q →
      AnswersRows G s ts (past_prefix (at b q.end) (read_at G.grammar G.text s.item r.prefix q.end)) x m →
      LevelsGive G s (row_level r ts (at b q.end) (non_precedes v q (with_infix t q)) ∷ levels) x o k → Returns G fs o out l → n ≡ m + k + l →
      Then G s (AfterRowOperand G s r ts (ok c b v t e)) same levels fs out n
  first_non {r = r} {ts = ts} {levels = levels} {x = x} {o = o} {m = m} {l = l} c b v t e q n none none_left there d (non_gives {n = i} g) h z =
      let w : Outcome = with_last G.grammar G.text s r q v (as_operand G.grammar G.text s r (at b q.end) x) in
      record {
        outcome = _;
        nodes = zero + (zero + m);
        handed = o;
        more = i;
        further = l;
        answers = row_ok (non_committed q w none none_left (neither_side
            (subst (λ (z : Option Read). AfterNonOperator G s r ts v b z (then_operand fixity.Infix q w) m) (sym there) (non_read (row_operand d)))));
        gives = subst (λ (y : Outcome). LevelsGive G s levels y o i) (sym (row_goes_on c t e q w)) g;
        returns = h;
        count = omega arith;
      }

  no_non_answered : {r : Row} {ts : List Row} {v : List Tree} {b : Spot} → read_at G.grammar G.text s.item r.non b.place ≡ None →
      AnswersNon G s r ts v b (failed false (unread G.text r.non b.place)) zero
  no_non_answered {r = r} {ts = ts} {v = v} {b = b} there =
      neither_side (subst (λ (z : Option Read). AfterNonOperator G s r ts v b z (failed false (unread G.text r.non b.place)) zero) (sym there) non_unread)

  -- no infix operator of the row follows its first operand
  pub no_infix_answered : {r : Row} {ts : List Row} {b : Spot} (c : Bool) (v : List Tree) (t : List TrailItem) (e : Error) → read_at G.grammar G.text s.item r.right b.place ≡ None →
      read_at G.grammar G.text s.item r.left b.place ≡ None → read_at G.grammar G.text s.item r.non b.place ≡ None →
      AfterRowOperand G s r ts (ok c b v t e) (then_stretch c t e (no_infix G s r v b)) zero
  no_infix_answered c v t e none none_left none_non =
      row_ok (row_tail (no_right_answered none) (right_failed (no_left_answered none_left) (left_failed (no_non_answered none_non))))

  -- ---- a level is handed an outcome

  first_read : {r : Row} {ts : List Row} {levels : List Level} {fs : List Frame} {out : Outcome} {n : ℕ} {b : Spot} (c : Bool) (v : List Tree) (t : List TrailItem) (e : Error)
      (right left non : Option Read) → read_at G.grammar G.text s.item r.right b.place ≡ right → read_at G.grammar G.text s.item r.left b.place ≡ left →
      read_at G.grammar G.text s.item r.non b.place ≡ non → Climbs G s levels fs out →
      Finishes G (followed G s (λ y. climb G s levels y fs) levels fs (after_first G s r ts c b v t e right left non)) out n →
      Then G s (AfterRowOperand G s r ts (ok c b v t e)) same levels fs out n
  first_read {r = r} {ts = ts} {levels = levels} {fs = fs} {out = out} {n = n} {b = b} c v t e (Some q) left non is_right is_left is_non ih h =
      let d = descend_sound ts (past_prefix (at b q.end) (read_at G.grammar G.text s.item r.prefix q.end)) (row_level r ts (at b q.end) (right_precedes v q (with_infix t q)) ∷ levels) fs out n h in
      first_right c b v t e q n is_right d.answers d.gives d.returns d.count
  first_read {r = r} {ts = ts} {levels = levels} {fs = fs} {out = out} {n = n} {b = b} c v t e None (Some q) non is_right is_left is_non ih h =
      let d = descend_sound ts (past_prefix (at b q.end) (read_at G.grammar G.text s.item r.prefix q.end)) (row_level r ts (at b q.end) (left_precedes v q (with_infix t q)) ∷ levels) fs out n h in
      first_left c b v t e q n is_right is_left d.answers d.gives d.returns d.count
  first_read {r = r} {ts = ts} {levels = levels} {fs = fs} {out = out} {n = n} {b = b} c v t e None None (Some q) is_right is_left is_non ih h =
      let d = descend_sound ts (past_prefix (at b q.end) (read_at G.grammar G.text s.item r.prefix q.end)) (row_level r ts (at b q.end) (non_precedes v q (with_infix t q)) ∷ levels) fs out n h in
      first_non c b v t e q n is_right is_left is_non d.answers d.gives d.returns d.count
  first_read {n = n} c v t e None None None is_right is_left is_non ih h = none_more _ (no_infix_answered c v t e is_right is_left is_non) (ih _ n h)

  first_sound : {r : Row} {ts : List Row} {levels : List Level} {fs : List Frame} {out : Outcome} {n : ℕ} (y : Outcome) → Climbs G s levels fs out →
      Finishes G (followed G s (λ y. climb G s levels y fs) levels fs (row_follows G s r ts none_precedes y)) out n → Then G s (AfterRowOperand G s r ts y) same levels fs out n
  first_sound {r = r} (ok c b v t e) ih h =
      first_read c v t e (read_at G.grammar G.text s.item r.right b.place) (read_at G.grammar G.text s.item r.left b.place) (read_at G.grammar G.text s.item r.non b.place) refl refl refl ih h
  first_sound {n = n} (failed c e) ih h = none_more _ row_failed (ih _ n h)
  first_sound {n = n} empty_round ih h = none_more _ row_stuck (ih _ n h)

  right_read_sound : {r : Row} {ts : List Row} {levels : List Level} {fs : List Frame} {out : Outcome} {n : ℕ} {b : Spot} (v : List Tree) (q : Read) (t : List TrailItem) (c : Bool) (w : List Tree)
      (u : List TrailItem) (e : Error) (there : Option Read) → read_at G.grammar G.text s.item r.right b.place ≡ there → Climbs G s levels fs out →
      Finishes G (followed G s (λ y. climb G s levels y fs) levels fs (after_right G s r ts v q t c b w u e there)) out n →
      Then G s (AfterRightOperand G s r ts (ok c b w u e)) (right_of s v q t) levels fs out n
  right_read_sound {r = r} {ts = ts} {levels = levels} {fs = fs} {out = out} {n = n} {b = b} v q t c w u e (Some p) is ih h =
      let d = descend_sound ts (past_prefix (at b p.end) (read_at G.grammar G.text s.item r.prefix p.end))
      (row_level r ts (at b p.end) (right_precedes w p (with_infix u p)) ∷ right_level v q t ∷ levels) fs out n h in
      next_right v q t c b w u e p n is d.answers d.gives d.returns d.count
  right_read_sound {n = n} v q t c w u e None is ih h = none_more _ (right_operand_ok (no_right_answered is)) (ih _ n h)

  right_sound : {r : Row} {ts : List Row} {levels : List Level} {fs : List Frame} {out : Outcome} {n : ℕ} (v : List Tree) (q : Read) (t : List TrailItem) (y : Outcome) → Climbs G s levels fs out →
      Finishes G (followed G s (λ y. climb G s levels y fs) levels fs (row_follows G s r ts (right_precedes v q t) y)) out n →
      Then G s (AfterRightOperand G s r ts y) (right_of s v q t) levels fs out n
  right_sound {r = r} v q t (ok c b w u e) ih h = right_read_sound v q t c w u e (read_at G.grammar G.text s.item r.right b.place) refl ih h
  right_sound {n = n} v q t (failed c e) ih h = none_more _ right_operand_failed (ih _ n h)
  right_sound {n = n} v q t empty_round ih h = none_more _ right_operand_stuck (ih _ n h)

  left_read_sound : {r : Row} {ts : List Row} {levels : List Level} {fs : List Frame} {out : Outcome} {n : ℕ} {b : Spot} (v : List Tree) (q : Read) (t : List TrailItem) (c : Bool) (w : List Tree)
      (u : List TrailItem) (e : Error) (there : Option Read) → read_at G.grammar G.text s.item r.left b.place ≡ there → Climbs G s levels fs out →
      Finishes G (followed G s (λ y. climb G s levels y fs) levels fs (after_left G s r ts v q t c b w u e there)) out n →
      Then G s (AfterLeftOperand G s r ts v q (ok c b w u e)) (after_operator q t) levels fs out n
  left_read_sound {r = r} {ts = ts} {levels = levels} {fs = fs} {out = out} {n = n} {b = b} v q t c w u e (Some p) is ih h =
      let d = descend_sound ts (past_prefix (at b p.end) (read_at G.grammar G.text s.item r.prefix p.end))
      (row_level r ts (at b p.end) (left_precedes (applied s.builders.infix q.operator (v ++ w)) p (with_infix (joined_trail t u) p)) ∷ levels) fs out n h in
      next_left v q t c b w u e p n is d.answers d.gives d.returns d.count
  left_read_sound {n = n} v q t c w u e None is ih h = none_more _ (left_operand_ok (no_left_answered is)) (ih _ n h)

  left_sound : {r : Row} {ts : List Row} {levels : List Level} {fs : List Frame} {out : Outcome} {n : ℕ} (v : List Tree) (q : Read) (t : List TrailItem) (y : Outcome) → Climbs G s levels fs out →
      Finishes G (followed G s (λ y. climb G s levels y fs) levels fs (row_follows G s r ts (left_precedes v q t) y)) out n →
      Then G s (AfterLeftOperand G s r ts v q y) (after_operator q t) levels fs out n
  left_sound {r = r} v q t (ok c b w u e) ih h = left_read_sound v q t c w u e (read_at G.grammar G.text s.item r.left b.place) refl ih h
  left_sound {n = n} v q t (failed c e) ih h = none_more _ left_operand_failed (ih _ n h)
  left_sound {n = n} v q t empty_round ih h = none_more _ left_operand_stuck (ih _ n h)

  level_sound : (l : Level) (x : Outcome) {levels : List Level} {fs : List Frame} {out : Outcome} {n : ℕ} → Climbs G s levels fs out →
      Finishes G (followed G s (λ y. climb G s levels y fs) levels fs (follows G s l x)) out n → Climbed G s (l ∷ levels) x fs out n
  level_sound (row_level r ts a none_precedes) x ih h =
      let d = first_sound (as_operand G.grammar G.text s r a x) ih h in
      record {
        handed = d.handed;
        more = d.nodes + d.more;
        further = d.further;
        gives = first_gives d.answers d.gives;
        returns = d.returns;
        count = d.count;
      }
  level_sound (row_level r ts a (right_precedes v q t)) x ih h =
      let d = right_sound v q t (as_operand G.grammar G.text s r a x) ih h in
      record {
        handed = d.handed;
        more = d.nodes + d.more;
        further = d.further;
        gives = right_gives d.answers d.gives;
        returns = d.returns;
        count = d.count;
      }
  level_sound (row_level r ts a (left_precedes v q t)) x ih h =
      let d = left_sound v q t (as_operand G.grammar G.text s r a x) ih h in
      record {
        handed = d.handed;
        more = d.nodes + d.more;
        further = d.further;
        gives = left_gives d.answers d.gives;
        returns = d.returns;
        count = d.count;
      }
  level_sound (row_level r ts a (non_precedes v q t)) x {n = n} ih h =
      let d = ih _ n h in
      record {
        handed = d.handed;
        more = d.more;
        further = d.further;
        gives = non_gives d.gives;
        returns = d.returns;
        count = d.count;
      }
  level_sound (right_level v q t) x {n = n} ih h =
      let d = ih _ n h in
      record {
        handed = d.handed;
        more = d.more;
        further = d.further;
        gives = right_side_gives d.gives;
        returns = d.returns;
        count = d.count;
      }

  pub climb_sound : (levels : List Level) (x : Outcome) (fs : List Frame) (out : Outcome) (n : ℕ) → Finishes G (climb G s levels x fs) out n → Climbed G s levels x fs out n
  climb_sound [] x fs out n (handing r) = record {
    handed = x;
    more = zero;
    further = n;
    gives = no_level;
    returns = r;
    count = omega arith;
  }
  climb_sound (l ∷ levels) x fs out n h = level_sound l x (λ y m k. climb_sound levels y fs out m k) h
