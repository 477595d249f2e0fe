-- Completeness of the levels of an expression: they reach every outcome of the relation of answers.
use Rattle.std.proofs.Common.{◌≡◌, ℕ, zero, ◌+◌, List, [], ◌∷◌, ◌++◌, Bool, refl, subst, ap, ◌∙◌, arith}
use Rattle.std.specs.Prelude.{Option, None}
use Rattle.pg_tree.specs.Trees.{Tree}
use Rattle.pg_grammar_value.specs.declared.trail.TrailItem.{TrailItem}
use Rattle.pg_grammar_value.specs.declared.trail.Fixity.TheVariants as fixity
use Rattle.pg_expand.specs.declared.rows.Row.{Row}
use Rattle.pg_language.specs.Derives.{Spot, applied}
use Rattle.pg_language.specs.Answers.{Given, AnswersRows, only_term, loosest_row, row_operand, AfterRowOperand, row_failed, row_stuck, row_ok, row_tail, AfterRight, right_stands, right_commits, right_stuck, right_failed, AfterLeft, left_stands, left_commits, left_stuck, left_failed, right_side, AfterRightOperator, right_unread, right_read, AfterRightOperand, right_operand_failed, right_operand_stuck, right_operand_ok, left_side, AfterLeftOperator, left_unread, left_read, AfterLeftOperand, left_operand_failed, left_operand_stuck, left_operand_ok, neither_side, AfterNonOperator, non_unread, non_read}
use Rattle.pg_language.specs.Errors.{Error, merge}
use Rattle.pg_language.specs.OperatorReads.{Read, read_at}
use Rattle.pg_language.specs.Outcomes.{Outcome, ok, failed, empty_round}
use Rattle.pg_language.specs.Reactions.{after_failure}
use Rattle.pg_language.specs.RowReactions.{Setting, then_stretch, then_operand, as_applied, or_return, ambiguous_right, ambiguous_left, ambiguous_non, or_ambiguous, with_last, labelled_operator}
use Rattle.pg_machine_turns.specs.Frames.{Frame, in_expression}
use Rattle.pg_machine_turns.specs.Levels.{none_precedes, right_precedes, left_precedes, non_precedes, Level, row_level, right_level, after_operator, no_right, no_left, after_first, after_right, after_left, row_follows}
use Rattle.pg_machine_turns.specs.Turns.{at_node, with_outcome, descend, followed, climb}
use Rattle.pg_machine_turns.specs.Finishes.{LevelsGive, no_level, first_gives, right_gives, left_gives, non_gives, right_side_gives, gives_expression, Returns, over, Finishes, entering, handing}
use Rattle.pg_machine_turns.proofs.Stretches.{row_goes_on, goes_on, left_goes_on}

-- ---- what consumed stands

-- of right-associative operators
right_left : {G : Given} {s : Setting} {r : Row} {ts : List Row} {v : List Tree} {b : Spot} {o : Outcome} {n : ℕ} (f : Error) (q : Read) (y : Outcome) →
    AfterRight G s r ts v b (or_ambiguous f (then_operand fixity.Infix q y)) o n → (o ≡ then_operand fixity.Infix q y) × (n ≡ zero)
right_left g q (ok d a w u f) right_stands = (refl, refl)
right_left g q (failed d f) right_commits = (refl, refl)
right_left g q empty_round right_stuck = (refl, refl)

-- of left-associative ones
left_left : {G : Given} {s : Setting} {r : Row} {ts : List Row} {v : List Tree} {b : Spot} {o : Outcome} {n : ℕ} (f : Error) (q : Read) (y : Outcome) →
    AfterLeft G s r ts v b (or_ambiguous f (then_operand fixity.Infix q y)) o n → (o ≡ then_operand fixity.Infix q y) × (n ≡ zero)
left_left g q (ok d a w u f) left_stands = (refl, refl)
left_left g q (failed d f) left_commits = (refl, refl)
left_left g q empty_round left_stuck = (refl, refl)

after_nothing : (e : Error) (q : Read) (y : Outcome) → after_failure e (then_operand fixity.Infix q y) ≡ then_operand fixity.Infix q y
after_nothing e q (ok d a w u f) = refl
after_nothing e q (failed d f) = refl
after_nothing e q empty_round = refl

returned_so : (b : Spot) (v : List Tree) (q : Read) (y : Outcome) → or_return b v (then_operand fixity.Infix q y) ≡ then_operand fixity.Infix q y
returned_so b v q (ok d a w u f) = refl
returned_so b v q (failed d f) = refl
returned_so b v q empty_round = refl

-- what is known of the levels below
abbrev Climbs : Given → Setting → List Level → List Frame → Outcome → Type 0
Climbs G s levels fs out = (x z : Outcome) (k l n : ℕ) → LevelsGive G s levels x z k → Returns G fs z out l → n ≡ k + l → Finishes G (climb G s levels x fs) out n

module _ {G : Given} {s : Setting} where
  given : {levels : List Level} {x y o : Outcome} {n : ℕ} → x ≡ y → LevelsGive G s levels x o n → LevelsGive G s levels y o n
  given {levels = levels} {o = o} {n = n} e g = subst (λ (z : Outcome). LevelsGive G s levels z o n) e g

  -- ---- going down through the rows

  pub rows_run : (rows : List Row) {a : Spot} {levels : List Level} {fs : List Frame} {x o out : Outcome} {m k l : ℕ} (n : ℕ) → AnswersRows G s rows a x m →
      LevelsGive G s levels x o k → Returns G fs o out l → n ≡ m + k + l → Finishes G (descend G s rows a levels fs) out n
  rows_run [] {a = a} {levels = levels} {fs = fs} {out = out} {m = m} {k = k} {l = l} n (only_term d) g h e =
      let z : m + (k + l) ≡ n = omega arith in subst (Finishes G (at_node s.term a (in_expression s levels ∷ fs)) out) z (entering d (over (gives_expression g) h))
  rows_run (r ∷ ts) {k = k} {l = l} n (loosest_row {m = i} {n = j} (row_operand d) f) g h e =
      let z : n ≡ i + (j + k) + l = omega arith in rows_run ts n d (first_gives f g) h z

  -- ---- an operand of a row was ok, with these infix operators of the row after it

  -- the first one: neither right- nor left-associative operators
  first_non_followed : {r : Row} {ts : List Row} {levels : List Level} {fs : List Frame} {b : Spot} {v : List Tree} {o z out : Outcome} {k l m : ℕ} {non : Option Read} (c : Bool) (t : List TrailItem) (e : Error) →
      AfterNonOperator G s r ts v b non o m →
      LevelsGive G s levels (then_stretch c t e (labelled_operator (after_failure (no_right G s r b.place) (after_failure (no_left G s r b.place) (or_return b v o))))) z k →
      Returns G fs z out l → Climbs G s levels fs out → (n : ℕ) → n ≡ m + k + l →
      Finishes G (followed G s (λ y. climb G s levels y fs) levels fs (after_first G s r ts c b v t e None None non)) out n
  first_non_followed {r = r} {b = b} {v = v} c t e (non_read {q = q} {x = x} (row_operand {x = w} d)) i h on n count =
      let one = returned_so b v q (with_last G.grammar G.text s r q v x) in
      let two = after_nothing (no_right G s r b.place) q (with_last G.grammar G.text s r q v x) in
      let three = after_nothing (no_left G s r b.place) q (with_last G.grammar G.text s r q v x) in
      let all = row_goes_on c t e q (with_last G.grammar G.text s r q v x) in
      rows_run _ n d (non_gives (given (ap (λ (y : Outcome). then_stretch c t e (labelled_operator y)) (ap (after_failure (no_right G s r b.place)) (ap (after_failure (no_left G s r b.place)) one ∙ three) ∙ two) ∙ all) i)) h count
  first_non_followed {k = k} {l = l} c t e non_unread i h on n count = let z : n ≡ k + l = omega arith in on _ _ _ _ n i h z

  first_left_followed : {r : Row} {ts : List Row} {levels : List Level} {fs : List Frame} {b : Spot} {v : List Tree} {x o z out : Outcome} {k l m j : ℕ} {left : Option Read} (non : Option Read) (c : Bool) (t : List TrailItem) (e : Error) →
      read_at G.grammar G.text s.item r.non b.place ≡ non →
      AfterLeftOperator G s r ts v b left x m → AfterLeft G s r ts v b (or_ambiguous (merge (ambiguous_right G.grammar G.text s.item r b.place) (ambiguous_non G.grammar G.text s.item r b.place)) x) o j →
      LevelsGive G s levels (then_stretch c t e (labelled_operator (after_failure (no_right G s r b.place) o))) z k → Returns G fs z out l → Climbs G s levels fs out →
      (n : ℕ) → n ≡ m + j + k + l → Finishes G (followed G s (λ y. climb G s levels y fs) levels fs (after_first G s r ts c b v t e None left non)) out n
  first_left_followed {r = r} {b = b} non c t e is_non (left_read {m = m} {n = i} {q = q} {o = y} (row_operand d) a) f g h on n count =
      let stands = left_left (merge (ambiguous_right G.grammar G.text s.item r b.place) (ambiguous_non G.grammar G.text s.item r b.place)) q y f in
      let one = after_nothing (no_right G s r b.place) q y in
      let all = row_goes_on c t e q y in
      let none = stands.1 in
      rows_run _ n d (left_gives a (given (ap (λ (y : Outcome). then_stretch c t e (labelled_operator y)) (ap (after_failure (no_right G s r b.place)) (stands.0) ∙ one) ∙ all) g)) h (omega arith)
  first_left_followed {r = r} {ts = ts} {b = b} {v = v} non c t e is_non left_unread (left_failed {m = m} {o = o} (neither_side a)) g h on n count =
      first_non_followed c t e (subst (λ (z : Option Read). AfterNonOperator G s r ts v b z o m) is_non a) g h on n (omega arith)

  first_followed : {r : Row} {ts : List Row} {levels : List Level} {fs : List Frame} {b : Spot} {v : List Tree} {x o z out : Outcome} {k l m j : ℕ} {right : Option Read} (left non : Option Read) (c : Bool) (t : List TrailItem) (e : Error) →
      read_at G.grammar G.text s.item r.left b.place ≡ left → read_at G.grammar G.text s.item r.non b.place ≡ non →
      AfterRightOperator G s r ts v b right x m → AfterRight G s r ts v b (or_ambiguous (merge (ambiguous_left G.grammar G.text s.item r b.place) (ambiguous_non G.grammar G.text s.item r b.place)) x) o j →
      LevelsGive G s levels (then_stretch c t e (labelled_operator o)) z k → Returns G fs z out l → Climbs G s levels fs out →
      (n : ℕ) → n ≡ m + j + k + l → Finishes G (followed G s (λ y. climb G s levels y fs) levels fs (after_first G s r ts c b v t e right left non)) out n
  first_followed {r = r} {b = b} {v = v} left non c t e is_left is_non (right_read {m = m} {n = i} {q = q} {o = y} (row_operand d) a) f g h on n count =
      let stands = right_left (merge (ambiguous_left G.grammar G.text s.item r b.place) (ambiguous_non G.grammar G.text s.item r b.place)) q (as_applied s.builders.infix q.operator v y) f in
      let all = row_goes_on c t e q (as_applied s.builders.infix q.operator v y) in
      let none = stands.1 in
      rows_run _ n d (right_gives a (given (ap (λ (y : Outcome). then_stretch c t e (labelled_operator y)) (stands.0) ∙ all) g)) h (omega arith)
  first_followed {r = r} {ts = ts} {b = b} {v = v} left non c t e is_left is_non right_unread (right_failed {m = m} {n = i} {x = x} (left_side {o = y} a) f) g h on n count =
      first_left_followed non c t e is_non (subst (λ (z : Option Read). AfterLeftOperator G s r ts v b z y m) is_left a) f g h on n (omega arith)

  -- the operand of a right-associative operator
  right_followed : {r : Row} {ts : List Row} {levels : List Level} {fs : List Frame} {b : Spot} {w : List Tree} {x z out : Outcome} {k l m : ℕ} {there : Option Read} (v : List Tree) (q : Read) (t : List TrailItem) (c : Bool)
      (u : List TrailItem) (e : Error) → AfterRightOperator G s r ts w b there x m →
      LevelsGive G s levels (after_operator q t (as_applied s.builders.infix q.operator v (then_stretch c u e (or_return b w
      (or_ambiguous (merge (ambiguous_left G.grammar G.text s.item r b.place) (ambiguous_non G.grammar G.text s.item r b.place)) x))))) z k →
      Returns G fs z out l → Climbs G s levels fs out →
      (n : ℕ) → n ≡ m + k + l → Finishes G (followed G s (λ y. climb G s levels y fs) levels fs (after_right G s r ts v q t c b w u e there)) out n
  right_followed {r = r} {b = b} {w = w} v q t c u e (right_read {m = m} {n = i} {q = p} {o = y} (row_operand d) a) g h on n count =
      let all = goes_on c u e (merge (ambiguous_left G.grammar G.text s.item r b.place) (ambiguous_non G.grammar G.text s.item r b.place)) b w p (as_applied s.builders.infix p.operator w y) in
      rows_run _ n d (right_gives a (right_side_gives (given (ap (λ (y : Outcome). after_operator q t (as_applied s.builders.infix q.operator v y)) all) g))) h (omega arith)
  right_followed {k = k} {l = l} v q t c u e right_unread g h on n count = let z : n ≡ k + l = omega arith in on _ _ _ _ n g h z

  -- the operand of a left-associative operator
  left_followed : {r : Row} {ts : List Row} {levels : List Level} {fs : List Frame} {b : Spot} {x z out : Outcome} {k l m : ℕ} {there : Option Read} (v : List Tree) (q : Read) (t : List TrailItem) (c : Bool)
      (w : List Tree) (u : List TrailItem) (e : Error) → AfterLeftOperator G s r ts (applied s.builders.infix q.operator (v ++ w)) b there x m →
      LevelsGive G s levels (after_operator q t (then_stretch c u e (or_return b (applied s.builders.infix q.operator (v ++ w))
      (or_ambiguous (merge (ambiguous_right G.grammar G.text s.item r b.place) (ambiguous_non G.grammar G.text s.item r b.place)) x)))) z k →
      Returns G fs z out l → Climbs G s levels fs out →
      (n : ℕ) → n ≡ m + k + l → Finishes G (followed G s (λ y. climb G s levels y fs) levels fs (after_left G s r ts v q t c b w u e there)) out n
  left_followed {r = r} {b = b} v q t c w u e (left_read {m = m} {n = i} {q = p} {o = y} (row_operand d) a) g h on n count =
      let one = goes_on c u e (merge (ambiguous_right G.grammar G.text s.item r b.place) (ambiguous_non G.grammar G.text s.item r b.place)) b (applied s.builders.infix q.operator (v ++ w)) p y in
      let two = left_goes_on q t u p y in
      rows_run _ n d (left_gives a (given (ap (after_operator q t) one ∙ two) g)) h (omega arith)
  left_followed {k = k} {l = l} v q t c w u e left_unread g h on n count = let z : n ≡ k + l = omega arith in on _ _ _ _ n g h z

  -- ---- a level is handed an outcome

  first_complete : {r : Row} {ts : List Row} {levels : List Level} {fs : List Frame} {y w z out : Outcome} {k l m : ℕ} → AfterRowOperand G s r ts y w m → LevelsGive G s levels w z k →
      Returns G fs z out l → Climbs G s levels fs out → (n : ℕ) → n ≡ m + k + l →
      Finishes G (followed G s (λ y. climb G s levels y fs) levels fs (row_follows G s r ts none_precedes y)) out n
  first_complete {k = k} {l = l} row_failed g h on n count = let z : n ≡ k + l = omega arith in on _ _ _ _ n g h z
  first_complete {k = k} {l = l} row_stuck g h on n count = let z : n ≡ k + l = omega arith in on _ _ _ _ n g h z
  first_complete {r = r} (row_ok {c = c} {b = b} {t = t} {e = e} (row_tail (right_side a) f)) g h on n count =
      first_followed (read_at G.grammar G.text s.item r.left b.place) (read_at G.grammar G.text s.item r.non b.place) c t e refl refl a f g h on n (omega arith)

  right_complete : {r : Row} {ts : List Row} {levels : List Level} {fs : List Frame} {y w z out : Outcome} {k l m : ℕ} (v : List Tree) (q : Read) (t : List TrailItem) → AfterRightOperand G s r ts y w m →
      LevelsGive G s levels (after_operator q t (as_applied s.builders.infix q.operator v w)) z k → Returns G fs z out l → Climbs G s levels fs out → (n : ℕ) → n ≡ m + k + l →
      Finishes G (followed G s (λ y. climb G s levels y fs) levels fs (row_follows G s r ts (right_precedes v q t) y)) out n
  right_complete {k = k} {l = l} v q t right_operand_failed g h on n count = let z : n ≡ k + l = omega arith in on _ _ _ _ n g h z
  right_complete {k = k} {l = l} v q t right_operand_stuck g h on n count = let z : n ≡ k + l = omega arith in on _ _ _ _ n g h z
  right_complete v q t (right_operand_ok {c = c} {t = u} {e = e} (right_side a)) g h on n count = right_followed v q t c u e a g h on n count

  left_complete : {r : Row} {ts : List Row} {levels : List Level} {fs : List Frame} (v : List Tree) (q : Read) (t : List TrailItem) {y w z out : Outcome} {k l m : ℕ} → AfterLeftOperand G s r ts v q y w m →
      LevelsGive G s levels (after_operator q t w) z k → Returns G fs z out l → Climbs G s levels fs out → (n : ℕ) → n ≡ m + k + l →
      Finishes G (followed G s (λ y. climb G s levels y fs) levels fs (row_follows G s r ts (left_precedes v q t) y)) out n
  left_complete v q t {k = k} {l = l} left_operand_failed g h on n count = let z : n ≡ k + l = omega arith in on _ _ _ _ n g h z
  left_complete v q t {k = k} {l = l} left_operand_stuck g h on n count = let z : n ≡ k + l = omega arith in on _ _ _ _ n g h z
  left_complete v q t (left_operand_ok {w = w} {c = c} {t = u} {e = e} (left_side a)) g h on n count = left_followed v q t c w u e a g h on n count

  pub climb_complete : (levels : List Level) {fs : List Frame} {x z out : Outcome} {k l : ℕ} → LevelsGive G s levels x z k → Returns G fs z out l →
      (n : ℕ) → n ≡ k + l → Finishes G (climb G s levels x fs) out n
  climb_complete [] {fs = fs} {x = x} {out = out} {l = l} no_level h n count = let z : l ≡ n = omega arith in subst (Finishes G (with_outcome x fs) out) z (handing h)
  climb_complete (row_level r ts a none_precedes ∷ levels) (first_gives f g) h n count =
      first_complete f g h (λ x z k l m d e i. climb_complete levels d e m i) n count
  climb_complete (row_level r ts a (right_precedes v q t) ∷ levels) (right_gives f g) h n count =
      right_complete v q t f g h (λ x z k l m d e i. climb_complete levels d e m i) n count
  climb_complete (row_level r ts a (left_precedes v q t) ∷ levels) (left_gives f g) h n count =
      left_complete v q t f g h (λ x z k l m d e i. climb_complete levels d e m i) n count
  climb_complete (row_level r ts a (non_precedes v q t) ∷ levels) (non_gives g) h n count = climb_complete levels g h n count
  climb_complete (right_level v q t ∷ levels) (right_side_gives g) h n count = climb_complete levels g h n count
