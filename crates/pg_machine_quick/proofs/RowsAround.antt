-- Expressions: rows around a term.
use Rattle.std.proofs.Common.{◌≡◌, ◌∙◌, ◌<◌, ◌≤◌, ◌+◌, ◌==◌, ℕ, zero, suc, List, [], ◌∷◌, ◌++◌, Bool, true, false, ◌||◌, refl, sym, ap, subst, Option, Some, None, length, reverse, unwrap_or, slice_get, append-nil, eqb-true, if◌then◌else◌, arith}
use Rattle.std.proofs.lemmas.List.{length-map}
use mathlib.Core.List.{reverse-cons}
use Rattle.pg_tree.specs.Trees.{Tree}
use Rattle.pg_grammar_form.specs.declared.decl.Role.TheVariants.{InfixLeft, InfixRight, InfixNone}
use Rattle.pg_grammar_form.specs.declared.form.Form.TheVariants as form
use Rattle.pg_grammar_form.specs.declared.operators_item.OperatorsItem.{OperatorsItem}
use Rattle.pg_grammar_form.specs.declared.used.OperatorBuilders.{OperatorBuilders}
use Rattle.pg_grammar_value.specs.declared.trail.TrailItem.TheVariants.{Ops}
use Rattle.pg_grammar_value.specs.declared.trail.Fixity.TheVariants as fixity
use Rattle.pg_table.specs.Rows.{rows}
use Rattle.pg_table.specs.Tables.{Table}
use Rattle.pg_expand.specs.Rows.{by_role, row_at, rows_of}
use Rattle.pg_expand.specs.declared.rows.Row.{Row}
use Rattle.pg_language.specs.Answers as answers
use Rattle.pg_language.specs.Answers.{Given, Answers, AnswersRows, only_term, loosest_row, AnswersRowOperand, row_failed, row_ok, AnswersTail}
use Rattle.pg_language.specs.Derives.{Spot, at}
use Rattle.pg_language.specs.OperatorReads.{Read, read_at, unread}
use Rattle.pg_language.specs.Outcomes.{Outcome, ok, failed, empty_round}
use Rattle.pg_language.specs.Reactions.{noted, after_failure}
use Rattle.pg_language.specs.RowReactions.{Setting, then_stretch, then_operand, or_return, labelled_operator}
use Rattle.pg_machine_plan.specs.Facts.{Outcomes, outcomes_of}
use Rattle.pg_machine_plan.specs.Layout.{IsNoted, IsRow, AreRows, a_term, a_row}
use Rattle.pg_machine_plan.specs.Plans.{Program}
use Rattle.pg_machine_plan.specs.declared.instruction.Instruction.TheVariants.{Rows, ReadInfix, Release}
use Rattle.pg_machine_plan.specs.declared.instruction.Keep.{Keep}
use Rattle.pg_machine_plan.specs.declared.instruction.Keep.TheVariants.{Kept, Hidden}
use Rattle.pg_machine_plan.proofs.Verdicts.{alone}
use Rattle.pg_machine_quick.specs.Turns.{Frame, holds, State, state, goes, gives_up, added, table_of, read_here, begun, first_joined, infixed, on_turn, run}
use Rattle.pg_machine_quick.proofs.Comes.{or_false, onward, Comes, Claim, turned, same_run, same_count, on_noted}
use Rattle.pg_machine_quick.proofs.Entered.{entered_too}
use Rattle.pg_machine_quick.proofs.Operands.{rows_below, of_operand, of_rows, ClaimFrom, operand_comes}
use Rattle.pg_machine_quick.proofs.RowAnswers.{lefts_and_nons, rights_and_nons, no_right, no_left, right_committed, left_committed, non_committed, none_answered}
use Rattle.pg_machine_quick.proofs.RowTurns.{IsRowsOf, row_here, IsOpen, open_table, open_lower, open_first, reads_here, symbol_stands, went, passes_on, on_stretch, on_labelled}
use Rattle.pg_machine_quick.proofs.Tails.{Joined, right_after, left_after, non_after, right_of, left_of, non_of, infix_does, right_waited, left_waited, non_waited, first_joins}

-- ---- what the operator after the first operand makes of the row

-- the outcomes of what follows the first operand
abbrev of_tail : Given → Setting → Table → ℕ → List Tree → Spot → Outcomes
of_tail G s T row v b = λ o m. AnswersTail G s (row_here T row) (rows_below T row) v b o m

right_tail : (G : Given) (s : Setting) (T : Table) (row : ℕ) (v : List Tree) (b : Spot) (u : Read) (o y : Outcome) (m : ℕ) →
    read_at G.grammar G.text s.item (row_here T row).right b.place ≡ Some u → o ≡ then_operand fixity.Infix u y →
    Joined (of_operand G s T row (at b u.end)) (right_after G s T row v u.operator) y m → of_tail G s T row v b o m
right_tail G s T row v b u o y m there same d =
    subst (λ (x : Outcome). of_tail G s T row v b x m) (sym same) (subst (λ n. of_tail G s T row v b (then_operand fixity.Infix u y) n) (alone m)
    (right_committed (lefts_and_nons G s (row_here T row) b.place) u y (right_of G s T row v b u y m there d)))

left_tail : (G : Given) (s : Setting) (T : Table) (row : ℕ) (v : List Tree) (b : Spot) (u : Read) (o y : Outcome) (m : ℕ) →
    read_at G.grammar G.text s.item (row_here T row).right b.place ≡ None → read_at G.grammar G.text s.item (row_here T row).left b.place ≡ Some u →
    o ≡ then_operand fixity.Infix u y → Joined (of_operand G s T row (at b u.end)) (left_after G s T row v u.operator) y m → of_tail G s T row v b o m
left_tail G s T row v b u o y m none there same d =
    let count : zero + (m + zero) ≡ m = omega arith in
    subst (λ (x : Outcome). of_tail G s T row v b x m) (sym same) (subst (λ n. of_tail G s T row v b (then_operand fixity.Infix u y) n) count
    (left_committed (rights_and_nons G s (row_here T row) b.place) u y none (left_of G s T row v b u y m there d)))

non_tail : (G : Given) (s : Setting) (T : Table) (row : ℕ) (v : List Tree) (b : Spot) (u : Read) (o y : Outcome) (m : ℕ) →
    read_at G.grammar G.text s.item (row_here T row).right b.place ≡ None → read_at G.grammar G.text s.item (row_here T row).left b.place ≡ None →
    read_at G.grammar G.text s.item (row_here T row).non b.place ≡ Some u → o ≡ then_operand fixity.Infix u y →
    Joined (of_operand G s T row (at b u.end)) (non_after G s T row v u.operator) y m → of_tail G s T row v b o m
non_tail G s T row v b u o y m none none_left there same d =
    let count : zero + (zero + m) ≡ m = omega arith in
    subst (λ (x : Outcome). of_tail G s T row v b x m) (sym same) (subst (λ n. of_tail G s T row v b (then_operand fixity.Infix u y) n) count
    (non_committed u y none none_left (non_of G s T row v b u y m there d)))

no_tail : (G : Given) (s : Setting) (T : Table) (row : ℕ) (v : List Tree) (b : Spot) → read_at G.grammar G.text s.item (row_here T row).right b.place ≡ None →
    read_at G.grammar G.text s.item (row_here T row).left b.place ≡ None → read_at G.grammar G.text s.item (row_here T row).non b.place ≡ None →
    of_tail G s T row v b (after_failure (no_right G s (row_here T row) b.place) (after_failure (no_left G s (row_here T row) b.place)
    (or_return b v (failed false (unread G.text (row_here T row).non b.place))))) zero
no_tail G s T row v b none none_left none_non =
    let count : zero + (zero + zero) ≡ zero = omega arith in
    subst (λ n. of_tail G s T row v b (after_failure (no_right G s (row_here T row) b.place) (after_failure (no_left G s (row_here T row) b.place)
    (or_return b v (failed false (unread G.text (row_here T row).non b.place))))) n) count (none_answered v none none_left none_non)

-- ---- rows

module _ (P : Program) (N q row : ℕ) (s : Setting) (T : Table) (keep : Keep) (head exit : ℕ) (is : IsRowsOf P q s) (code : IsRow P.plan keep q row head exit)
    (operand : ClaimFrom P N keep T (suc (row + row)) head (exit + 2) (of_operand P.given s T row)) where
  -- past the place where an infix operator of the row would be applied, where none waits
  past_last : (n : ℕ) (k : List Frame) (b : Spot) (c : ℕ) (x : Bool) (t : State) (Has : Outcomes) → IsOpen T (suc (row + row + 1)) k →
      Comes P n keep (exit + 4) (state (exit + 2) b k [] c x) t Has → Comes P n keep (exit + 5) (state (exit + 2) b k [] c x) t Has
  past_last n k b c x t Has wide d =
      let few = d.fewer in
      let w = passes_on P q (row + row + 1) (suc (row + row + 1)) d.left s T keep (exit + 4) k x d.outcome (c + d.nodes) t is code.settles_infix (omega arith) wide d.on in
      let most = w.most in
      let five : exit + 4 + 1 ≡ exit + 5 = omega arith in
      record {
        left = w.left;
        fewer = omega arith;
        outcome = d.outcome;
        nodes = d.nodes;
        has = d.has;
        on = subst (λ end. onward P w.left keep end k [] x d.outcome (c + d.nodes) ≡ Some t) five w.on;
      }

  tail_by : (n : ℕ) (v : List Tree) (k : List Frame) (b : Spot) (c : ℕ) (x : Bool) (t : State) (right left non : Option Read) → n < N → IsOpen T (suc (row + row + 1)) k →
      read_at P.given.grammar P.given.text s.item (row_here T row).right b.place ≡ right → read_at P.given.grammar P.given.text s.item (row_here T row).left b.place ≡ left →
      read_at P.given.grammar P.given.text s.item (row_here T row).non b.place ≡ non →
      infixed P.given keep s.builders row (state (exit + 2) b k (added keep [] v) c x) None ≡ first_joined row (state (exit + 2) b k (added keep [] v) c x) right left non →
      run P n (state (exit + 2) b k (added keep [] v) c x) ≡ Some t → Comes P n keep (exit + 5) (state (exit + 2) b k [] c x) t (of_tail P.given s T row v b)
  tail_by n v k b c x t (Some u) left non below wide is_right is_left is_non does on =
      let d = first_joins P N q row s T keep head exit is code operand n InfixRight v k b c x t u (right_after P.given s T row v u.operator) below wide does
      (λ l less. right_waited P N q row s T keep head exit is code operand l l b.place (length u.operator.symbol) u.operator (added keep [] v) v (table_of b k) k t
      (omega arith) (omega arith) (open_table T (suc (row + row + 1)) b k wide)
      (symbol_stands P.given.grammar P.given.text s.item (row_here T row).right b.place u is_right) refl) on in
      past_last n k b c x t (of_tail P.given s T row v b) wide
      (record { left = d.left; fewer = d.fewer; outcome = d.outcome; nodes = d.nodes; has = right_tail P.given s T row v b u d.outcome d.has.0 d.nodes is_right d.has.1 d.has.2; on = d.on })
  tail_by n v k b c x t None (Some u) non below wide is_right is_left is_non does on =
      let d = first_joins P N q row s T keep head exit is code operand n InfixLeft v k b c x t u (left_after P.given s T row v u.operator) below wide does
      (λ l less. left_waited P N q row s T keep head exit is code operand l l b.place (length u.operator.symbol) u.operator (added keep [] v) v (table_of b k) k t
      (omega arith) (omega arith) (open_table T (suc (row + row + 1)) b k wide)
      (symbol_stands P.given.grammar P.given.text s.item (row_here T row).left b.place u is_left) refl) on in
      past_last n k b c x t (of_tail P.given s T row v b) wide
      (record { left = d.left; fewer = d.fewer; outcome = d.outcome; nodes = d.nodes; has = left_tail P.given s T row v b u d.outcome d.has.0 d.nodes is_right is_left d.has.1 d.has.2; on = d.on })
  tail_by n v k b c x t None None (Some u) below wide is_right is_left is_non does on =
      let d = first_joins P N q row s T keep head exit is code operand n InfixNone v k b c x t u (non_after P.given s T row v u.operator) below wide does
      (λ l less. non_waited P N q row s T keep head exit is code operand l b.place (length u.operator.symbol) u.operator (added keep [] v) v (table_of b k) k t
      (symbol_stands P.given.grammar P.given.text s.item (row_here T row).non b.place u is_non) refl) on in
      past_last n k b c x t (of_tail P.given s T row v b) wide
      (record { left = d.left; fewer = d.fewer; outcome = d.outcome; nodes = d.nodes; has = non_tail P.given s T row v b u d.outcome d.has.0 d.nodes is_right is_left is_non d.has.1 d.has.2; on = d.on })
  tail_by n v k b c x t None None None below wide is_right is_left is_non does on =
      let g = went P n (state (exit + 2) b k (added keep [] v) c x) (state (exit + 2 + 3) b k (added keep [] v) c x) t (ReadInfix keep q row) code.reads_infix
      (infix_does P N q row s T keep head exit is code operand (state (exit + 2) b k (added keep [] v) c x) None (open_first T (row + row + 1) k wide) ∙ does) on in
      let five : exit + 2 + 3 ≡ exit + 5 = omega arith in
      let none : c ≡ c + zero = omega arith in
      let there : run P g.left (state (exit + 5) b k (added keep [] v) c x) ≡ Some t = subst (λ pc. run P g.left (state pc b k (added keep [] v) c x) ≡ Some t) five g.on in
      record {
        left = g.left;
        fewer = g.fewer;
        outcome = after_failure (no_right P.given s (row_here T row) b.place) (after_failure (no_left P.given s (row_here T row) b.place)
            (or_return b v (failed false (unread P.given.text (row_here T row).non b.place))));
        nodes = zero;
        has = no_tail P.given s T row v b is_right is_left is_non;
        on = same_run P g.left (exit + 5) b k (added keep [] v) (added keep [] v) c (c + zero) x (x || false) t refl none (or_false x) there;
      }

  tail_comes : (n : ℕ) (v : List Tree) (k : List Frame) (b : Spot) (c : ℕ) (x : Bool) (t : State) → n < N → IsOpen T (suc (row + row + 1)) k →
      run P n (state (exit + 2) b k (added keep [] v) c x) ≡ Some t → Comes P n keep (exit + 5) (state (exit + 2) b k [] c x) t (of_tail P.given s T row v b)
  tail_comes n v k b c x t below wide on =
      let z : State = state (exit + 2) b k (added keep [] v) c x in
      let r : Row = row_here T row in
      tail_by n v k b c x t (read_at P.given.grammar P.given.text s.item r.right b.place) (read_at P.given.grammar P.given.text s.item r.left b.place)
      (read_at P.given.grammar P.given.text s.item r.non b.place) below wide refl refl refl
      (ap (λ (o : Option Read). first_joined row z o (read_here P.given z row InfixLeft) (read_here P.given z row InfixNone))
      (reads_here P q s T (suc (row + row + 1)) z row InfixRight is wide)
      ∙ ap (λ (o : Option Read). first_joined row z (read_at P.given.grammar P.given.text s.item r.right b.place) o (read_here P.given z row InfixNone))
      (reads_here P q s T (suc (row + row + 1)) z row InfixLeft is wide)
      ∙ ap (λ (o : Option Read). first_joined row z (read_at P.given.grammar P.given.text s.item r.right b.place) (read_at P.given.grammar P.given.text s.item r.left b.place) o)
      (reads_here P q s T (suc (row + row + 1)) z row InfixNone is wide)) on

  -- the first operand has come
  row_came : (n l m : ℕ) (a : Spot) (k : List Frame) (c : ℕ) (x : Bool) (t : State) (o : Outcome) → l < n → n ≤ N → IsOpen T (suc (row + row + 1)) k →
      of_operand P.given s T row a o m → onward P l keep (exit + 2) k [] x o (c + m) ≡ Some t → Comes P n keep (exit + 5) (state head a k [] c x) t (of_rows P.given s T (suc row) a)
  row_came n l m a k c x t (ok d b v i e) less below wide h on =
      let y = tail_comes l v k b (c + m) (x || d) t (omega arith) wide on in
      let few = y.fewer in
      let o : Outcome = then_stretch d i e (labelled_operator y.outcome) in
      record {
        left = y.left;
        fewer = omega arith;
        outcome = o;
        nodes = m + y.nodes;
        has = loosest_row h (row_ok y.has);
        on = same_count P y.left keep (exit + 5) k [] x o (c + m + y.nodes) (c + (m + y.nodes)) t (omega arith)
            (on_stretch P y.left keep (exit + 5) k x (c + m + y.nodes) t d i e (labelled_operator y.outcome)
            (on_labelled P y.left keep (exit + 5) k (x || d) (c + m + y.nodes) t y.outcome y.on));
      }
  row_came n l m a k c x t (failed d e) less below wide h on = record {
    left = l;
    fewer = less;
    outcome = failed d e;
    nodes = m;
    has = subst (λ j. AnswersRows P.given s (rows_below T (suc row)) a (failed d e) j) (alone m) (loosest_row h row_failed);
    on = on;
  }
  row_came n l m a k c x t empty_round less below wide h on = absurd (cc)

  pub row_comes : ClaimFrom P N keep T (suc row + suc row) head (exit + 5) (of_rows P.given s T (suc row))
  row_comes = λ n a k c x t below wide on.
      let looser : IsOpen T (suc (row + row + 1)) k = open_lower T (suc (row + row + 1)) (suc row + suc row) k (omega arith) wide in
      let d = operand n a k c x t below (open_lower T (suc (row + row)) (suc (row + row + 1)) k (omega arith) looser) on in
      row_came n d.left d.nodes a k c x t d.outcome d.fewer (omega arith) looser d.has d.on

-- the term has come
term_comes : (P : Program) (N : ℕ) → Claim P N → (q : ℕ) (s : Setting) (T : Table) (keep : Keep) (pc end : ℕ) → IsNoted P keep s.term pc end →
    ClaimFrom P N keep T (zero + zero) pc end (of_rows P.given s T zero)
term_comes P N claim q s T keep pc end there = λ n a k c x t below wide on.
    let d = claim n keep s.term end (state pc a k [] c x) t below there on in
    record {
      left = d.left;
      fewer = d.fewer;
      outcome = noted (Ops []) d.outcome;
      nodes = d.nodes;
      has = only_term d.has;
      on = on_noted P d.left keep end k [] x (c + d.nodes) t (Ops []) d.outcome d.on;
    }

-- code for so many rows is passed
rows_come : (P : Program) (N : ℕ) → Claim P N → (q : ℕ) (s : Setting) (T : Table) (keep : Keep) (count pc end : ℕ) → IsRowsOf P q s → AreRows P.plan keep q s.term count pc end →
    ClaimFrom P N keep T (count + count) pc end (of_rows P.given s T count)
rows_come P N claim q s T keep count pc end is laid = by_rows P N claim q s T keep s.term count pc end is refl laid
  where
    by_rows : (P : Program) (N : ℕ) → Claim P N → (q : ℕ) (s : Setting) (T : Table) (keep : Keep) (p count pc end : ℕ) → IsRowsOf P q s → s.term ≡ p →
        AreRows P.plan keep q p count pc end → ClaimFrom P N keep T (count + count) pc end (of_rows P.given s T count)
    by_rows P N claim q s T keep p count pc end is same (a_term there) = term_comes P N claim q s T keep pc end (subst (λ p. IsNoted P keep p pc end) (sym same) there)
    by_rows P N claim q s T keep p count pc end is same (a_row {row = row} {exit = exit} code tighter) =
        row_comes P N q row s T keep pc exit is code
        (operand_comes P N q row s T keep pc exit is code (by_rows P N claim q s T keep p row (pc + 1) exit is same tighter))

-- ---- the rows of a table, by their numbers

-- the items of a list with these numbers and lower ones
abbrev items_down : {A : Type 0} → List A → A → ℕ → List A
items_down xs none zero = []
items_down xs none (suc k) = unwrap_or (slice_get xs k) none ∷ items_down xs none k

items_after : {A : Type 0} (x : A) (xs : List A) (none : A) (k : ℕ) → items_down (x ∷ xs) none (suc k) ≡ items_down xs none k ++ x ∷ []
items_after x xs none zero = refl
items_after x xs none (suc k) = ap (λ ys. unwrap_or (slice_get xs k) none ∷ ys) (items_after x xs none k)

reversed : {A : Type 0} (xs : List A) (none : A) → reverse xs ≡ items_down xs none (length xs)
reversed [] none = refl
reversed (x ∷ xs) none = reverse-cons x xs ∙ ap (λ ys. ys ++ x ∷ []) (reversed xs none) ∙ sym (items_after x xs none (length xs))

rows_by_number : (T : Table) (k : ℕ) → items_down (rows_of T.operators) (by_role []) k ≡ rows_below T k
rows_by_number T zero = refl
rows_by_number T (suc k) = ap (λ (rs : List Row). row_here T k ∷ rs) (rows_by_number T k)

-- the rows of a table, the loosest first, are those with its numbers
rows_reversed : (T : Table) → rows_below T (length (rows T.operators)) ≡ reverse (rows_of T.operators)
rows_reversed T =
    ap (rows_below T) (sym (length-map (rows T.operators) (row_at T.operators))) ∙ sym (rows_by_number T (length (rows_of T.operators)))
    ∙ sym (reversed (rows_of T.operators) (by_role []))

-- ---- expressions

expression_forest : (keep : Keep) (f v : List Tree) → f ++ added keep [] v ≡ added keep f v
expression_forest Kept f v = refl
expression_forest Hidden f v = append-nil f

-- the forest is put back
ended : (P : Program) (l N : ℕ) (keep : Keep) (out : ℕ) (k : List Frame) (f : List Tree) (T : Table) (x : Bool) (n : ℕ) (t : State) (o : Outcome) → l < N →
    slice_get P.plan.code out ≡ Some Release → onward P l keep out (holds f T ∷ k) [] x o n ≡ Some t →
    (j : ℕ) × (j < N) × (onward P j keep (out + 1) k f x o n ≡ Some t)
ended P l N keep out k f T x n t (ok c b v i e) less release on =
    let g = went P l (state out b (holds f T ∷ k) (added keep [] v) n (x || c)) (state (out + 1) b k (f ++ added keep [] v) n (x || c)) t Release release refl on in
    let few = g.fewer in
    (g.left, omega arith, same_run P g.left (out + 1) b k (f ++ added keep [] v) (added keep f v) n n (x || c) (x || c) t (expression_forest keep f v) refl refl g.on)
ended P l N keep out k f T x n t (failed c e) less release on = (l, less, on)
ended P l N keep out k f T x n t empty_round less release on = absurd (cc)

-- an expression begins where the table has so many rows
began : (P : Program) (l count : ℕ) (z t : State) (item : Option OperatorsItem) → on_turn (begun count z item) (λ y. run P l y) ≡ Some t →
    (some : OperatorsItem) × (item ≡ Some some) × (length (rows z.spot.table.operators) ≡ count) ×
    (run P l (state (z.pc + 1) z.spot (holds z.forest z.spot.table ∷ z.stack) [] (z.nodes + 1) z.taken) ≡ Some t)
began P l count z t None on = absurd (cc)
began P l count z t (Some item) on = by_count (length (rows z.spot.table.operators) == count) refl on
  where
    by_count : (b : Bool) → (length (rows z.spot.table.operators) == count) ≡ b →
        on_turn (if b then goes (state (z.pc + 1) z.spot (holds z.forest z.spot.table ∷ z.stack) [] (z.nodes + 1) z.taken) else gives_up) (λ y. run P l y) ≡ Some t →
        (some : OperatorsItem) × (Some item ≡ Some some) × (length (rows z.spot.table.operators) ≡ count) ×
        (run P l (state (z.pc + 1) z.spot (holds z.forest z.spot.table ∷ z.stack) [] (z.nodes + 1) z.taken) ≡ Some t)
    by_count true h on = (item, refl, eqb-true (length (rows z.spot.table.operators)) count h, on)
    by_count false h on = absurd (cc)

pub expression_comes : (P : Program) (N : ℕ) → Claim P N → (n q p count out : ℕ) (keep : Keep) (builders : OperatorBuilders) (z t : State) → n ≤ N →
    slice_get P.given.grammar.nodes q ≡ Some (form.Expression builders p) → slice_get P.plan.code z.pc ≡ Some (Rows count) → AreRows P.plan keep q p count (z.pc + 1) out →
    slice_get P.plan.code out ≡ Some Release → run P n z ≡ Some t → Comes P n keep (out + 1) z t (outcomes_of P.given q z.spot)
expression_comes P N claim n q p count out keep builders z t below h code laid release on =
    let u = turned P n z t (Rows count) code on in
    let counted = u.counted in
    let y = began P u.left count z t P.given.grammar.operators u.on in
    let T : Table = z.spot.table in
    let k : List Frame = holds z.forest T ∷ z.stack in
    let s : Setting = record { item = y.0; builders = builders; term = p } in
    let d = rows_come P N claim q s T keep count (z.pc + 1) out (record { item = y.1; node = h }) laid u.left z.spot k (z.nodes + 1) z.taken t (omega arith) refl y.3 in
    let few = d.fewer in
    let g = ended P d.left n keep out z.stack z.forest T z.taken (z.nodes + 1 + d.nodes) t d.outcome (omega arith) release d.on in
    let all : rows_below T count ≡ reverse (rows_of T.operators) = ap (rows_below T) (sym y.2) ∙ rows_reversed T in
    record {
      left = g.0;
      fewer = g.1;
      outcome = d.outcome;
      nodes = 1 + d.nodes;
      has = entered_too P.given q (form.Expression builders p) z.spot d.outcome d.nodes h
          (answers.expression y.1 (subst (λ (rs : List Row). AnswersRows P.given s rs z.spot d.outcome d.nodes) all d.has));
      on = same_count P g.0 keep (out + 1) z.stack z.forest z.taken d.outcome (z.nodes + 1 + d.nodes) (z.nodes + (1 + d.nodes)) t (omega arith) g.2;
    }
