-- What follows an operand of a row: infix operators of the row, each with an operand.
use Rattle.std.proofs.Common.{◌≡◌, ◌∙◌, ◌<◌, ◌≤◌, ◌+◌, ℕ, zero, suc, List, [], ◌∷◌, ◌++◌, Bool, true, false, ◌||◌, refl, sym, ap, subst, Option, Some, None, length, take, drop, arith}
use Rattle.pg_tree.specs.Trees.{Tree}
use Rattle.pg_grammar_form.specs.Forms.{Node}
use Rattle.pg_grammar_form.specs.Operators.{Operator}
use Rattle.pg_grammar_form.specs.declared.decl.Role.{Role}
use Rattle.pg_grammar_form.specs.declared.decl.Role.TheVariants.{InfixLeft, InfixRight, InfixNone}
use Rattle.pg_grammar_form.specs.declared.used.BuilderUse.{BuilderUse}
use Rattle.pg_grammar_value.specs.declared.trail.TrailItem.{TrailItem}
use Rattle.pg_grammar_value.specs.declared.trail.Fixity.TheVariants as fixity
use Rattle.pg_language.specs.Answers.{Given, AnswersRight, right_operand_failed, right_operand_ok, AnswersLeft, left_operand_failed, left_operand_ok, AnswersNon}
use Rattle.pg_language.specs.Derives.{Spot, at, applied}
use Rattle.pg_language.specs.Errors.{Error, merge, no_messages_at}
use Rattle.pg_language.specs.OperatorReads.{Read, read_at}
use Rattle.pg_language.specs.Outcomes.{Outcome, ok, failed, empty_round}
use Rattle.pg_language.specs.Reactions.{unless_begun}
use Rattle.pg_language.specs.RowReactions.{Setting, then_stretch, then_operand, as_applied, or_return, or_ambiguous, ambiguous_right}
use Rattle.pg_table.specs.Tables.{Table}
use Rattle.pg_machine_plan.specs.Facts.{Outcomes}
use Rattle.pg_machine_plan.specs.Layout.{IsRow}
use Rattle.pg_machine_plan.specs.Plans.{Program}
use Rattle.pg_machine_plan.specs.declared.instruction.Instruction.TheVariants.{ReadInfix, Jump}
use Rattle.pg_machine_plan.specs.declared.instruction.Keep.{Keep}
use Rattle.pg_machine_plan.proofs.Verdicts.{alone}
use Rattle.pg_machine_quick.specs.Turns.{Frame, operates, State, state, goes, added, table_of, builder_of, operated, joined, left_joined, infixed, awaited, by_builders, act, run}
use Rattle.pg_machine_quick.proofs.Comes.{or_false, onward, Comes, same_run, same_count}
use Rattle.pg_machine_quick.proofs.Operands.{rows_below, of_operand, ClaimFrom}
use Rattle.pg_machine_quick.proofs.RowAnswers.{lefts_and_nons, rights_and_nons, no_right, no_left, right_answered, no_right_answered, left_answered, no_left_answered, non_answered}
use Rattle.pg_machine_quick.proofs.RowTurns.{IsRowsOf, row_here, IsOpen, open_table, open_first, awaits, reads_here, symbol_stands, operated_both, went, settles_on, on_stretch, on_operand, on_ambiguous}

-- the outcomes of what follows an operator: an operand that fails, or an operand and what follows that, where it left this forest
pub data Joined (Operand : Outcomes) (Tail : Spot → List Tree → Outcomes) : Outcome → ℕ → Type 0 where
  lost : {c : Bool} {e : Error} {m : ℕ} → Operand (failed c e) m → Joined Operand Tail (failed c e) m
  found : {c : Bool} {b : Spot} {v : List Tree} {t : List TrailItem} {e : Error} {o : Outcome} {m n : ℕ} → Operand (ok c b v t e) m → Tail b v o n →
      Joined Operand Tail (then_stretch c t e o) (m + n)

applied_stretch : (used : BuilderUse) (p : Operator) (v : List Tree) (c : Bool) (t : List TrailItem) (e : Error) (o : Outcome) →
    as_applied used p v (then_stretch c t e o) ≡ then_stretch c t e (as_applied used p v o)
applied_stretch used p v c t e (ok d b w u f) = refl
applied_stretch used p v c t e (failed d f) = refl
applied_stretch used p v c t e empty_round = refl

-- ---- what the relation says of it, by the operator's role

-- after a forest and an operator that associates to the right
abbrev pub right_after : Given → Setting → Table → ℕ → List Tree → Operator → Spot → List Tree → Outcomes
right_after G s T row v p b w =
    λ o m. (y : Outcome) × (o ≡ as_applied s.builders.infix p v (or_return b w y)) × AnswersRight G s (row_here T row) (rows_below T row) w b y m

-- and to the left
abbrev pub left_after : Given → Setting → Table → ℕ → List Tree → Operator → Spot → List Tree → Outcomes
left_after G s T row v p b w = λ o m. (y : Outcome) × (o ≡ or_return b (applied s.builders.infix p (v ++ w)) y) ×
    AnswersLeft G s (row_here T row) (rows_below T row) (applied s.builders.infix p (v ++ w)) b y m

-- and to neither side
abbrev pub non_after : Given → Setting → Table → ℕ → List Tree → Operator → Spot → List Tree → Outcomes
non_after G s T row v p b w = λ o m. (m ≡ zero) × (o ≡ unless_begun false b (applied s.builders.infix p (v ++ w))
    (merge (ambiguous_right G.grammar G.text s.item (row_here T row) b.place) (lefts_and_nons G s (row_here T row) b.place)))

pub right_of : (G : Given) (s : Setting) (T : Table) (row : ℕ) (v : List Tree) (b : Spot) (p : Read) (o : Outcome) (m : ℕ) →
    read_at G.grammar G.text s.item (row_here T row).right b.place ≡ Some p →
    Joined (of_operand G s T row (at b p.end)) (right_after G s T row v p.operator) o m →
    AnswersRight G s (row_here T row) (rows_below T row) v b (or_ambiguous (lefts_and_nons G s (row_here T row) b.place) (then_operand fixity.Infix p o)) m
right_of G s T row v b p o m there (lost {c = c} {e = e} {m = n} d) =
    subst (AnswersRight G s (row_here T row) (rows_below T row) v b (or_ambiguous (lefts_and_nons G s (row_here T row) b.place) (then_operand fixity.Infix p (failed c e)))) (alone n)
    (right_answered there d right_operand_failed)
right_of G s T row v b p o m there (found {c = c} {b = a} {v = w} {t = t} {e = e} {o = y} {m = i} {n = j} d tail) =
    let z : Outcome = tail.0 in
    let same : as_applied s.builders.infix p.operator v (then_stretch c t e (or_return a w z)) ≡ then_stretch c t e y =
    applied_stretch s.builders.infix p.operator v c t e (or_return a w z) ∙ ap (λ (u : Outcome). then_stretch c t e u) (sym tail.1) in
    subst (λ (u : Outcome). AnswersRight G s (row_here T row) (rows_below T row) v b (or_ambiguous (lefts_and_nons G s (row_here T row) b.place) (then_operand fixity.Infix p u)) (i + j))
    same (right_answered there d (right_operand_ok tail.2))

pub left_of : (G : Given) (s : Setting) (T : Table) (row : ℕ) (v : List Tree) (b : Spot) (p : Read) (o : Outcome) (m : ℕ) →
    read_at G.grammar G.text s.item (row_here T row).left b.place ≡ Some p →
    Joined (of_operand G s T row (at b p.end)) (left_after G s T row v p.operator) o m →
    AnswersLeft G s (row_here T row) (rows_below T row) v b (or_ambiguous (rights_and_nons G s (row_here T row) b.place) (then_operand fixity.Infix p o)) m
left_of G s T row v b p o m there (lost {c = c} {e = e} {m = n} d) =
    subst (AnswersLeft G s (row_here T row) (rows_below T row) v b (or_ambiguous (rights_and_nons G s (row_here T row) b.place) (then_operand fixity.Infix p (failed c e)))) (alone n)
    (left_answered there d left_operand_failed)
left_of G s T row v b p o m there (found {c = c} {b = a} {v = w} {t = t} {e = e} {o = y} {m = i} {n = j} d tail) =
    subst (λ (u : Outcome). AnswersLeft G s (row_here T row) (rows_below T row) v b (or_ambiguous (rights_and_nons G s (row_here T row) b.place) (then_operand fixity.Infix p (then_stretch c t e u))) (i + j))
    (sym tail.1) (left_answered there d (left_operand_ok tail.2))

pub non_of : (G : Given) (s : Setting) (T : Table) (row : ℕ) (v : List Tree) (b : Spot) (p : Read) (o : Outcome) (m : ℕ) →
    read_at G.grammar G.text s.item (row_here T row).non b.place ≡ Some p →
    Joined (of_operand G s T row (at b p.end)) (non_after G s T row v p.operator) o m →
    AnswersNon G s (row_here T row) (rows_below T row) v b (then_operand fixity.Infix p o) m
non_of G s T row v b p o m there (lost d) = non_answered there d
non_of G s T row v b p o m there (found {c = c} {b = a} {v = w} {t = t} {e = e} {o = y} {m = i} {n = j} d tail) =
    let none : j ≡ zero = tail.0 in
    let count : i ≡ i + j = omega arith in
    subst (AnswersNon G s (row_here T row) (rows_below T row) v b (then_operand fixity.Infix p (then_stretch c t e y))) count
    (subst (λ (u : Outcome). AnswersNon G s (row_here T row) (rows_below T row) v b (then_operand fixity.Infix p (then_stretch c t e u)) i) (sym tail.1) (non_answered there d))

module _ (P : Program) (N q row : ℕ) (s : Setting) (T : Table) (keep : Keep) (head exit : ℕ) (is : IsRowsOf P q s) (code : IsRow P.plan keep q row head exit)
    (operand : ClaimFrom P N keep T (suc (row + row)) head (exit + 2) (of_operand P.given s T row)) where
  -- ---- turns

  -- what the instruction does that reads an infix operator, by the role that waits
  pub infix_does : (z : State) (role : Option Role) → awaited (row + row + 1) z.stack ≡ role →
      act P z (Some (ReadInfix keep q row)) ≡ infixed P.given keep s.builders row z role
  infix_does z role waits =
      ap (λ (m : Option Node). by_builders m (λ builders. infixed P.given keep builders row z (awaited (row + row + 1) z.stack))) is.node
      ∙ ap (λ (w : Option Role). infixed P.given keep s.builders row z w) waits

  -- the runs that go on after an operand, while an operator waits
  abbrev pub Waited : ℕ → Role → ℕ → ℕ → List Tree → Table → List Frame → State → (Spot → List Tree → Outcomes) → Type 0
  Waited n role i long f U k t Tail = (l : ℕ) (b : Spot) (w : List Tree) (c : ℕ) (x : Bool) → l < n →
      run P l (state (exit + 2) b (operates (row + row + 1) role i long f U ∷ k) (added keep [] w) c x) ≡ Some t →
      Comes P l keep (exit + 4) (state (exit + 2) b k [] c x) t (Tail b w)

  -- an operand has come after an operator
  operand_came : (n l m : ℕ) (role : Role) (i long : ℕ) (f : List Tree) (U : Table) (k : List Frame) (a : Spot) (c : ℕ) (t : State) (Tail : Spot → List Tree → Outcomes) (o : Outcome) →
      l < n → Waited n role i long f U k t Tail → of_operand P.given s T row a o m →
      onward P l keep (exit + 2) (operates (row + row + 1) role i long f U ∷ k) [] true o (c + m) ≡ Some t →
      Comes P n keep (exit + 4) (state (exit + 2) a k [] c true) t (Joined (of_operand P.given s T row a) Tail)
  operand_came n l m role i long f U k a c t Tail (ok d b w u e) less rest h on =
      let y = rest l b w (c + m) (true || d) less on in
      let few = y.fewer in
      record {
        left = y.left;
        fewer = omega arith;
        outcome = then_stretch d u e y.outcome;
        nodes = m + y.nodes;
        has = found h y.has;
        on = same_count P y.left keep (exit + 4) k [] true (then_stretch d u e y.outcome) (c + m + y.nodes) (c + (m + y.nodes)) t (omega arith)
            (on_stretch P y.left keep (exit + 4) k true (c + m + y.nodes) t d u e y.outcome y.on);
      }
  operand_came n l m role i long f U k a c t Tail (failed d e) less rest h on =
      record { left = l; fewer = less; outcome = failed d e; nodes = m; has = lost h; on = on }
  operand_came n l m role i long f U k a c t Tail empty_round less rest h on = absurd (cc)

  -- an operator waits, and its operand begins
  joins : (n : ℕ) (role : Role) (i long : ℕ) (f : List Tree) (U : Table) (k : List Frame) (a : Spot) (c : ℕ) (t : State) (Tail : Spot → List Tree → Outcomes) →
      n < N → U ≡ T → Waited n role i long f U k t Tail → run P n (state (exit + 2 + 1) a (operates (row + row + 1) role i long f U ∷ k) [] c true) ≡ Some t →
      Comes P n keep (exit + 4) (state (exit + 2) a k [] c true) t (Joined (of_operand P.given s T row a) Tail)
  joins n role i long f U k a c t Tail below same rest on =
      let waits : List Frame = operates (row + row + 1) role i long f U ∷ k in
      let three : exit + 2 + 1 ≡ exit + 3 = omega arith in
      let g = went P n (state (exit + 3) a waits [] c true) (state head a waits [] c true) t (Jump head) code.goes_back refl
      (subst (λ pc. run P n (state pc a waits [] c true) ≡ Some t) three on) in
      let few = g.fewer in
      let d = operand g.left a waits c true t (omega arith) (same, omega arith) g.on in
      let fewer = d.fewer in
      operand_came n d.left d.nodes role i long f U k a c t Tail d.outcome (omega arith) rest d.has d.on

  -- none follows: what waits is applied
  ends : (n : ℕ) (role : Role) (i long : ℕ) (p : Operator) (f v w : List Tree) (U : Table) (k : List Frame) (b : Spot) (c : ℕ) (x : Bool) (t : State) (e : Error) →
      take long (drop i P.given.text) ≡ p.symbol → f ≡ added keep [] v →
      act P (state (exit + 2) b (operates (row + row + 1) role i long f U ∷ k) (added keep [] w) c x) (Some (ReadInfix keep q row)) ≡
      goes (state (exit + 2 + 2) b (operates (row + row + 1) role i long f U ∷ k) (added keep [] w) c x) →
      run P n (state (exit + 2) b (operates (row + row + 1) role i long f U ∷ k) (added keep [] w) c x) ≡ Some t →
      (l : ℕ) × (l < n) × (onward P l keep (exit + 4) k [] x (as_applied (builder_of s.builders role) p v (ok false b w [] e)) (c + zero) ≡ Some t)
  ends n role i long p f v w U k b c x t e symbol same does on =
      let waits : List Frame = operates (row + row + 1) role i long f U ∷ k in
      let g = went P n (state (exit + 2) b waits (added keep [] w) c x) (state (exit + 2 + 2) b waits (added keep [] w) c x) t (ReadInfix keep q row) code.reads_infix does on in
      let few = g.fewer in
      let four : exit + 2 + 2 ≡ exit + 4 = omega arith in
      let there : run P g.left (state (exit + 4) b waits (added keep [] w) c x) ≡ Some t =
      subst (λ pc. run P g.left (state pc b waits (added keep [] w) c x) ≡ Some t) four g.on in
      let none : c ≡ c + zero = omega arith in
      let y = settles_on P q (row + row + 1) g.left s keep (exit + 4) role i long p f v U k x (ok false b w [] e) (c + zero) t is code.settles_infix symbol same
      (same_run P g.left (exit + 4) b waits (added keep [] w) (added keep [] w) c (c + zero) x (x || false) t refl none (or_false x) there) in
      let most = y.most in
      (y.left, omega arith, y.on)

  -- ---- to the right

  right_follows : (n : ℕ) (i long : ℕ) (p : Operator) (f v w : List Tree) (U : Table) (k : List Frame) (b : Spot) (c : ℕ) (x : Bool) (t : State) (r : Option Read) →
      n < N → U ≡ T → take long (drop i P.given.text) ≡ p.symbol → f ≡ added keep [] v →
      read_at P.given.grammar P.given.text s.item (row_here T row).right b.place ≡ r →
      ((p : Read) → r ≡ Some p → Waited n InfixRight b.place (length p.operator.symbol) (added keep [] w) U (operates (row + row + 1) InfixRight i long f U ∷ k) t
      (right_after P.given s T row w p.operator)) →
      run P n (state (exit + 2) b (operates (row + row + 1) InfixRight i long f U ∷ k) (added keep [] w) c x) ≡ Some t →
      Comes P n keep (exit + 4) (state (exit + 2) b k [] c x) t (right_after P.given s T row v p b w)
  right_follows n i long p f v w U k b c x t None below table symbol same read rest on =
      let waits : List Frame = operates (row + row + 1) InfixRight i long f U ∷ k in
      let z : State = state (exit + 2) b waits (added keep [] w) c x in
      let y = ends n InfixRight i long p f v w U k b c x t (merge (no_right P.given s (row_here T row) b.place) (no_messages_at b.place)) symbol same
      (infix_does z (Some InfixRight) (awaits (row + row + 1) InfixRight i long f U k)
      ∙ ap (joined row InfixRight z) (reads_here P q s T (row + row + 1) z row InfixRight is (table, omega arith) ∙ read)) on in
      record {
        left = y.0;
        fewer = y.1;
        outcome = as_applied s.builders.infix p v (or_return b w (failed false (no_right P.given s (row_here T row) b.place)));
        nodes = zero;
        has = (failed false (no_right P.given s (row_here T row) b.place), refl, no_right_answered read);
        on = y.2;
      }
  right_follows n i long p f v w U k b c x t (Some u) below table symbol same read rest on =
      let waits : List Frame = operates (row + row + 1) InfixRight i long f U ∷ k in
      let z : State = state (exit + 2) b waits (added keep [] w) c x in
      let size : ℕ = length u.operator.symbol in
      let g = went P n z (state (exit + 2 + 1) (at b u.end) (operates (row + row + 1) InfixRight b.place size (added keep [] w) U ∷ waits) [] c true) t (ReadInfix keep q row) code.reads_infix
      (infix_does z (Some InfixRight) (awaits (row + row + 1) InfixRight i long f U k)
      ∙ ap (joined row InfixRight z) (reads_here P q s T (row + row + 1) z row InfixRight is (table, omega arith) ∙ read)) on in
      let few = g.fewer in
      let d = joins g.left InfixRight b.place size (added keep [] w) U waits (at b u.end) c t (right_after P.given s T row w u.operator) (omega arith) table
      (λ l b1 w1 c1 x1 less r. rest u refl l b1 w1 c1 x1 (omega arith) r) g.on in
      let fewer = d.fewer in
      let e : Error = lefts_and_nons P.given s (row_here T row) b.place in
      let o : Outcome = or_ambiguous e (then_operand fixity.Infix u d.outcome) in
      let y = settles_on P q (row + row + 1) d.left s keep (exit + 4) InfixRight i long p f v U k x (or_return b w o) (c + d.nodes) t is code.settles_infix symbol same
      (on_ambiguous P d.left keep (exit + 4) waits x (c + d.nodes) t b w e u d.outcome
      (on_operand P d.left keep (exit + 4) waits x (c + d.nodes) t fixity.Infix u d.outcome d.on)) in
      let most = y.most in
      record {
        left = y.left;
        fewer = omega arith;
        outcome = as_applied s.builders.infix p v (or_return b w o);
        nodes = d.nodes;
        has = (o, refl, right_of P.given s T row w b u d.outcome d.nodes read d.has);
        on = y.on;
      }

  pub right_waited : (B n : ℕ) (i long : ℕ) (p : Operator) (f v : List Tree) (U : Table) (k : List Frame) (t : State) → n ≤ B → n ≤ N → U ≡ T →
      take long (drop i P.given.text) ≡ p.symbol → f ≡ added keep [] v → Waited n InfixRight i long f U k t (right_after P.given s T row v p)
  right_waited zero n i long p f v U k t bound below table symbol same = λ l b w c x less on. absurd (omega arith)
  right_waited (suc B) n i long p f v U k t bound below table symbol same = λ l b w c x less on.
      right_follows l i long p f v w U k b c x t (read_at P.given.grammar P.given.text s.item (row_here T row).right b.place) (omega arith) table symbol same refl
      (λ u read. right_waited B l b.place (length u.operator.symbol) u.operator (added keep [] w) w U (operates (row + row + 1) InfixRight i long f U ∷ k) t (omega arith) (omega arith) table
      (symbol_stands P.given.grammar P.given.text s.item (row_here T row).right b.place u read) refl) on

  -- ---- to the left

  left_follows : (n : ℕ) (i long : ℕ) (p : Operator) (f v w : List Tree) (U : Table) (k : List Frame) (b : Spot) (c : ℕ) (x : Bool) (t : State) (r : Option Read) →
      n < N → U ≡ T → take long (drop i P.given.text) ≡ p.symbol → f ≡ added keep [] v →
      read_at P.given.grammar P.given.text s.item (row_here T row).left b.place ≡ r →
      ((p' : Read) → r ≡ Some p' → Waited n InfixLeft b.place (length p'.operator.symbol) (operated keep P.given.text s.builders InfixLeft i long (f ++ added keep [] w)) U k t
      (left_after P.given s T row (applied s.builders.infix p (v ++ w)) p'.operator)) →
      run P n (state (exit + 2) b (operates (row + row + 1) InfixLeft i long f U ∷ k) (added keep [] w) c x) ≡ Some t →
      Comes P n keep (exit + 4) (state (exit + 2) b k [] c x) t (left_after P.given s T row v p b w)
  left_follows n i long p f v w U k b c x t None below table symbol same read rest on =
      let waits : List Frame = operates (row + row + 1) InfixLeft i long f U ∷ k in
      let z : State = state (exit + 2) b waits (added keep [] w) c x in
      let y = ends n InfixLeft i long p f v w U k b c x t (merge (no_left P.given s (row_here T row) b.place) (no_messages_at b.place)) symbol same
      (infix_does z (Some InfixLeft) (awaits (row + row + 1) InfixLeft i long f U k)
      ∙ ap (left_joined P.given keep s.builders row z) (reads_here P q s T (row + row + 1) z row InfixLeft is (table, omega arith) ∙ read)) on in
      record {
        left = y.0;
        fewer = y.1;
        outcome = or_return b (applied s.builders.infix p (v ++ w)) (failed false (no_left P.given s (row_here T row) b.place));
        nodes = zero;
        has = (failed false (no_left P.given s (row_here T row) b.place), refl, no_left_answered read);
        on = y.2;
      }
  left_follows n i long p f v w U k b c x t (Some u) below table symbol same read rest on =
      let waits : List Frame = operates (row + row + 1) InfixLeft i long f U ∷ k in
      let z : State = state (exit + 2) b waits (added keep [] w) c x in
      let size : ℕ = length u.operator.symbol in
      let left : List Tree = operated keep P.given.text s.builders InfixLeft i long (f ++ added keep [] w) in
      let g = went P n z (state (exit + 2 + 1) (at b u.end) (operates (row + row + 1) InfixLeft b.place size left U ∷ k) [] c true) t (ReadInfix keep q row) code.reads_infix
      (infix_does z (Some InfixLeft) (awaits (row + row + 1) InfixLeft i long f U k)
      ∙ ap (left_joined P.given keep s.builders row z) (reads_here P q s T (row + row + 1) z row InfixLeft is (table, omega arith) ∙ read)) on in
      let few = g.fewer in
      let d = joins g.left InfixLeft b.place size left U k (at b u.end) c t (left_after P.given s T row (applied s.builders.infix p (v ++ w)) u.operator) (omega arith) table
      (λ l b1 w1 c1 x1 less r. rest u refl l b1 w1 c1 x1 (omega arith) r) g.on in
      let fewer = d.fewer in
      let e : Error = rights_and_nons P.given s (row_here T row) b.place in
      let o : Outcome = or_ambiguous e (then_operand fixity.Infix u d.outcome) in
      record {
        left = d.left;
        fewer = omega arith;
        outcome = or_return b (applied s.builders.infix p (v ++ w)) o;
        nodes = d.nodes;
        has = (o, refl, left_of P.given s T row (applied s.builders.infix p (v ++ w)) b u d.outcome d.nodes read d.has);
        on = on_ambiguous P d.left keep (exit + 4) k x (c + d.nodes) t b (applied s.builders.infix p (v ++ w)) e u d.outcome
            (on_operand P d.left keep (exit + 4) k x (c + d.nodes) t fixity.Infix u d.outcome d.on);
      }

  pub left_waited : (B n : ℕ) (i long : ℕ) (p : Operator) (f v : List Tree) (U : Table) (k : List Frame) (t : State) → n ≤ B → n ≤ N → U ≡ T →
      take long (drop i P.given.text) ≡ p.symbol → f ≡ added keep [] v → Waited n InfixLeft i long f U k t (left_after P.given s T row v p)
  left_waited zero n i long p f v U k t bound below table symbol same = λ l b w c x less on. absurd (omega arith)
  left_waited (suc B) n i long p f v U k t bound below table symbol same = λ l b w c x less on.
      left_follows l i long p f v w U k b c x t (read_at P.given.grammar P.given.text s.item (row_here T row).left b.place) (omega arith) table symbol same refl
      (λ u read. left_waited B l b.place (length u.operator.symbol) u.operator (operated keep P.given.text s.builders InfixLeft i long (f ++ added keep [] w))
      (applied s.builders.infix p (v ++ w)) U k t (omega arith) (omega arith) table
      (symbol_stands P.given.grammar P.given.text s.item (row_here T row).left b.place u read)
      (ap (λ h. operated keep P.given.text s.builders InfixLeft i long (h ++ added keep [] w)) same
      ∙ operated_both keep P.given.text s.builders InfixLeft i long p v w symbol)) on

  -- ---- to neither side

  pub non_waited : (n : ℕ) (i long : ℕ) (p : Operator) (f v : List Tree) (U : Table) (k : List Frame) (t : State) →
      take long (drop i P.given.text) ≡ p.symbol → f ≡ added keep [] v → Waited n InfixNone i long f U k t (non_after P.given s T row v p)
  non_waited n i long p f v U k t symbol same = λ l b w c x less on.
      let z : State = state (exit + 2) b (operates (row + row + 1) InfixNone i long f U ∷ k) (added keep [] w) c x in
      let e : Error = merge (ambiguous_right P.given.grammar P.given.text s.item (row_here T row) b.place) (lefts_and_nons P.given s (row_here T row) b.place) in
      let y = ends l InfixNone i long p f v w U k b c x t (merge e (no_messages_at b.place)) symbol same
      (infix_does z (Some InfixNone) (awaits (row + row + 1) InfixNone i long f U k)) on in
      record {
        left = y.0;
        fewer = y.1;
        outcome = unless_begun false b (applied s.builders.infix p (v ++ w)) e;
        nodes = zero;
        has = (refl, refl);
        on = y.2;
      }

  -- ---- the first operand

  -- an operator follows it
  pub first_joins : (n : ℕ) (role : Role) (v : List Tree) (k : List Frame) (b : Spot) (c : ℕ) (x : Bool) (t : State) (u : Read) (Tail : Spot → List Tree → Outcomes) →
      n < N → IsOpen T (suc (row + row + 1)) k →
      infixed P.given keep s.builders row (state (exit + 2) b k (added keep [] v) c x) None ≡
      goes (state (exit + 2 + 1) (at b u.end) (operates (row + row + 1) role b.place (length u.operator.symbol) (added keep [] v) (table_of b k) ∷ k) [] c true) →
      ((l : ℕ) → l < n → Waited l role b.place (length u.operator.symbol) (added keep [] v) (table_of b k) k t Tail) →
      run P n (state (exit + 2) b k (added keep [] v) c x) ≡ Some t →
      Comes P n keep (exit + 4) (state (exit + 2) b k [] c x) t (λ o m. (y : Outcome) × (o ≡ then_operand fixity.Infix u y) × Joined (of_operand P.given s T row (at b u.end)) Tail y m)
  first_joins n role v k b c x t u Tail below wide does rest on =
      let z : State = state (exit + 2) b k (added keep [] v) c x in
      let size : ℕ = length u.operator.symbol in
      let g = went P n z (state (exit + 2 + 1) (at b u.end) (operates (row + row + 1) role b.place size (added keep [] v) (table_of b k) ∷ k) [] c true) t (ReadInfix keep q row) code.reads_infix
      (infix_does z None (open_first T (row + row + 1) k wide) ∙ does) on in
      let few = g.fewer in
      let d = joins g.left role b.place size (added keep [] v) (table_of b k) k (at b u.end) c t Tail (omega arith) (open_table T (suc (row + row + 1)) b k wide)
      (rest g.left few) g.on in
      let fewer = d.fewer in
      record {
        left = d.left;
        fewer = omega arith;
        outcome = then_operand fixity.Infix u d.outcome;
        nodes = d.nodes;
        has = (d.outcome, refl, d.has);
        on = on_operand P d.left keep (exit + 4) k x (c + d.nodes) t fixity.Infix u d.outcome d.on;
      }
