-- Operands of a row: the tighter rows, perhaps after a prefix and before a postfix.
use Rattle.std.proofs.Common.{◌≡◌, ◌∙◌, ◌<◌, ◌+◌, ℕ, zero, suc, List, [], ◌∷◌, Bool, true, false, ◌||◌, refl, sym, ap, subst, Option, Some, None, length, slice_get, arith}
use Rattle.pg_tree.specs.Trees.{Tree}
use Rattle.pg_grammar_form.specs.Forms.{Node}
use Rattle.pg_grammar_form.specs.declared.decl.Role.TheVariants.{Prefix, Postfix}
use Rattle.pg_grammar_value.specs.declared.trail.TrailItem.{TrailItem}
use Rattle.pg_grammar_value.specs.declared.trail.Fixity.TheVariants as fixity
use Rattle.pg_expand.specs.declared.rows.Row.{Row}
use Rattle.pg_language.specs.Answers.{Given, AnswersRows, AnswersRowOperand, row_operand}
use Rattle.pg_language.specs.Derives.{Spot, at, applied}
use Rattle.pg_language.specs.Errors.{Error}
use Rattle.pg_language.specs.OperatorReads.{Read, read_at}
use Rattle.pg_language.specs.Outcomes.{Outcome, ok, failed, empty_round}
use Rattle.pg_language.specs.RowReactions.{Setting, no_affix, past_prefix, with_prefix, postfix_outcome, with_postfix, as_applied, then_stretch}
use Rattle.pg_table.specs.Tables.{Table}
use Rattle.pg_machine_plan.specs.Facts.{Outcomes}
use Rattle.pg_machine_plan.specs.Layout.{IsRow}
use Rattle.pg_machine_plan.specs.Plans.{Program}
use Rattle.pg_machine_plan.specs.declared.instruction.Instruction.TheVariants.{ReadPrefix, ReadPostfix}
use Rattle.pg_machine_plan.specs.declared.instruction.Keep.{Keep}
use Rattle.pg_machine_quick.specs.Turns.{Frame, operates, State, state, added, table_of, read_here, operated, prefixed, postfixed, by_builders, run}
use Rattle.pg_machine_quick.proofs.Comes.{or_false, or_true, none_added, onward, Comes, same_run}
use Rattle.pg_machine_quick.proofs.RowTurns.{IsRowsOf, row_here, IsOpen, open_table, open_lower, reads_here, symbol_stands, operated_one, went, Onto, passes_on, settles_on, on_stretch, on_operand, same_flag}

-- the rows with numbers up to this, the loosest first
abbrev pub rows_below : Table → ℕ → List Row
rows_below T zero = []
rows_below T (suc row) = row_here T row ∷ rows_below T row

-- the outcomes of an operand of a row
abbrev pub of_operand : Given → Setting → Table → ℕ → Spot → Outcomes
of_operand G s T row a = λ o m. AnswersRowOperand G s (row_here T row) (rows_below T row) a o m

abbrev pub of_rows : Given → Setting → Table → ℕ → Spot → Outcomes
of_rows G s T row a = λ o m. AnswersRows G s (rows_below T row) a o m

-- a claim on all runs of fewer turns from one place in the code to another, where what waits is of a rank
abbrev pub ClaimFrom : Program → ℕ → Keep → Table → ℕ → ℕ → ℕ → (Spot → Outcomes) → Type 0
ClaimFrom P N keep T rank pc end Has = (n : ℕ) (a : Spot) (k : List Frame) (c : ℕ) (x : Bool) (t : State) → n < N → IsOpen T rank k →
    run P n (state pc a k [] c x) ≡ Some t → Comes P n keep end (state pc a k [] c x) t (Has a)

-- ---- after the tighter rows

-- a postfix, if one is read
after_ok : (P : Program) (q row r l : ℕ) (s : Setting) (T : Table) (keep : Keep) (pc : ℕ) (k : List Frame) (x c : Bool) (b : Spot) (v : List Tree) (i : List TrailItem) (e : Error)
    (n : ℕ) (t : State) (w : Option Read) → IsRowsOf P q s → slice_get P.plan.code pc ≡ Some (ReadPostfix keep q row) → IsOpen T r k →
    read_at P.given.grammar P.given.text s.item (row_here T row).postfix b.place ≡ w → run P l (state pc b k (added keep [] v) n (x || c)) ≡ Some t →
    Onto P l keep (pc + 1) k x (then_stretch c i e (postfix_outcome P.given.text s.builders (row_here T row).postfix v b w)) n t
after_ok P q row r l s T keep pc k x c b v i e n t None is code wide read on =
    let z : State = state pc b k (added keep [] v) n (x || c) in
    let g = went P l z (state (pc + 1) b k (added keep [] v) n (x || c)) t (ReadPostfix keep q row) code
    (ap (λ (m : Option Node). by_builders m (λ builders. postfixed P.given keep builders z (read_here P.given z row Postfix))) is.node
    ∙ ap (postfixed P.given keep s.builders z) (reads_here P q s T r z row Postfix is wide ∙ read)) on in
    let few = g.fewer in
    record {
      left = g.left;
      most = omega arith;
      on = on_stretch P g.left keep (pc + 1) k x n t c i e (ok false b v [] (no_affix P.given.text (row_here T row).postfix b.place))
          (same_run P g.left (pc + 1) b k (added keep [] v) (added keep [] v) n n (x || c) ((x || c) || false) t refl refl (or_false (x || c)) g.on);
    }
after_ok P q row r l s T keep pc k x c b v i e n t (Some p) is code wide read on =
    let z : State = state pc b k (added keep [] v) n (x || c) in
    let long : ℕ = length p.operator.symbol in
    let forest : List Tree = operated keep P.given.text s.builders Postfix b.place long (added keep [] v) in
    let g = went P l z (state (pc + 1) (at b p.end) k forest n true) t (ReadPostfix keep q row) code
    (ap (λ (m : Option Node). by_builders m (λ builders. postfixed P.given keep builders z (read_here P.given z row Postfix))) is.node
    ∙ ap (postfixed P.given keep s.builders z) (reads_here P q s T r z row Postfix is wide ∙ read)) on in
    let few = g.fewer in
    let same : forest ≡ added keep [] (applied s.builders.postfix p.operator v) = operated_one keep P.given.text s.builders Postfix b.place long p.operator v
    (symbol_stands P.given.grammar P.given.text s.item (row_here T row).postfix b.place p read) in
    record {
      left = g.left;
      most = omega arith;
      on = on_stretch P g.left keep (pc + 1) k x n t c i e (postfix_outcome P.given.text s.builders (row_here T row).postfix v b (Some p))
          (same_run P g.left (pc + 1) (at b p.end) k forest (added keep [] (applied s.builders.postfix p.operator v)) n n true ((x || c) || true) t same refl
          (or_true (x || c)) g.on);
    }

after_rows : (P : Program) (q row r l : ℕ) (s : Setting) (T : Table) (keep : Keep) (pc : ℕ) (k : List Frame) (x : Bool) (o : Outcome) (n : ℕ) (t : State) →
    IsRowsOf P q s → slice_get P.plan.code pc ≡ Some (ReadPostfix keep q row) → IsOpen T r k → onward P l keep pc k [] x o n ≡ Some t →
    Onto P l keep (pc + 1) k x (with_postfix P.given.grammar P.given.text s (row_here T row).postfix o) n t
after_rows P q row r l s T keep pc k x (ok c b v i e) n t is code wide on =
    after_ok P q row r l s T keep pc k x c b v i e n t (read_at P.given.grammar P.given.text s.item (row_here T row).postfix b.place) is code wide refl on
after_rows P q row r l s T keep pc k x (failed c e) n t is code wide on = record { left = l; most = omega arith; on = on }
after_rows P q row r l s T keep pc k x empty_round n t is code wide on = absurd (cc)

-- ---- the prefix

-- what comes of an operand, where what comes of it from the prefix on is known
operand_came : (P : Program) (N q row : ℕ) (s : Setting) (T : Table) (keep : Keep) (head exit l m : ℕ) (a : Spot) (k : List Frame) (c : ℕ) (x : Bool) (t : State) (w : Option Read)
    (o : Outcome) → IsRowsOf P q s → IsRow P.plan keep q row head exit → IsOpen T (suc (row + row)) k → l < N →
    read_at P.given.grammar P.given.text s.item (row_here T row).prefix a.place ≡ w → AnswersRows P.given s (rows_below T row) (past_prefix a w) o m →
    Onto P l keep (exit + 1) k x (with_prefix P.given.text s.builders (row_here T row).prefix a w o) (c + m) t →
    Comes P N keep (exit + 1 + 1) (state head a k [] c x) t (of_operand P.given s T row a)
operand_came P N q row s T keep head exit l m a k c x t w o is code wide less read d from =
    let y = after_rows P q row (suc (row + row)) from.left s T keep (exit + 1) k x (with_prefix P.given.text s.builders (row_here T row).prefix a w o) (c + m) t is
    code.reads_postfix wide from.on in
    let few = from.most in
    let fewer = y.most in
    let G : Given = P.given in
    let r : Row = row_here T row in
    record {
      left = y.left;
      fewer = omega arith;
      outcome = with_postfix G.grammar G.text s r.postfix (with_prefix G.text s.builders r.prefix a w o);
      nodes = m;
      has = subst (λ (u : Option Read). AnswersRowOperand G s r (rows_below T row) a (with_postfix G.grammar G.text s r.postfix (with_prefix G.text s.builders r.prefix a u o)) m) read
          (row_operand (subst (λ (u : Option Read). AnswersRows G s (rows_below T row) (past_prefix a u) o m) (sym read) d));
      on = y.on;
    }

by_prefix : (P : Program) (N q row n : ℕ) (s : Setting) (T : Table) (keep : Keep) (head exit : ℕ) (a : Spot) (k : List Frame) (c : ℕ) (x : Bool) (t : State) (w : Option Read) →
    IsRowsOf P q s → IsRow P.plan keep q row head exit → ClaimFrom P N keep T (row + row) (head + 1) exit (of_rows P.given s T row) → n < N → IsOpen T (suc (row + row)) k →
    read_at P.given.grammar P.given.text s.item (row_here T row).prefix a.place ≡ w → run P n (state head a k [] c x) ≡ Some t →
    Comes P n keep (exit + 1 + 1) (state head a k [] c x) t (of_operand P.given s T row a)
by_prefix P N q row n s T keep head exit a k c x t None is code claim below wide read on =
    let z : State = state head a k [] c x in
    let g = went P n z (state (head + 1) a k [] c x) t (ReadPrefix row) code.reads_prefix
    (ap (prefixed row z) (reads_here P q s T (suc (row + row)) z row Prefix is wide ∙ read)) on in
    let few = g.fewer in
    let d = claim g.left a k c x t (omega arith) (open_lower T (row + row) (suc (row + row)) k (omega arith) wide) g.on in
    let fewer = d.fewer in
    let y = passes_on P q (row + row) (suc (row + row)) d.left s T keep exit k x d.outcome (c + d.nodes) t is code.settles_prefix (omega arith) wide d.on in
    let most = y.most in
    operand_came P n q row s T keep head exit y.left d.nodes a k c x t None d.outcome is code wide (omega arith) read d.has
    (record {
      left = y.left;
      most = omega arith;
      on = on_stretch P y.left keep (exit + 1) k x (c + d.nodes) t false [] (no_affix P.given.text (row_here T row).prefix a.place) d.outcome
          (same_flag P y.left keep (exit + 1) k (c + d.nodes) t x (x || false) d.outcome (or_false x) y.on);
    })
by_prefix P N q row n s T keep head exit a k c x t (Some p) is code claim below wide read on =
    let z : State = state head a k [] c x in
    let long : ℕ = length p.operator.symbol in
    let waits : List Frame = operates (row + row) Prefix a.place long [] (table_of a k) ∷ k in
    let g = went P n z (state (head + 1) (at a p.end) waits [] c true) t (ReadPrefix row) code.reads_prefix
    (ap (prefixed row z) (reads_here P q s T (suc (row + row)) z row Prefix is wide ∙ read)) on in
    let few = g.fewer in
    let d = claim g.left (at a p.end) waits c true t (omega arith) (open_table T (suc (row + row)) a k wide, omega arith) g.on in
    let fewer = d.fewer in
    let u = settles_on P q (row + row) d.left s keep exit Prefix a.place long p.operator [] [] (table_of a k) k true d.outcome (c + d.nodes) t is code.settles_prefix
    (symbol_stands P.given.grammar P.given.text s.item (row_here T row).prefix a.place p read) (none_added keep []) d.on in
    let y = passes_on P q (row + row) (suc (row + row)) u.left s T keep exit k true (as_applied s.builders.prefix p.operator [] d.outcome) (c + d.nodes) t is code.settles_prefix
    (omega arith) wide u.on in
    let most = u.most in
    let more = y.most in
    operand_came P n q row s T keep head exit y.left d.nodes a k c x t (Some p) d.outcome is code wide (omega arith) read d.has
    (record {
      left = y.left;
      most = omega arith;
      on = on_operand P y.left keep (exit + 1) k x (c + d.nodes) t fixity.Prefix p (as_applied s.builders.prefix p.operator [] d.outcome) y.on;
    })

pub operand_comes : (P : Program) (N q row : ℕ) (s : Setting) (T : Table) (keep : Keep) (head exit : ℕ) → IsRowsOf P q s → IsRow P.plan keep q row head exit →
    ClaimFrom P N keep T (row + row) (head + 1) exit (of_rows P.given s T row) → ClaimFrom P N keep T (suc (row + row)) head (exit + 2) (of_operand P.given s T row)
operand_comes P N q row s T keep head exit is code claim =
    let two : exit + 1 + 1 ≡ exit + 2 = omega arith in
    subst (λ end. ClaimFrom P N keep T (suc (row + row)) head end (of_operand P.given s T row)) two
    (λ n a k c x t below wide on.
    by_prefix P N q row n s T keep head exit a k c x t (read_at P.given.grammar P.given.text s.item (row_here T row).prefix a.place) is code claim below wide refl on)
