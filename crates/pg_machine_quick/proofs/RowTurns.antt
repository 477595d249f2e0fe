-- Turns of the code of rows, and how runs go on after them.
use Rattle.std.proofs.Common.{◌≡◌, ◌∙◌, ◌<◌, ◌≤◌, ◌+◌, ◌==◌, ℕ, zero, suc, List, [], ◌∷◌, ◌++◌, Bool, true, false, ◌||◌, refl, sym, ap, Option, Some, None, length, take, drop, slice_get, eq-eqb, ne_eqb, if◌then◌else◌, arith}
use Rattle.std.specs.Str.{encode_utf8_all}
use Rattle.std.specs.List.{prefix_len}
use Rattle.pg_tree.specs.Trees.{Tree}
use Rattle.pg_tree.specs.Built.{built}
use Rattle.pg_grammar_form.specs.ClassItems.{has_character}
use Rattle.pg_grammar_form.specs.Forms.{Node}
use Rattle.pg_grammar_form.specs.Operators.{Operator}
use Rattle.pg_grammar_form.specs.declared.decl.Role.{Role}
use Rattle.pg_grammar_form.specs.declared.form.Form.TheVariants as form
use Rattle.pg_grammar_form.specs.declared.operators_item.OperatorsItem.{OperatorsItem}
use Rattle.pg_grammar_form.specs.declared.used.OperatorBuilders.{OperatorBuilders}
use Rattle.pg_grammar_value.specs.Grammar.{Grammar}
use Rattle.pg_grammar_value.specs.declared.trail.TrailItem.{TrailItem}
use Rattle.pg_grammar_value.specs.declared.trail.Fixity.{Fixity}
use Rattle.pg_grammar_value.specs.declared.trail.Fixity.TheVariants as fixity
use Rattle.pg_expand.specs.Rows.{of_role, row_numbered}
use Rattle.pg_expand.specs.declared.rows.Row.{Row}
use Rattle.pg_language.specs.Answers.{Given}
use Rattle.pg_language.specs.Derives.{Spot, applied}
use Rattle.pg_language.specs.Errors.{Error, no_messages_at}
use Rattle.pg_language.specs.OperatorReads.{Read, read_at}
use Rattle.pg_language.specs.Outcomes.{Outcome, ok, failed, empty_round}
use Rattle.pg_language.specs.RowReactions.{Setting, noted_operator, then_stretch, then_operand, as_applied, or_return, or_ambiguous, labelled_operator}
use Rattle.pg_language.specs.Runs.{run_at}
use Rattle.pg_language.proofs.ReadOn.{is_read}
use Rattle.pg_table.specs.Tables.{Table}
use Rattle.pg_machine_plan.specs.Plans.{Program}
use Rattle.pg_machine_plan.specs.declared.instruction.Instruction.{Instruction}
use Rattle.pg_machine_plan.specs.declared.instruction.Instruction.TheVariants.{Settle}
use Rattle.pg_machine_plan.specs.declared.instruction.Keep.{Keep}
use Rattle.pg_machine_plan.specs.declared.instruction.Keep.TheVariants.{Kept, Hidden}
use Rattle.pg_machine_quick.specs.Turns.{Frame, returns, encloses, holds, operates, marks, State, state, Turn, goes, added, table_of, read_by, operator_at, read_here, builder_of, operated, passed, settled, awaited, by_builders, act, on_turn, run}
use Rattle.pg_machine_quick.proofs.Comes.{or_assoc, or_true, onward, turned, same_run, same_back}

-- the code at a node is that of an expression with these builders and this term, in a grammar with this operators item
pub record IsRowsOf (P : Program) (q : ℕ) (s : Setting) : Type 0 where
  pub item : P.given.grammar.operators ≡ Some s.item
  pub node : slice_get P.given.grammar.nodes q ≡ Some (form.Expression s.builders s.term)

-- the row with a number from 0
abbrev pub row_here : Table → ℕ → Row
row_here T row = row_numbered T.operators (suc row)

-- ---- what waits

-- the expression began with this table, and what waits last in it has this rank at least
abbrev pub IsOpen : Table → ℕ → List Frame → Type 0
IsOpen T r [] = ⊥
IsOpen T r (returns target ∷ k) = ⊥
IsOpen T r (encloses counts f a x ∷ k) = ⊥
IsOpen T r (holds f U ∷ k) = U ≡ T
IsOpen T r (operates rank role i c f U ∷ k) = (U ≡ T) × (r ≤ rank)
IsOpen T r (marks target f a x ∷ k) = ⊥

pub open_table : (T : Table) (r : ℕ) (a : Spot) (k : List Frame) → IsOpen T r k → table_of a k ≡ T
open_table T r a [] h = absurd h
open_table T r a (returns target ∷ k) h = absurd h
open_table T r a (encloses counts f b x ∷ k) h = absurd h
open_table T r a (holds f U ∷ k) h = h
open_table T r a (operates rank role i c f U ∷ k) h = h.0
open_table T r a (marks target f b x ∷ k) h = absurd h

pub open_lower : (T : Table) (q r : ℕ) (k : List Frame) → q ≤ r → IsOpen T r k → IsOpen T q k
open_lower T q r [] below h = absurd h
open_lower T q r (returns target ∷ k) below h = absurd h
open_lower T q r (encloses counts f b x ∷ k) below h = absurd h
open_lower T q r (holds f U ∷ k) below h = h
open_lower T q r (operates rank role i c f U ∷ k) below h = let least : r ≤ rank = h.1 in (h.0, omega arith)
open_lower T q r (marks target f b x ∷ k) below h = absurd h

-- what waits isn't of a lower rank
pub open_passes : (G : Given) (keep : Keep) (builders : OperatorBuilders) (T : Table) (rank : ℕ) (z : State) (k : List Frame) → IsOpen T (suc rank) k →
    settled G keep builders rank z k ≡ passed 1 z
open_passes G keep builders T rank z [] h = absurd h
open_passes G keep builders T rank z (returns target ∷ k) h = absurd h
open_passes G keep builders T rank z (encloses counts f b x ∷ k) h = absurd h
open_passes G keep builders T rank z (holds f U ∷ k) h = refl
open_passes G keep builders T rank z (operates r role i c f U ∷ k) h =
    let least : suc rank ≤ r = h.1 in
    let other : (r == rank) ≡ false = ne_eqb r rank (λ e. omega arith) in
    ap (λ b. if b then goes (state z.pc z.spot k (operated keep G.text builders role i c (f ++ z.forest)) z.nodes z.taken) else passed 1 z) other
open_passes G keep builders T rank z (marks target f b x ∷ k) h = absurd h

pub open_first : (T : Table) (rank : ℕ) (k : List Frame) → IsOpen T (suc rank) k → awaited rank k ≡ None
open_first T rank [] h = absurd h
open_first T rank (returns target ∷ k) h = absurd h
open_first T rank (encloses counts f b x ∷ k) h = absurd h
open_first T rank (holds f U ∷ k) h = refl
open_first T rank (operates r role i c f U ∷ k) h =
    let least : suc rank ≤ r = h.1 in
    let other : (r == rank) ≡ false = ne_eqb r rank (λ e. omega arith) in
    ap (λ b. if b then Some role else None) other
open_first T rank (marks target f b x ∷ k) h = absurd h

-- what waits is of this rank
pub settles : (G : Given) (keep : Keep) (builders : OperatorBuilders) (rank : ℕ) (z : State) (role : Role) (i c : ℕ) (f : List Tree) (T : Table) (k : List Frame) →
    settled G keep builders rank z (operates rank role i c f T ∷ k) ≡ goes (state z.pc z.spot k (operated keep G.text builders role i c (f ++ z.forest)) z.nodes z.taken)
settles G keep builders rank z role i c f T k =
    ap (λ b. if b then goes (state z.pc z.spot k (operated keep G.text builders role i c (f ++ z.forest)) z.nodes z.taken) else passed 1 z) (eq-eqb rank rank refl)

pub awaits : (rank : ℕ) (role : Role) (i c : ℕ) (f : List Tree) (T : Table) (k : List Frame) → awaited rank (operates rank role i c f T ∷ k) ≡ Some role
awaits rank role i c f T k = ap (λ b. if b then Some role else None) (eq-eqb rank rank refl)

-- ---- operators that are read

-- what a row reads, by the table where the expression began
pub reads_here : (P : Program) (q : ℕ) (s : Setting) (T : Table) (r : ℕ) (z : State) (row : ℕ) (role : Role) → IsRowsOf P q s → IsOpen T r z.stack →
    read_here P.given z row role ≡ read_at P.given.grammar P.given.text s.item (of_role role (row_here T row)) z.spot.place
reads_here P q s T r z row role is wide =
    ap (λ (U : Table). operator_at P.given U z.spot.place row role) (open_table T r z.spot z.stack wide)
    ∙ ap (λ (item : Option OperatorsItem). read_by P.given T z.spot.place row role item) is.item

taken_again : (n : ℕ) (xs : List ℕ) → take (length (take n xs)) xs ≡ take n xs
taken_again zero xs = refl
taken_again (suc n) [] = refl
taken_again (suc n) (x ∷ xs) = ap (λ ys. x ∷ ys) (taken_again n xs)

-- its symbol stands in the text
pub symbol_stands : (g : Grammar) (text : List ℕ) (item : OperatorsItem) (os : List Operator) (i : ℕ) (q : Read) → read_at g text item os i ≡ Some q →
    take (length q.operator.symbol) (drop i text) ≡ q.operator.symbol
symbol_stands g text item os i q h =
    let run : run_at g text item.class i ≡ q.operator.symbol = (is_read g text item os i q h).there.run in
    ap (λ (s : List ℕ). take (length s) (drop i text)) (sym run)
    ∙ taken_again (prefix_len (has_character g.classes item.class) (drop i text)) (drop i text)
    ∙ run

-- ---- forests

pub operated_both : (keep : Keep) (text : List ℕ) (builders : OperatorBuilders) (role : Role) (i c : ℕ) (o : Operator) (v w : List Tree) → take c (drop i text) ≡ o.symbol →
    operated keep text builders role i c (added keep [] v ++ added keep [] w) ≡ added keep [] (applied (builder_of builders role) o (v ++ w))
operated_both Kept text builders role i c o v w h = ap (λ s. built (builder_of builders role).shape (encode_utf8_all s) (v ++ w) ∷ []) h
operated_both Hidden text builders role i c o v w h = refl

pub operated_one : (keep : Keep) (text : List ℕ) (builders : OperatorBuilders) (role : Role) (i c : ℕ) (o : Operator) (v : List Tree) → take c (drop i text) ≡ o.symbol →
    operated keep text builders role i c (added keep [] v) ≡ added keep [] (applied (builder_of builders role) o v)
operated_one Kept text builders role i c o v h = ap (λ s. built (builder_of builders role).shape (encode_utf8_all s) v ∷ []) h
operated_one Hidden text builders role i c o v h = refl

-- ---- turns

-- a run that stops went on here
pub record Goes (P : Program) (l : ℕ) (z t : State) : Type 0 where
  pub left : ℕ
  pub fewer : left < l
  pub on : run P left z ≡ Some t

-- by what the instruction does
pub went : (P : Program) (l : ℕ) (z y t : State) (i : Instruction) → slice_get P.plan.code z.pc ≡ Some i → act P z (Some i) ≡ goes y → run P l z ≡ Some t → Goes P l y t
went P l z y t i code does on =
    let u = turned P l z t i code on in
    let counted = u.counted in
    record { left = u.left; fewer = omega arith; on = ap (λ (w : Turn). on_turn w (λ y. run P u.left y)) (sym does) ∙ u.on }

-- how a run goes on after an outcome, in fewer turns
pub record Onto (P : Program) (l : ℕ) (keep : Keep) (end : ℕ) (k : List Frame) (x : Bool) (o : Outcome) (n : ℕ) (t : State) : Type 0 where
  pub left : ℕ
  pub most : left ≤ l
  pub on : onward P left keep end k [] x o n ≡ Some t

-- past an operator of another rank, at the end of code
pub passes_on : (P : Program) (q rank r l : ℕ) (s : Setting) (T : Table) (keep : Keep) (end : ℕ) (k : List Frame) (x : Bool) (o : Outcome) (n : ℕ) (t : State) →
    IsRowsOf P q s → slice_get P.plan.code end ≡ Some (Settle keep q rank) → suc rank ≤ r → IsOpen T r k → onward P l keep end k [] x o n ≡ Some t →
    Onto P l keep (end + 1) k x o n t
passes_on P q rank r l s T keep end k x (ok c b w u f) n t is code least wide on =
    let z : State = state end b k (added keep [] w) n (x || c) in
    let g = went P l z (state (end + 1) b k (added keep [] w) n (x || c)) t (Settle keep q rank) code
    (ap (λ (m : Option Node). by_builders m (λ builders. settled P.given keep builders rank z k)) is.node
    ∙ open_passes P.given keep s.builders T rank z k (open_lower T (suc rank) r k least wide)) on in
    let few = g.fewer in
    record { left = g.left; most = omega arith; on = g.on }
passes_on P q rank r l s T keep end k x (failed c e) n t is code least wide on = record { left = l; most = omega arith; on = on }
passes_on P q rank r l s T keep end k x empty_round n t is code least wide on = absurd (cc)

-- the operator that waits is applied to what was before it and what came after it
pub settles_on : (P : Program) (q rank l : ℕ) (s : Setting) (keep : Keep) (end : ℕ) (role : Role) (i c : ℕ) (p : Operator) (f v : List Tree) (T : Table) (k : List Frame)
    (x : Bool) (o : Outcome) (n : ℕ) (t : State) → IsRowsOf P q s → slice_get P.plan.code end ≡ Some (Settle keep q rank) →
    take c (drop i P.given.text) ≡ p.symbol → f ≡ added keep [] v → onward P l keep end (operates rank role i c f T ∷ k) [] x o n ≡ Some t →
    Onto P l keep end k x (as_applied (builder_of s.builders role) p v o) n t
settles_on P q rank l s keep end role i c p f v T k x (ok d b w u g) n t is code symbol same on =
    let z : State = state end b (operates rank role i c f T ∷ k) (added keep [] w) n (x || d) in
    let forest : operated keep P.given.text s.builders role i c (f ++ added keep [] w) ≡ added keep [] (applied (builder_of s.builders role) p (v ++ w)) =
    ap (λ h. operated keep P.given.text s.builders role i c (h ++ added keep [] w)) same ∙ operated_both keep P.given.text s.builders role i c p v w symbol in
    let y = went P l z (state end b k (operated keep P.given.text s.builders role i c (f ++ added keep [] w)) n (x || d)) t (Settle keep q rank) code
    (ap (λ (m : Option Node). by_builders m (λ builders. settled P.given keep builders rank z (operates rank role i c f T ∷ k))) is.node
    ∙ settles P.given keep s.builders rank z role i c f T k) on in
    let few = y.fewer in
    record {
      left = y.left;
      most = omega arith;
      on = same_run P y.left end b k (operated keep P.given.text s.builders role i c (f ++ added keep [] w))
          (added keep [] (applied (builder_of s.builders role) p (v ++ w))) n n (x || d) (x || d) t forest refl refl y.on;
    }
settles_on P q rank l s keep end role i c p f v T k x (failed d e) n t is code symbol same on = record { left = l; most = omega arith; on = on }
settles_on P q rank l s keep end role i c p f v T k x empty_round n t is code symbol same on = absurd (cc)

-- ---- reactions to outcomes go on as those do

pub on_stretch : (P : Program) (l : ℕ) (keep : Keep) (end : ℕ) (k : List Frame) (x : Bool) (n : ℕ) (t : State) (c : Bool) (i : List TrailItem) (e : Error) (o : Outcome) →
    onward P l keep end k [] (x || c) o n ≡ Some t → onward P l keep end k [] x (then_stretch c i e o) n ≡ Some t
on_stretch P l keep end k x n t c i e (ok d b w u g) h =
    same_run P l end b k (added keep [] w) (added keep [] w) n n ((x || c) || d) (x || (c || d)) t refl refl (or_assoc x c d) h
on_stretch P l keep end k x n t c i e (failed d g) h = same_back P l k n ((x || c) || d) (x || (c || d)) t (or_assoc x c d) h
on_stretch P l keep end k x n t c i e empty_round h = h

-- with the flag told in another way
pub same_flag : (P : Program) (l : ℕ) (keep : Keep) (end : ℕ) (k : List Frame) (n : ℕ) (t : State) (x y : Bool) (o : Outcome) → x ≡ y →
    onward P l keep end k [] x o n ≡ Some t → onward P l keep end k [] y o n ≡ Some t
same_flag P l keep end k n t x y o e h = ap (λ z. onward P l keep end k [] z o n) (sym e) ∙ h

-- after an operator, which consumes
pub on_operand : (P : Program) (l : ℕ) (keep : Keep) (end : ℕ) (k : List Frame) (x : Bool) (n : ℕ) (t : State) (side : Fixity) (q : Read) (o : Outcome) →
    onward P l keep end k [] true o n ≡ Some t → onward P l keep end k [] x (then_operand side q o) n ≡ Some t
on_operand P l keep end k x n t side q o h = on_stretch P l keep end k x n t true (noted_operator side q.operator) (no_messages_at q.end) o (same_flag P l keep end k n t true (x || true) o (or_true x) h)

pub on_labelled : (P : Program) (l : ℕ) (keep : Keep) (end : ℕ) (k : List Frame) (x : Bool) (n : ℕ) (t : State) (o : Outcome) →
    onward P l keep end k [] x o n ≡ Some t → onward P l keep end k [] x (labelled_operator o) n ≡ Some t
on_labelled P l keep end k x n t (ok c b v i e) h = h
on_labelled P l keep end k x n t (failed c e) h = h
on_labelled P l keep end k x n t empty_round h = h

-- what follows an operator stands, whatever else might have followed
pub on_ambiguous : (P : Program) (l : ℕ) (keep : Keep) (end : ℕ) (k : List Frame) (x : Bool) (n : ℕ) (t : State) (b : Spot) (w : List Tree) (e : Error) (q : Read) (o : Outcome) →
    onward P l keep end k [] x (then_operand fixity.Infix q o) n ≡ Some t →
    onward P l keep end k [] x (or_return b w (or_ambiguous e (then_operand fixity.Infix q o))) n ≡ Some t
on_ambiguous P l keep end k x n t b w e q (ok c d v i f) h = h
on_ambiguous P l keep end k x n t b w e q (failed c f) h = h
on_ambiguous P l keep end k x n t b w e q empty_round h = h
