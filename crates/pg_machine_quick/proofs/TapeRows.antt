-- What the code of rows does to tapes: it does the same where all trees are in one list.
use Rattle.std.proofs.Common.{◌≡◌, ◌∙◌, ◌+◌, ◌==◌, ℕ, List, [], ◌∷◌, ◌++◌, Bool, true, false, refl, sym, ap, subst, Option, Some, None, length, take, drop, option_map, append_assoc, append-nil, if◌then◌else◌}
use Rattle.std.specs.Str.{encode_utf8_all}
use Rattle.pg_tree.specs.Trees.{Tree}
use Rattle.pg_tree.specs.Built.{built}
use Rattle.pg_grammar_form.specs.Forms.{Node}
use Rattle.pg_grammar_form.specs.declared.decl.Role.{Role}
use Rattle.pg_grammar_form.specs.declared.decl.Role.TheVariants.{InfixLeft, InfixRight, InfixNone, Prefix, Postfix}
use Rattle.pg_grammar_form.specs.declared.form.Form.TheVariants as form
use Rattle.pg_grammar_form.specs.declared.operators_item.OperatorsItem.{OperatorsItem}
use Rattle.pg_grammar_form.specs.declared.used.OperatorBuilders.{OperatorBuilders}
use Rattle.pg_language.specs.Answers.{Given}
use Rattle.pg_language.specs.Derives.{Spot, at}
use Rattle.pg_language.specs.OperatorReads.{Read}
use Rattle.pg_table.specs.Rows.{rows}
use Rattle.pg_table.specs.Tables.{Table}
use Rattle.pg_machine_quick.specs.Tape.{tape, tape_gives_up, tape_goes, operation, found_of, found_at, tape_operated, tape_begun, tape_passed, tape_waits, tape_prefixed, tape_postfixed, tape_affixed, begin_of, tape_applied, tape_settled_as, tape_settled, tape_awaited, tape_joined, tape_first_joined, tape_replaced, tape_replaced_last, tape_left_joined, tape_infixed, tape_by_builders}
use Rattle.pg_machine_quick.specs.Turns.{Frame, returns, encloses, holds, operates, marks, State, state, gives_up, goes, table_of, operator_at, read_here, builder_of, operated, begun, passed, waits, prefixed, postfixed, settled, awaited, joined, first_joined, replaced, left_joined, infixed, by_builders}
use Rattle.pg_machine_quick.specs.declared.frame.Frame.TheVariants.{Operates}
use Rattle.pg_machine_plan.specs.declared.instruction.Keep.{Keep}
use Rattle.pg_machine_plan.specs.declared.instruction.Keep.TheVariants.{Kept, Hidden}
use Rattle.pg_machine_quick.proofs.TapeStates.{below, waiting, flat, AreFine, IsFine, Follows, kept_front, dropped_front}

-- ---- trees

operated_trees : (keep : Keep) (text : List ℕ) (builders : OperatorBuilders) (role : Role) (i c : ℕ) (z f : List Tree) →
    tape_operated keep text builders role i c (length z) (z ++ f) ≡ z ++ operated keep text builders role i c f
operated_trees Kept text builders role i c z f =
    ap (λ v. v ++ built (builder_of builders role).shape (encode_utf8_all (take c (drop i text))) (drop (length z) (z ++ f)) ∷ []) (kept_front z f)
    ∙ ap (λ v. z ++ built (builder_of builders role).shape (encode_utf8_all (take c (drop i text))) v ∷ []) (dropped_front z f)
operated_trees Hidden text builders role i c z f = refl

applied_trees : (keep : Keep) (text : List ℕ) (builders : OperatorBuilders) (role : Role) (i c : ℕ) (z g f : List Tree) →
    tape_operated keep text builders role i c (length z) ((z ++ g) ++ f) ≡ z ++ operated keep text builders role i c (g ++ f)
applied_trees keep text builders role i c z g f =
    ap (tape_operated keep text builders role i c (length z)) (append_assoc z g f) ∙ operated_trees keep text builders role i c z (g ++ f)

-- ---- operators that are read

-- the table where an expression began is the one table
table_fine : (table : Table) (a : Spot) (g : List Tree) (k : List Frame) → a.table ≡ table → AreFine table g k → table_of a k ≡ table
table_fine table a g [] e h = e
table_fine table a g (returns target ∷ k) e h = e
table_fine table a g (encloses counts f b x ∷ k) e h = e
table_fine table a g (holds f T ∷ k) e h = h.0
table_fine table a g (operates rank role i c f T ∷ k) e h = h.0
table_fine table a g (marks target f b x ∷ k) e h = e

reads_same : (G : Given) (table : Table) (s : State) (row : ℕ) (role : Role) → IsFine table s → operator_at G table s.spot.place row role ≡ read_here G s row role
reads_same G table s row role fine =
    ap (λ (T : Table). operator_at G T s.spot.place row role) (sym (table_fine table s.spot s.forest s.stack fine.spot fine.stack))

-- ---- turns

pub passed_follows : (table : Table) (n : ℕ) (s : State) → IsFine table s → Follows table (tape_passed n (flat s)) (passed n s)
passed_follows table n s fine =
    (state (s.pc + n) s.spot s.stack s.forest s.nodes s.taken, refl, refl, record { spot = fine.spot; stack = fine.stack })

waits_follows : (table : Table) (rank : ℕ) (role : Role) (s : State) (r : Read) → IsFine table s → Follows table (tape_waits rank role (flat s) (found_of r)) (waits rank role s r)
waits_follows table rank role s r fine =
    let k : List Frame = operates rank role s.spot.place (length r.operator.symbol) s.forest (table_of s.spot s.stack) ∷ s.stack in (
      state (s.pc + 1) (at s.spot r.end) k [] s.nodes true,
      refl,
      ap (λ z. tape (s.pc + 1) r.end (waiting k) z s.nodes true) (sym (append-nil (below s.stack ++ s.forest))),
      record { spot = fine.spot; stack = (table_fine table s.spot s.forest s.stack fine.spot fine.stack, fine.stack) },
    )

begun_if : (table : Table) (s : State) (b : Bool) → IsFine table s →
    Follows table
    (if b then tape_goes (tape (s.pc + 1) s.spot.place (waiting (holds s.forest s.spot.table ∷ s.stack)) (below s.stack ++ s.forest) (s.nodes + 1) s.taken) else tape_gives_up)
    (if b then goes (state (s.pc + 1) s.spot (holds s.forest s.spot.table ∷ s.stack) [] (s.nodes + 1) s.taken) else gives_up)
begun_if table s true fine = (
  state (s.pc + 1) s.spot (holds s.forest s.spot.table ∷ s.stack) [] (s.nodes + 1) s.taken,
  refl,
  ap (λ z. tape (s.pc + 1) s.spot.place (waiting (holds s.forest s.spot.table ∷ s.stack)) z (s.nodes + 1) s.taken) (sym (append-nil (below s.stack ++ s.forest))),
  record { spot = fine.spot; stack = (fine.spot, fine.stack) },
)
begun_if table s false fine = tt

pub begun_follows : (table : Table) (count : ℕ) (s : State) (item : Option OperatorsItem) → IsFine table s → Follows table (tape_begun count table (flat s) item) (begun count s item)
begun_follows table count s None fine = tt
begun_follows table count s (Some item) fine =
    subst (λ (T : Table). Follows table (tape_begun count T (flat s) (Some item)) (begun count s (Some item))) fine.spot
    (begun_if table s (length (rows s.spot.table.operators) == count) fine)

prefix_by : (table : Table) (row : ℕ) (s : State) (o : Option Read) → IsFine table s → Follows table (tape_prefixed row (flat s) (option_map found_of o)) (prefixed row s o)
prefix_by table row s None fine = passed_follows table 1 s fine
prefix_by table row s (Some r) fine = waits_follows table (row + row) Prefix s r fine

pub prefix_follows : (G : Given) (table : Table) (row : ℕ) (s : State) → IsFine table s →
    Follows table (tape_prefixed row (flat s) (found_at G table s.spot.place row Prefix)) (prefixed row s (read_here G s row Prefix))
prefix_follows G table row s fine =
    subst (λ (o : Option Read). Follows table (tape_prefixed row (flat s) (found_at G table s.spot.place row Prefix)) (prefixed row s o)) (reads_same G table s row Prefix fine)
    (prefix_by table row s (operator_at G table s.spot.place row Prefix) fine)

-- ---- postfixes

affix_follows : (G : Given) (table : Table) (keep : Keep) (builders : OperatorBuilders) (r : Read) (pc : ℕ) (a : Spot) (k : List Frame) (f : List Tree) (n : ℕ) (x : Bool) →
    IsFine table (state pc a k f n x) →
    Follows table (tape_affixed G.text keep builders (flat (state pc a k f n x)) (found_of r) (begin_of (waiting k))) (postfixed G keep builders (state pc a k f n x) (Some r))
affix_follows G table keep builders r pc a [] f n x fine = tt
affix_follows G table keep builders r pc a (returns target ∷ k) f n x fine = tt
affix_follows G table keep builders r pc a (encloses counts g b y ∷ k) f n x fine = tt
affix_follows G table keep builders r pc a (holds g T ∷ k) f n x fine =
    let c : ℕ = length r.operator.symbol in (
      state (pc + 1) (at a r.end) (holds g T ∷ k) (operated keep G.text builders Postfix a.place c f) n true,
      refl,
      ap (λ z. tape (pc + 1) r.end (waiting (holds g T ∷ k)) z n true) (operated_trees keep G.text builders Postfix a.place c (below k ++ g) f),
      record { spot = fine.spot; stack = fine.stack },
    )
affix_follows G table keep builders r pc a (operates rank role i d g T ∷ k) f n x fine =
    let c : ℕ = length r.operator.symbol in (
      state (pc + 1) (at a r.end) (operates rank role i d g T ∷ k) (operated keep G.text builders Postfix a.place c f) n true,
      refl,
      ap (λ z. tape (pc + 1) r.end (waiting (operates rank role i d g T ∷ k)) z n true) (operated_trees keep G.text builders Postfix a.place c (below k ++ g) f),
      record { spot = fine.spot; stack = fine.stack },
    )
affix_follows G table keep builders r pc a (marks target g b y ∷ k) f n x fine = tt

postfix_by : (G : Given) (table : Table) (keep : Keep) (builders : OperatorBuilders) (s : State) (o : Option Read) → IsFine table s →
    Follows table (tape_postfixed G.text keep builders (flat s) (option_map found_of o)) (postfixed G keep builders s o)
postfix_by G table keep builders s None fine = passed_follows table 1 s fine
postfix_by G table keep builders s (Some r) fine = affix_follows G table keep builders r s.pc s.spot s.stack s.forest s.nodes s.taken fine

pub postfix_follows : (G : Given) (table : Table) (keep : Keep) (row : ℕ) (s : State) (n : Option Node) → IsFine table s →
    Follows table (tape_by_builders n (λ builders. tape_postfixed G.text keep builders (flat s) (found_at G table s.spot.place row Postfix)))
    (by_builders n (λ builders. postfixed G keep builders s (read_here G s row Postfix)))
postfix_follows G table keep row s None fine = tt
postfix_follows G table keep row s (Some (form.Leaf l)) fine = tt
postfix_follows G table keep row s (Some (form.Seq ps)) fine = tt
postfix_follows G table keep row s (Some (form.Choice ps)) fine = tt
postfix_follows G table keep row s (Some (form.Many p)) fine = tt
postfix_follows G table keep row s (Some (form.Chain side used p q)) fine = tt
postfix_follows G table keep row s (Some (form.Rule r)) fine = tt
postfix_follows G table keep row s (Some (form.Expression builders p)) fine =
    subst (λ (o : Option Read). Follows table (tape_postfixed G.text keep builders (flat s) (found_at G table s.spot.place row Postfix)) (postfixed G keep builders s o))
    (reads_same G table s row Postfix fine) (postfix_by G table keep builders s (operator_at G table s.spot.place row Postfix) fine)
postfix_follows G table keep row s (Some (form.Around k p)) fine = tt

-- ---- what waits is applied

applied_follows : (G : Given) (table : Table) (keep : Keep) (builders : OperatorBuilders) (rank : ℕ) (role : Role) (i c : ℕ) (g : List Tree) (T : Table) (pc : ℕ) (a : Spot)
    (k : List Frame) (f : List Tree) (n : ℕ) (x : Bool) → IsFine table (state pc a (operates rank role i c g T ∷ k) f n x) →
    Follows table (tape_applied G.text keep builders (operation rank role i c (length (below k ++ g))) (flat (state pc a (operates rank role i c g T ∷ k) f n x)) (waiting k) (begin_of (waiting k)))
    (goes (state pc a k (operated keep G.text builders role i c (g ++ f)) n x))
applied_follows G table keep builders rank role i c g T pc a [] f n x fine = tt
applied_follows G table keep builders rank role i c g T pc a (returns target ∷ k) f n x fine = tt
applied_follows G table keep builders rank role i c g T pc a (encloses counts h b y ∷ k) f n x fine = tt
applied_follows G table keep builders rank role i c g T pc a (holds h U ∷ k) f n x fine = (
  state pc a (holds h U ∷ k) (operated keep G.text builders role i c (g ++ f)) n x,
  refl,
  ap (λ z. tape pc a.place (waiting (holds h U ∷ k)) z n x) (applied_trees keep G.text builders role i c (below k ++ h) g f),
  record { spot = fine.spot; stack = fine.stack.1 },
)
applied_follows G table keep builders rank role i c g T pc a (operates r role' j d h U ∷ k) f n x fine = (
  state pc a (operates r role' j d h U ∷ k) (operated keep G.text builders role i c (g ++ f)) n x,
  refl,
  ap (λ z. tape pc a.place (waiting (operates r role' j d h U ∷ k)) z n x) (applied_trees keep G.text builders role i c (below k ++ h) g f),
  record { spot = fine.spot; stack = fine.stack.1 },
)
applied_follows G table keep builders rank role i c g T pc a (marks target h b y ∷ k) f n x fine = tt

settle_if : (G : Given) (table : Table) (keep : Keep) (builders : OperatorBuilders) (rank : ℕ) (role : Role) (i c : ℕ) (g : List Tree) (T : Table) (pc : ℕ) (a : Spot)
    (k : List Frame) (f : List Tree) (n : ℕ) (x b : Bool) → IsFine table (state pc a (operates rank role i c g T ∷ k) f n x) →
    Follows table (tape_settled_as G.text keep builders (flat (state pc a (operates rank role i c g T ∷ k) f n x)) (waiting (operates rank role i c g T ∷ k))
    (if b then Some role else None))
    (if b then goes (state pc a k (operated keep G.text builders role i c (g ++ f)) n x) else passed 1 (state pc a (operates rank role i c g T ∷ k) f n x))
settle_if G table keep builders rank role i c g T pc a k f n x true fine = applied_follows G table keep builders rank role i c g T pc a k f n x fine
settle_if G table keep builders rank role i c g T pc a k f n x false fine = passed_follows table 1 (state pc a (operates rank role i c g T ∷ k) f n x) fine

settle_by : (G : Given) (table : Table) (keep : Keep) (builders : OperatorBuilders) (rank pc : ℕ) (a : Spot) (k : List Frame) (f : List Tree) (n : ℕ) (x : Bool) →
    IsFine table (state pc a k f n x) →
    Follows table (tape_settled G.text keep builders rank (flat (state pc a k f n x)) (waiting k)) (settled G keep builders rank (state pc a k f n x) k)
settle_by G table keep builders rank pc a [] f n x fine = passed_follows table 1 (state pc a [] f n x) fine
settle_by G table keep builders rank pc a (returns target ∷ k) f n x fine = passed_follows table 1 (state pc a (returns target ∷ k) f n x) fine
settle_by G table keep builders rank pc a (encloses counts g b y ∷ k) f n x fine = passed_follows table 1 (state pc a (encloses counts g b y ∷ k) f n x) fine
settle_by G table keep builders rank pc a (holds g T ∷ k) f n x fine = passed_follows table 1 (state pc a (holds g T ∷ k) f n x) fine
settle_by G table keep builders rank pc a (operates r role i c g T ∷ k) f n x fine = settle_if G table keep builders r role i c g T pc a k f n x (r == rank) fine
settle_by G table keep builders rank pc a (marks target g b y ∷ k) f n x fine = passed_follows table 1 (state pc a (marks target g b y ∷ k) f n x) fine

pub settle_follows : (G : Given) (table : Table) (keep : Keep) (rank : ℕ) (s : State) (n : Option Node) → IsFine table s →
    Follows table (tape_by_builders n (λ builders. tape_settled G.text keep builders rank (flat s) (waiting s.stack))) (by_builders n (λ builders. settled G keep builders rank s s.stack))
settle_follows G table keep rank s None fine = tt
settle_follows G table keep rank s (Some (form.Leaf l)) fine = tt
settle_follows G table keep rank s (Some (form.Seq ps)) fine = tt
settle_follows G table keep rank s (Some (form.Choice ps)) fine = tt
settle_follows G table keep rank s (Some (form.Many p)) fine = tt
settle_follows G table keep rank s (Some (form.Chain side used p q)) fine = tt
settle_follows G table keep rank s (Some (form.Rule r)) fine = tt
settle_follows G table keep rank s (Some (form.Expression builders p)) fine = settle_by G table keep builders rank s.pc s.spot s.stack s.forest s.nodes s.taken fine
settle_follows G table keep rank s (Some (form.Around k p)) fine = tt

-- ---- infix operators

joined_by : (table : Table) (row : ℕ) (role : Role) (s : State) (o : Option Read) → IsFine table s → Follows table (tape_joined row role (flat s) (option_map found_of o)) (joined row role s o)
joined_by table row role s None fine = passed_follows table 2 s fine
joined_by table row role s (Some r) fine = waits_follows table (row + row + 1) role s r fine

first_by : (table : Table) (row : ℕ) (s : State) (right left non : Option Read) → IsFine table s →
    Follows table (tape_first_joined row (flat s) (option_map found_of right) (option_map found_of left) (option_map found_of non)) (first_joined row s right left non)
first_by table row s (Some r) left non fine = waits_follows table (row + row + 1) InfixRight s r fine
first_by table row s None (Some r) non fine = waits_follows table (row + row + 1) InfixLeft s r fine
first_by table row s None None (Some r) fine = waits_follows table (row + row + 1) InfixNone s r fine
first_by table row s None None None fine = passed_follows table 3 s fine

-- trees of an operator, and another one that waits after them
replaced_tape : (keep : Keep) (text : List ℕ) (builders : OperatorBuilders) (row i c j d pc : ℕ) (r : Read) (T : Table) (k : List Frame) (g f : List Tree) (n : ℕ) →
    tape (pc + 1) r.end (Operates (operation (row + row + 1) InfixLeft j d (length (tape_operated keep text builders InfixLeft i c (length (below k)) ((below k ++ g) ++ f)))) ∷ waiting k)
    (tape_operated keep text builders InfixLeft i c (length (below k)) ((below k ++ g) ++ f)) n true ≡
    tape (pc + 1) r.end (waiting (operates (row + row + 1) InfixLeft j d (operated keep text builders InfixLeft i c (g ++ f)) T ∷ k))
    (below (operates (row + row + 1) InfixLeft j d (operated keep text builders InfixLeft i c (g ++ f)) T ∷ k) ++ []) n true
replaced_tape keep text builders row i c j d pc r T k g f n =
    ap (λ z. tape (pc + 1) r.end (Operates (operation (row + row + 1) InfixLeft j d (length z)) ∷ waiting k) z n true) (applied_trees keep text builders InfixLeft i c (below k) g f)
    ∙ ap (λ z. tape (pc + 1) r.end (waiting (operates (row + row + 1) InfixLeft j d (operated keep text builders InfixLeft i c (g ++ f)) T ∷ k)) z n true)
    (sym (append-nil (below k ++ operated keep text builders InfixLeft i c (g ++ f))))

replaced_above : (G : Given) (table : Table) (keep : Keep) (builders : OperatorBuilders) (row rank : ℕ) (role : Role) (i c : ℕ) (g : List Tree) (T : Table) (r : Read) (pc : ℕ)
    (a : Spot) (k : List Frame) (f : List Tree) (n : ℕ) (x : Bool) → IsFine table (state pc a (operates rank role i c g T ∷ k) f n x) →
    Follows table (tape_replaced G.text keep builders row (operation rank role i c (length (below k ++ g))) (found_of r) (flat (state pc a (operates rank role i c g T ∷ k) f n x)) (waiting k)
    (begin_of (waiting k)))
    (replaced G keep builders row (state pc a (operates rank role i c g T ∷ k) f n x) r (operates rank role i c g T ∷ k))
replaced_above G table keep builders row rank role i c g T r pc a [] f n x fine = tt
replaced_above G table keep builders row rank role i c g T r pc a (returns target ∷ k) f n x fine = tt
replaced_above G table keep builders row rank role i c g T r pc a (encloses counts h b y ∷ k) f n x fine = tt
replaced_above G table keep builders row rank role i c g T r pc a (holds h U ∷ k) f n x fine = (
  state (pc + 1) (at a r.end) (operates (row + row + 1) InfixLeft a.place (length r.operator.symbol) (operated keep G.text builders InfixLeft i c (g ++ f)) T ∷ holds h U ∷ k) [] n true,
  refl,
  replaced_tape keep G.text builders row i c a.place (length r.operator.symbol) pc r T (holds h U ∷ k) g f n,
  record { spot = fine.spot; stack = (fine.stack.0, fine.stack.1) },
)
replaced_above G table keep builders row rank role i c g T r pc a (operates rank' role' j d h U ∷ k) f n x fine = (
  state (pc + 1) (at a r.end)
      (operates (row + row + 1) InfixLeft a.place (length r.operator.symbol) (operated keep G.text builders InfixLeft i c (g ++ f)) T ∷ operates rank' role' j d h U ∷ k) [] n true,
  refl,
  replaced_tape keep G.text builders row i c a.place (length r.operator.symbol) pc r T (operates rank' role' j d h U ∷ k) g f n,
  record { spot = fine.spot; stack = (fine.stack.0, fine.stack.1) },
)
replaced_above G table keep builders row rank role i c g T r pc a (marks target h b y ∷ k) f n x fine = tt

replaced_by : (G : Given) (table : Table) (keep : Keep) (builders : OperatorBuilders) (row : ℕ) (r : Read) (pc : ℕ) (a : Spot) (k : List Frame) (f : List Tree) (n : ℕ) (x : Bool) →
    IsFine table (state pc a k f n x) →
    Follows table (tape_replaced_last G.text keep builders row (flat (state pc a k f n x)) (found_of r) (waiting k)) (replaced G keep builders row (state pc a k f n x) r k)
replaced_by G table keep builders row r pc a [] f n x fine = tt
replaced_by G table keep builders row r pc a (returns target ∷ k) f n x fine = tt
replaced_by G table keep builders row r pc a (encloses counts g b y ∷ k) f n x fine = tt
replaced_by G table keep builders row r pc a (holds g T ∷ k) f n x fine = tt
replaced_by G table keep builders row r pc a (operates rank role i c g T ∷ k) f n x fine = replaced_above G table keep builders row rank role i c g T r pc a k f n x fine
replaced_by G table keep builders row r pc a (marks target g b y ∷ k) f n x fine = tt

left_by : (G : Given) (table : Table) (keep : Keep) (builders : OperatorBuilders) (row : ℕ) (s : State) (o : Option Read) → IsFine table s →
    Follows table (tape_left_joined G.text keep builders row (flat s) (option_map found_of o)) (left_joined G keep builders row s o)
left_by G table keep builders row s None fine = passed_follows table 2 s fine
left_by G table keep builders row s (Some r) fine = replaced_by G table keep builders row r s.pc s.spot s.stack s.forest s.nodes s.taken fine

infix_by : (G : Given) (table : Table) (keep : Keep) (builders : OperatorBuilders) (row : ℕ) (s : State) (w : Option Role) → IsFine table s →
    Follows table (tape_infixed G table keep builders row (flat s) w) (infixed G keep builders row s w)
infix_by G table keep builders row s None fine =
    subst (λ (o : Option Read). Follows table (tape_infixed G table keep builders row (flat s) None)
    (first_joined row s o (read_here G s row InfixLeft) (read_here G s row InfixNone))) (reads_same G table s row InfixRight fine)
    (subst (λ (o : Option Read). Follows table (tape_infixed G table keep builders row (flat s) None)
    (first_joined row s (operator_at G table s.spot.place row InfixRight) o (read_here G s row InfixNone))) (reads_same G table s row InfixLeft fine)
    (subst (λ (o : Option Read). Follows table (tape_infixed G table keep builders row (flat s) None)
    (first_joined row s (operator_at G table s.spot.place row InfixRight) (operator_at G table s.spot.place row InfixLeft) o)) (reads_same G table s row InfixNone fine)
    (first_by table row s (operator_at G table s.spot.place row InfixRight) (operator_at G table s.spot.place row InfixLeft) (operator_at G table s.spot.place row InfixNone) fine)))
infix_by G table keep builders row s (Some InfixRight) fine =
    subst (λ (o : Option Read). Follows table (tape_infixed G table keep builders row (flat s) (Some InfixRight)) (joined row InfixRight s o)) (reads_same G table s row InfixRight fine)
    (joined_by table row InfixRight s (operator_at G table s.spot.place row InfixRight) fine)
infix_by G table keep builders row s (Some InfixLeft) fine =
    subst (λ (o : Option Read). Follows table (tape_infixed G table keep builders row (flat s) (Some InfixLeft)) (left_joined G keep builders row s o))
    (reads_same G table s row InfixLeft fine) (left_by G table keep builders row s (operator_at G table s.spot.place row InfixLeft) fine)
infix_by G table keep builders row s (Some InfixNone) fine = passed_follows table 2 s fine
infix_by G table keep builders row s (Some Prefix) fine = tt
infix_by G table keep builders row s (Some Postfix) fine = tt

awaits_same : (rank : ℕ) (k : List Frame) → awaited rank k ≡ tape_awaited rank (waiting k)
awaits_same rank [] = refl
awaits_same rank (returns target ∷ k) = refl
awaits_same rank (encloses counts f a x ∷ k) = refl
awaits_same rank (holds f T ∷ k) = refl
awaits_same rank (operates r role i c f T ∷ k) = refl
awaits_same rank (marks target f a x ∷ k) = refl

pub infix_follows : (G : Given) (table : Table) (keep : Keep) (row : ℕ) (s : State) (n : Option Node) → IsFine table s →
    Follows table (tape_by_builders n (λ builders. tape_infixed G table keep builders row (flat s) (tape_awaited (row + row + 1) (waiting s.stack))))
    (by_builders n (λ builders. infixed G keep builders row s (awaited (row + row + 1) s.stack)))
infix_follows G table keep row s None fine = tt
infix_follows G table keep row s (Some (form.Leaf l)) fine = tt
infix_follows G table keep row s (Some (form.Seq ps)) fine = tt
infix_follows G table keep row s (Some (form.Choice ps)) fine = tt
infix_follows G table keep row s (Some (form.Many p)) fine = tt
infix_follows G table keep row s (Some (form.Chain side used p q)) fine = tt
infix_follows G table keep row s (Some (form.Rule r)) fine = tt
infix_follows G table keep row s (Some (form.Expression builders p)) fine =
    subst (λ (w : Option Role). Follows table (tape_infixed G table keep builders row (flat s) w) (infixed G keep builders row s (awaited (row + row + 1) s.stack)))
    (awaits_same (row + row + 1) s.stack) (infix_by G table keep builders row s (awaited (row + row + 1) s.stack) fine)
infix_follows G table keep row s (Some (form.Around k p)) fine = tt
