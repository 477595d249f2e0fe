-- What the instructions do: a run is a number of turns at most, and may give up at each.
use Rattle.std.specs.Prelude.{◌+◌, ◌==◌, ℕ, zero, suc, List, [], ◌∷◌, ◌++◌, Bool, true, false, ◌||◌, ◌&&◌, Option, Some, None, length, take, drop, slice_get, if◌then◌else◌}
use Rattle.std.specs.Str.{encode_utf8_all}
use Rattle.pg_tree.specs.Trees.{Tree}
use Rattle.pg_tree.specs.Built.{built}
use Rattle.pg_grammar_form.specs.Forms.{Node}
use Rattle.pg_grammar_form.specs.declared.form.Form.TheVariants as form
use Rattle.pg_grammar_form.specs.declared.form.Leaf.TheVariants as leaf
use Rattle.pg_grammar_form.specs.declared.form.Around.{Around}
use Rattle.pg_grammar_form.specs.declared.decl.Role.{Role}
use Rattle.pg_grammar_form.specs.declared.decl.Role.TheVariants.{InfixLeft, InfixRight, InfixNone, Prefix, Postfix}
use Rattle.pg_grammar_form.specs.declared.operators_item.OperatorsItem.{OperatorsItem}
use Rattle.pg_grammar_form.specs.declared.used.BuilderUse.{BuilderUse}
use Rattle.pg_grammar_form.specs.declared.used.ChainBuilder.{ChainBuilder}
use Rattle.pg_grammar_form.specs.declared.used.OperatorBuilders.{OperatorBuilders}
use Rattle.pg_table.specs.Rows.{rows}
use Rattle.pg_table.specs.Tables.{Table}
use Rattle.pg_expand.specs.Rows.{of_role, row_numbered}
use Rattle.pg_language.specs.Answers.{Given}
use Rattle.pg_language.specs.Derives.{Spot, at, after, leaf_of, left_by, made_by}
use Rattle.pg_language.specs.Leaves.{leaf_outcome}
use Rattle.pg_language.specs.OperatorReads.{Read as OperatorRead, read_at}
use Rattle.pg_language.specs.Outcomes.{Outcome, ok, failed, empty_round}
use Rattle.pg_language.specs.Runs.{run_at}
use Rattle.pg_machine_plan.specs.Plans.{Program, chosen}
use Rattle.pg_machine_plan.specs.declared.instruction.Arm.{Arm}
use Rattle.pg_machine_plan.specs.declared.instruction.Instruction.{Instruction}
use Rattle.pg_machine_plan.specs.declared.instruction.Instruction.TheVariants.{Enter, Read, Span, Jump, Pick, Call, Return, Open, Close, Hold, Fold, Link, FoldLinks, Release, Rows, ReadPrefix, ReadPostfix, ReadInfix, Settle, Mark, Commit, Again, Fail, Stop}
use Rattle.pg_machine_plan.specs.declared.instruction.Keep.{Keep}
use Rattle.pg_machine_plan.specs.declared.instruction.Keep.TheVariants.{Kept, Hidden}

-- what waits: where a call returns; a form around a part, whether it counts what was consumed, and the forest, the spot and whether something was consumed
-- before it; the forest before a chain or an expression, and the table; an operator, with its rank, its role, where in the text its symbol stands, how long
-- it is, the forest before it, and the table where its expression began; or the same as of a form of a mark, with where to go on
pub data Frame : Type 0 where
  returns : (target : ℕ) → Frame
  encloses : (counts : Bool) (forest : List Tree) (spot : Spot) (taken : Bool) → Frame
  holds : (forest : List Tree) (table : Table) → Frame
  operates : (rank : ℕ) (role : Role) (place count : ℕ) (forest : List Tree) (table : Table) → Frame
  marks : (target : ℕ) (forest : List Tree) (spot : Spot) (taken : Bool) → Frame

-- the place in the code, the spot in the text, what waits, the forest since the last frame that has one, the nodes entered, and whether something was
-- consumed since the last frame that notes it
pub record State : Type 0 where
  pub pc : ℕ
  pub spot : Spot
  pub stack : List Frame
  pub forest : List Tree
  pub nodes : ℕ
  pub taken : Bool

abbrev pub state : ℕ → Spot → List Frame → List Tree → ℕ → Bool → State
state pc a k f n x = record { pc = pc; spot = a; stack = k; forest = f; nodes = n; taken = x }

-- what comes of a turn
pub data Turn : Type 0 where
  gives_up : Turn
  stops : State → Turn
  goes : State → Turn

-- ---- parts of turns

-- the forest with these trees after it, where trees are kept
abbrev pub added : Keep → List Tree → List Tree → List Tree
added Kept f v = f ++ v
added Hidden f v = f

-- a failure after so many nodes goes back over what waits, to the last mark after which nothing was consumed
abbrev pub back : Bool → ℕ → List Frame → Turn
back y n [] = gives_up
back y n (returns target ∷ k) = back y n k
back y n (encloses counts f a x ∷ k) = back (x || (counts && y)) n k
back y n (holds f T ∷ k) = back y n k
back y n (operates rank role i c f T ∷ k) = back y n k
back y n (marks target f a x ∷ k) = if y then back true n k else goes (state target a k f n x)

-- a leaf's outcome
abbrev pub has_read : Keep → State → Option Outcome → Turn
has_read keep s None = gives_up
has_read keep s (Some (ok c b v t e)) = goes (state (s.pc + 1) b s.stack (added keep s.forest v) (s.nodes + 1) (s.taken || c))
has_read keep s (Some (failed c e)) = back (s.taken || c) (s.nodes + 1) s.stack
has_read keep s (Some empty_round) = gives_up

-- what the leaf at a node takes
abbrev pub reads : Given → Keep → State → Option Node → Turn
reads G keep s None = gives_up
reads G keep s (Some (form.Leaf l)) = has_read keep s (leaf_outcome G.grammar G.text l s.spot)
reads G keep s (Some _) = gives_up

abbrev pub is_some_character : List ℕ → Bool
is_some_character [] = false
is_some_character (c ∷ cs) = true

-- characters, each of which is a leaf
abbrev pub leaves_of : List ℕ → List Tree
leaves_of [] = []
leaves_of (c ∷ cs) = leaf_of (c ∷ []) ∷ leaves_of cs

-- all of these were taken, one after another; a node more ends them, and one is around them
abbrev pub has_spanned : Keep → State → List ℕ → Turn
has_spanned keep s cs = goes (state (s.pc + 1) (after s.spot (length cs)) s.stack (added keep s.forest (leaves_of cs)) (s.nodes + (2 + length cs))
    (s.taken || is_some_character cs))

abbrev pub spans : Given → Keep → State → Option Node → Turn
spans G keep s None = gives_up
spans G keep s (Some (form.Leaf (leaf.Satisfy class))) = has_spanned keep s (run_at G.grammar G.text class s.spot.place)
spans G keep s (Some _) = gives_up

abbrev pub picked : State → Option Arm → Turn
picked s None = gives_up
picked s (Some arm) = goes (state arm.target s.spot s.stack s.forest (s.nodes + arm.nodes) s.taken)

abbrev pub returned : State → List Frame → Turn
returned s (returns target ∷ k) = goes (state target s.spot k s.forest s.nodes s.taken)
returned s _ = gives_up

-- the forest after a form around a part, from those before it and of the part
abbrev pub enclosed_forest : Keep → Around → List ℕ → ℕ → ℕ → List Tree → List Tree → List Tree
enclosed_forest keep k text from to f v = added keep f (made_by k text from to v)

abbrev pub closes : Given → Keep → Around → State → List Frame → Turn
closes G keep k s (encloses counts f a x ∷ frames) =
    goes (state (s.pc + 1) (left_by k a s.spot) frames (enclosed_forest keep k G.text a.place s.spot.place f s.forest) s.nodes (x || s.taken))
closes G keep k s _ = gives_up

abbrev pub closed : Given → Keep → State → Option Node → Turn
closed G keep s (Some (form.Around k p)) = closes G keep k s s.stack
closed G keep s _ = gives_up

-- the forest as one tree
abbrev pub folded_by : Keep → ChainBuilder → List Tree → List Tree
folded_by Kept used f = built used.shape [] f ∷ []
folded_by Hidden used f = f

abbrev pub folded : Keep → State → Option Node → Turn
folded keep s (Some (form.Chain side used p separator)) = goes (state (s.pc + 1) s.spot s.stack (folded_by keep used s.forest) s.nodes s.taken)
folded keep s _ = gives_up

abbrev pub released : State → List Frame → Turn
released s (holds f T ∷ k) = goes (state (s.pc + 1) s.spot k (f ++ s.forest) s.nodes s.taken)
released s _ = gives_up

-- ---- expressions

-- the table where the expression began
abbrev pub table_of : Spot → List Frame → Table
table_of a (holds f T ∷ k) = T
table_of a (operates rank role i c f T ∷ k) = T
table_of a _ = a.table

-- the operator of a row of a table, numbered from 0, and a role that is read at a place, if one is
abbrev pub read_by : Given → Table → ℕ → ℕ → Role → Option OperatorsItem → Option OperatorRead
read_by G table i row role None = None
read_by G table i row role (Some item) = read_at G.grammar G.text item (of_role role (row_numbered table.operators (suc row))) i

abbrev pub operator_at : Given → Table → ℕ → ℕ → Role → Option OperatorRead
operator_at G table i row role = read_by G table i row role G.grammar.operators

-- the builder of operators of a role
abbrev pub builder_of : OperatorBuilders → Role → BuilderUse
builder_of builders InfixLeft = builders.infix
builder_of builders InfixRight = builders.infix
builder_of builders InfixNone = builders.infix
builder_of builders Prefix = builders.prefix
builder_of builders Postfix = builders.postfix

-- the forest of an operator applied to a forest; its symbol is so many characters from a place on
abbrev pub operated : Keep → List ℕ → OperatorBuilders → Role → ℕ → ℕ → List Tree → List Tree
operated Kept text builders role i c f = built (builder_of builders role).shape (encode_utf8_all (take c (drop i text))) f ∷ []
operated Hidden text builders role i c f = f

abbrev pub begun : ℕ → State → Option OperatorsItem → Turn
begun count s None = gives_up
begun count s (Some item) = if length (rows s.spot.table.operators) == count
    then goes (state (s.pc + 1) s.spot (holds s.forest s.spot.table ∷ s.stack) [] (s.nodes + 1) s.taken) else gives_up

-- it goes on after so many instructions
abbrev pub passed : ℕ → State → Turn
passed n s = goes (state (s.pc + n) s.spot s.stack s.forest s.nodes s.taken)

-- an operator that was read waits
abbrev pub waits : ℕ → Role → State → OperatorRead → Turn
waits rank role s r =
    goes (state (s.pc + 1) (at s.spot r.end) (operates rank role s.spot.place (length r.operator.symbol) s.forest (table_of s.spot s.stack) ∷ s.stack) [] s.nodes true)

abbrev pub prefixed : ℕ → State → Option OperatorRead → Turn
prefixed row s None = passed 1 s
prefixed row s (Some r) = waits (row + row) Prefix s r

abbrev pub postfixed : Given → Keep → OperatorBuilders → State → Option OperatorRead → Turn
postfixed G keep builders s None = passed 1 s
postfixed G keep builders s (Some r) = goes (state (s.pc + 1) (at s.spot r.end) s.stack
    (operated keep G.text builders Postfix s.spot.place (length r.operator.symbol) s.forest) s.nodes true)

-- the operator that waits last is applied, if its rank is this
abbrev pub settled : Given → Keep → OperatorBuilders → ℕ → State → List Frame → Turn
settled G keep builders rank s (operates r role i c f T ∷ k) = if r == rank
    then goes (state s.pc s.spot k (operated keep G.text builders role i c (f ++ s.forest)) s.nodes s.taken) else passed 1 s
settled G keep builders rank s _ = passed 1 s

-- the role of the operator that waits last, if its rank is this
abbrev pub awaited : ℕ → List Frame → Option Role
awaited rank (operates r role i c f T ∷ k) = if r == rank then Some role else None
awaited rank _ = None

abbrev pub joined : ℕ → Role → State → Option OperatorRead → Turn
joined row role s None = passed 2 s
joined row role s (Some r) = waits (row + row + 1) role s r

-- the first operand of a row is followed by an operator that associates to the right, or else to the left, or else to neither side; where none follows,
-- nothing of the row waits
abbrev pub first_joined : ℕ → State → Option OperatorRead → Option OperatorRead → Option OperatorRead → Turn
first_joined row s (Some r) left non = waits (row + row + 1) InfixRight s r
first_joined row s None (Some r) non = waits (row + row + 1) InfixLeft s r
first_joined row s None None (Some r) = waits (row + row + 1) InfixNone s r
first_joined row s None None None = passed 3 s

-- another operator waits in the place of the one that waits last, which is applied
abbrev pub replaced : Given → Keep → OperatorBuilders → ℕ → State → OperatorRead → List Frame → Turn
replaced G keep builders row s r (operates rank role i c f T ∷ k) = goes (state (s.pc + 1) (at s.spot r.end)
    (operates (row + row + 1) InfixLeft s.spot.place (length r.operator.symbol) (operated keep G.text builders InfixLeft i c (f ++ s.forest)) T ∷ k) [] s.nodes true)
replaced G keep builders row s r _ = gives_up

abbrev pub left_joined : Given → Keep → OperatorBuilders → ℕ → State → Option OperatorRead → Turn
left_joined G keep builders row s None = passed 2 s
left_joined G keep builders row s (Some r) = replaced G keep builders row s r s.stack

-- the operator of the row and a role that is read
abbrev pub read_here : Given → State → ℕ → Role → Option OperatorRead
read_here G s row role = operator_at G (table_of s.spot s.stack) s.spot.place row role

-- what may follow an operand, by the operator of the row that waits before it
abbrev pub infixed : Given → Keep → OperatorBuilders → ℕ → State → Option Role → Turn
infixed G keep builders row s None =
    first_joined row s (read_here G s row InfixRight) (read_here G s row InfixLeft) (read_here G s row InfixNone)
infixed G keep builders row s (Some InfixRight) = joined row InfixRight s (read_here G s row InfixRight)
infixed G keep builders row s (Some InfixLeft) = left_joined G keep builders row s (read_here G s row InfixLeft)
infixed G keep builders row s (Some InfixNone) = passed 2 s
infixed G keep builders row s (Some Prefix) = gives_up
infixed G keep builders row s (Some Postfix) = gives_up

-- by the builders of the expression at a node
abbrev pub by_builders : Option Node → (OperatorBuilders → Turn) → Turn
by_builders (Some (form.Expression builders p)) turn = turn builders
by_builders _ turn = gives_up

-- ---- links of chains that are folded from the right

-- what is before an operand waits
abbrev pub linked : State → Turn
linked s = goes (state (s.pc + 1) s.spot (operates 0 InfixRight s.spot.place 0 s.forest s.spot.table ∷ s.stack) [] s.nodes s.taken)

-- what waits last becomes one tree with what is after it
abbrev pub unlinked : Keep → ChainBuilder → State → List Frame → Turn
unlinked keep used s (operates rank role i c f T ∷ k) = goes (state s.pc s.spot k (folded_by keep used (f ++ s.forest)) s.nodes s.taken)
unlinked keep used s _ = passed 1 s

abbrev pub links_folded : Keep → State → Option Node → Turn
links_folded keep s (Some (form.Chain side used p separator)) = unlinked keep used s s.stack
links_folded keep s _ = gives_up

-- ---- marks

abbrev pub committed : ℕ → State → List Frame → Turn
committed target s (marks other f a x ∷ k) = goes (state target s.spot k s.forest s.nodes (x || s.taken))
committed target s _ = gives_up

abbrev pub again : ℕ → State → Bool → Turn
again target s b = if b then committed target s s.stack else gives_up

-- ---- turns and runs

abbrev pub act : Program → State → Option Instruction → Turn
act P s None = gives_up
act P s (Some Enter) = goes (state (s.pc + 1) s.spot s.stack s.forest (s.nodes + 1) s.taken)
act P s (Some (Read keep p)) = reads P.given keep s (slice_get P.given.grammar.nodes p)
act P s (Some (Span keep p)) = spans P.given keep s (slice_get P.given.grammar.nodes p)
act P s (Some (Jump target)) = goes (state target s.spot s.stack s.forest s.nodes s.taken)
act P s (Some (Pick table)) = picked s (chosen P.plan table (slice_get P.given.text s.spot.place))
act P s (Some (Call target)) = goes (state target s.spot (returns (s.pc + 1) ∷ s.stack) s.forest (s.nodes + 1) s.taken)
act P s (Some Return) = returned s s.stack
act P s (Some (Open counts)) = goes (state (s.pc + 1) s.spot (encloses counts s.forest s.spot s.taken ∷ s.stack) [] (s.nodes + 1) false)
act P s (Some (Close keep q)) = closed P.given keep s (slice_get P.given.grammar.nodes q)
act P s (Some Hold) = goes (state (s.pc + 1) s.spot (holds s.forest s.spot.table ∷ s.stack) [] (s.nodes + 1) s.taken)
act P s (Some (Fold keep q)) = folded keep s (slice_get P.given.grammar.nodes q)
act P s (Some Release) = released s s.stack
act P s (Some Link) = linked s
act P s (Some (FoldLinks keep q)) = links_folded keep s (slice_get P.given.grammar.nodes q)
act P s (Some (Rows count)) = begun count s P.given.grammar.operators
act P s (Some (ReadPrefix row)) = prefixed row s (read_here P.given s row Prefix)
act P s (Some (ReadPostfix keep q row)) =
    by_builders (slice_get P.given.grammar.nodes q) (λ builders. postfixed P.given keep builders s (read_here P.given s row Postfix))
act P s (Some (ReadInfix keep q row)) =
    by_builders (slice_get P.given.grammar.nodes q) (λ builders. infixed P.given keep builders row s (awaited (row + row + 1) s.stack))
act P s (Some (Settle keep q rank)) = by_builders (slice_get P.given.grammar.nodes q) (λ builders. settled P.given keep builders rank s s.stack)
act P s (Some (Mark target)) = goes (state (s.pc + 1) s.spot (marks target s.forest s.spot s.taken ∷ s.stack) s.forest s.nodes false)
act P s (Some (Commit target)) = committed target s s.stack
act P s (Some (Again target)) = again target s s.taken
act P s (Some Fail) = back s.taken s.nodes s.stack
act P s (Some Stop) = if s.spot.place == length P.given.text then stops (record s { nodes = s.nodes + 1 }) else gives_up

abbrev pub on_turn : Turn → (State → Option State) → Option State
on_turn gives_up on = None
on_turn (stops s) on = Some s
on_turn (goes s) on = on s

-- the state in which a run of so many turns at most stops, if it does
abbrev pub run : Program → ℕ → State → Option State
run P zero s = None
run P (suc n) s = on_turn (act P s (slice_get P.plan.code s.pc)) (λ z. run P n z)
