-- The same turns with all trees in one list: frames note how many there were. Where a text declares an operator the run gives up, so one table is in force throughout.
use Rattle.std.specs.Prelude.{◌+◌, ◌==◌, ℕ, zero, suc, List, [], ◌∷◌, ◌++◌, Bool, true, false, ◌||◌, ◌&&◌, Option, Some, None, length, take, drop, slice_get, option_map, if◌then◌else◌}
use Rattle.std.specs.Str.{encode_utf8_all}
use Rattle.pg_tree.specs.Trees.{Tree}
use Rattle.pg_tree.specs.Built.{built}
use Rattle.pg_grammar_form.specs.Forms.{Node}
use Rattle.pg_grammar_form.specs.declared.form.Form.TheVariants as form
use Rattle.pg_grammar_form.specs.declared.form.Leaf.TheVariants as leaf
use Rattle.pg_grammar_form.specs.declared.form.Around.{Around}
use Rattle.pg_grammar_form.specs.declared.decl.Role.{Role}
use Rattle.pg_grammar_form.specs.declared.decl.Role.TheVariants.{InfixLeft, InfixRight, InfixNone, Prefix, Postfix}
use Rattle.pg_grammar_form.specs.declared.operators_item.OperatorsItem.{OperatorsItem}
use Rattle.pg_grammar_form.specs.declared.used.BuilderUse.{BuilderUse}
use Rattle.pg_grammar_form.specs.declared.used.ChainBuilder.{ChainBuilder}
use Rattle.pg_grammar_form.specs.declared.used.OperatorBuilders.{OperatorBuilders}
use Rattle.pg_table.specs.Rows.{rows}
use Rattle.pg_language.specs.Answers.{Given}
use Rattle.pg_language.specs.Derives.{Spot, made_by}
use Rattle.pg_language.specs.Leaves.{leaf_outcome}
use Rattle.pg_language.specs.OperatorReads.{Read as OperatorRead}
use Rattle.pg_language.specs.Outcomes.{Outcome, ok, failed, empty_round}
use Rattle.pg_language.specs.Runs.{run_at}
use Rattle.pg_table.specs.Tables.{Table}
use Rattle.pg_machine_plan.specs.Plans.{Program, chosen}
use Rattle.pg_machine_quick.specs.Turns.{added, is_some_character, leaves_of, builder_of, operator_at}
use Rattle.pg_machine_quick.specs.declared.frame.Before.{Before}
use Rattle.pg_machine_quick.specs.declared.frame.Frame.{Frame}
use Rattle.pg_machine_quick.specs.declared.frame.Frame.TheVariants.{Returns, Encloses, Holds, Operates, Marks}
use Rattle.pg_machine_quick.specs.declared.frame.Operation.{Operation}
use Rattle.pg_machine_quick.specs.declared.operators.Found.{Found}
use Rattle.pg_machine_plan.specs.declared.instruction.Arm.{Arm}
use Rattle.pg_machine_plan.specs.declared.instruction.Instruction.{Instruction}
use Rattle.pg_machine_plan.specs.declared.instruction.Instruction.TheVariants.{Enter, Read, Span, Jump, Pick, Call, Return, Open, Close, Hold, Fold, Link, FoldLinks, Release, Rows, ReadPrefix, ReadPostfix, ReadInfix, Settle, Mark, Commit, Again, Fail, Stop}
use Rattle.pg_machine_plan.specs.declared.instruction.Keep.{Keep}
use Rattle.pg_machine_plan.specs.declared.instruction.Keep.TheVariants.{Kept, Hidden}

-- the places in the code and in the text, what waits, all trees, the nodes entered, and whether something was consumed since the last frame that notes it
pub record Tape : Type 0 where
  pub pc : ℕ
  pub place : ℕ
  pub stack : List Frame
  pub trees : List Tree
  pub nodes : ℕ
  pub taken : Bool

abbrev pub tape : ℕ → ℕ → List Frame → List Tree → ℕ → Bool → Tape
tape pc i k f n x = record { pc = pc; place = i; stack = k; trees = f; nodes = n; taken = x }

pub data TapeTurn : Type 0 where
  tape_gives_up : TapeTurn
  tape_stops : Tape → TapeTurn
  tape_goes : Tape → TapeTurn

-- the spot at a place, with the one table
abbrev pub spot_at : Table → ℕ → Spot
spot_at table i = record { place = i; table = table }

-- how it was before, in a frame
abbrev pub before : ℕ → ℕ → Bool → Before
before trees place taken = record { trees = trees; place = place; taken = taken }

-- an operator that waits, in a frame
abbrev pub operation : ℕ → Role → ℕ → ℕ → ℕ → Operation
operation rank role place count trees = record { rank = rank; role = role; place = place; count = count; trees = trees }

-- a failure after so many nodes, with these trees
abbrev pub tape_back : Bool → ℕ → List Tree → List Frame → TapeTurn
tape_back y n f [] = tape_gives_up
tape_back y n f (Returns target ∷ k) = tape_back y n f k
tape_back y n f (Encloses counts b ∷ k) = tape_back (b.taken || (counts && y)) n f k
tape_back y n f (Holds count ∷ k) = tape_back y n f k
tape_back y n f (Operates o ∷ k) = tape_back y n f k
tape_back y n f (Marks target b ∷ k) = if y then tape_back true n f k else tape_goes (tape target b.place k (take b.trees f) n b.taken)

abbrev pub tape_has_read : Keep → Tape → Option Outcome → TapeTurn
tape_has_read keep s None = tape_gives_up
tape_has_read keep s (Some (ok c b v t e)) = tape_goes (tape (s.pc + 1) b.place s.stack (added keep s.trees v) (s.nodes + 1) (s.taken || c))
tape_has_read keep s (Some (failed c e)) = tape_back (s.taken || c) (s.nodes + 1) s.trees s.stack
tape_has_read keep s (Some empty_round) = tape_gives_up

-- a declaration fails, or the table would change
abbrev pub tape_declares : Tape → Option Outcome → TapeTurn
tape_declares s (Some (failed c e)) = tape_back (s.taken || c) (s.nodes + 1) s.trees s.stack
tape_declares s _ = tape_gives_up

abbrev pub tape_reads : Given → Table → Keep → Tape → Option Node → TapeTurn
tape_reads G table keep s (Some (form.Leaf (leaf.Declare class))) = tape_declares s (leaf_outcome G.grammar G.text (leaf.Declare class) (spot_at table s.place))
tape_reads G table keep s (Some (form.Leaf l)) = tape_has_read keep s (leaf_outcome G.grammar G.text l (spot_at table s.place))
tape_reads G table keep s _ = tape_gives_up

abbrev pub tape_has_spanned : Keep → Tape → List ℕ → TapeTurn
tape_has_spanned keep s cs = tape_goes (tape (s.pc + 1) (s.place + length cs) s.stack (added keep s.trees (leaves_of cs)) (s.nodes + (2 + length cs))
    (s.taken || is_some_character cs))

abbrev pub tape_spans : Given → Keep → Tape → Option Node → TapeTurn
tape_spans G keep s (Some (form.Leaf (leaf.Satisfy class))) = tape_has_spanned keep s (run_at G.grammar G.text class s.place)
tape_spans G keep s _ = tape_gives_up

abbrev pub tape_picked : Tape → Option Arm → TapeTurn
tape_picked s None = tape_gives_up
tape_picked s (Some arm) = tape_goes (tape arm.target s.place s.stack s.trees (s.nodes + arm.nodes) s.taken)

abbrev pub tape_returned : Tape → List Frame → TapeTurn
tape_returned s (Returns target ∷ k) = tape_goes (tape target s.place k s.trees s.nodes s.taken)
tape_returned s _ = tape_gives_up

-- a form around a part ends: the trees since it began are its part's
abbrev pub tape_ends : List ℕ → Keep → Around → Tape → List Frame → TapeTurn
tape_ends text keep kind s (Encloses counts b ∷ k) = tape_goes (tape (s.pc + 1) s.place k
    (added keep (take b.trees s.trees) (made_by kind text b.place s.place (drop b.trees s.trees))) s.nodes (b.taken || s.taken))
tape_ends text keep kind s _ = tape_gives_up

abbrev pub tape_closed : Given → Keep → Tape → Option Node → TapeTurn
tape_closed G keep s (Some (form.Around kind p)) = tape_ends G.text keep kind s s.stack
tape_closed G keep s _ = tape_gives_up

-- the trees after so many are one
abbrev pub tape_folded_by : Keep → ChainBuilder → ℕ → List Tree → List Tree
tape_folded_by Kept used count f = take count f ++ built used.shape [] (drop count f) ∷ []
tape_folded_by Hidden used count f = f

abbrev pub tape_folds : Keep → ChainBuilder → Tape → List Frame → TapeTurn
tape_folds keep used s (Holds count ∷ k) = tape_goes (tape (s.pc + 1) s.place s.stack (tape_folded_by keep used count s.trees) s.nodes s.taken)
tape_folds keep used s _ = tape_gives_up

abbrev pub tape_folded : Keep → Tape → Option Node → TapeTurn
tape_folded keep s (Some (form.Chain side used p separator)) = tape_folds keep used s s.stack
tape_folded keep s _ = tape_gives_up

abbrev pub tape_released : Tape → List Frame → TapeTurn
tape_released s (Holds count ∷ k) = tape_goes (tape (s.pc + 1) s.place k s.trees s.nodes s.taken)
tape_released s _ = tape_gives_up

-- ---- expressions

-- an operator that is read, as the code has it
abbrev pub found_of : OperatorRead → Found
found_of r = record { count = length r.operator.symbol; end = r.end }

-- the operator of a row, numbered from 0, and a role that is read at a place, if one is
abbrev pub found_at : Given → Table → ℕ → ℕ → Role → Option Found
found_at G table i row role = option_map found_of (operator_at G table i row role)

-- where the trees of the operand that is being read begin
abbrev pub begin_of : List Frame → Option ℕ
begin_of (Holds count ∷ k) = Some count
begin_of (Operates o ∷ k) = Some o.trees
begin_of _ = None

-- the trees after so many become one, with a symbol
abbrev pub tape_made : Keep → BuilderUse → List ℕ → ℕ → List Tree → List Tree
tape_made Kept used symbol n f = take n f ++ built used.shape (encode_utf8_all symbol) (drop n f) ∷ []
tape_made Hidden used symbol n f = f

-- the trees after so many are an operator's operands
abbrev pub tape_operated : Keep → List ℕ → OperatorBuilders → Role → ℕ → ℕ → ℕ → List Tree → List Tree
tape_operated keep text builders role i c n f = tape_made keep (builder_of builders role) (take c (drop i text)) n f

abbrev pub tape_begun : ℕ → Table → Tape → Option OperatorsItem → TapeTurn
tape_begun count table s None = tape_gives_up
tape_begun count table s (Some item) = if length (rows table.operators) == count
    then tape_goes (tape (s.pc + 1) s.place (Holds (length s.trees) ∷ s.stack) s.trees (s.nodes + 1) s.taken) else tape_gives_up

abbrev pub tape_passed : ℕ → Tape → TapeTurn
tape_passed n s = tape_goes (tape (s.pc + n) s.place s.stack s.trees s.nodes s.taken)

abbrev pub tape_waits : ℕ → Role → Tape → Found → TapeTurn
tape_waits rank role s r =
    tape_goes (tape (s.pc + 1) r.end (Operates (operation rank role s.place r.count (length s.trees)) ∷ s.stack) s.trees s.nodes true)

abbrev pub tape_prefixed : ℕ → Tape → Option Found → TapeTurn
tape_prefixed row s None = tape_passed 1 s
tape_prefixed row s (Some r) = tape_waits (row + row) Prefix s r

abbrev pub tape_affixed : List ℕ → Keep → OperatorBuilders → Tape → Found → Option ℕ → TapeTurn
tape_affixed text keep builders s r None = tape_gives_up
tape_affixed text keep builders s r (Some n) =
    tape_goes (tape (s.pc + 1) r.end s.stack (tape_operated keep text builders Postfix s.place r.count n s.trees) s.nodes true)

abbrev pub tape_postfixed : List ℕ → Keep → OperatorBuilders → Tape → Option Found → TapeTurn
tape_postfixed text keep builders s None = tape_passed 1 s
tape_postfixed text keep builders s (Some r) = tape_affixed text keep builders s r (begin_of s.stack)

-- an operator is applied that waited above these frames
abbrev pub tape_applied : List ℕ → Keep → OperatorBuilders → Operation → Tape → List Frame → Option ℕ → TapeTurn
tape_applied text keep builders o s k None = tape_gives_up
tape_applied text keep builders o s k (Some n) =
    tape_goes (tape s.pc s.place k (tape_operated keep text builders o.role o.place o.count n s.trees) s.nodes s.taken)

-- the operator that waits last
abbrev pub tape_last_applied : List ℕ → Keep → OperatorBuilders → Tape → List Frame → TapeTurn
tape_last_applied text keep builders s (Operates o ∷ k) = tape_applied text keep builders o s k (begin_of k)
tape_last_applied text keep builders s _ = tape_gives_up

-- the role of the operator that waits last, if its rank is this
abbrev pub tape_awaited : ℕ → List Frame → Option Role
tape_awaited rank (Operates o ∷ k) = if o.rank == rank then Some o.role else None
tape_awaited rank _ = None

abbrev pub tape_settled_as : List ℕ → Keep → OperatorBuilders → Tape → List Frame → Option Role → TapeTurn
tape_settled_as text keep builders s k None = tape_passed 1 s
tape_settled_as text keep builders s k (Some role) = tape_last_applied text keep builders s k

abbrev pub tape_settled : List ℕ → Keep → OperatorBuilders → ℕ → Tape → List Frame → TapeTurn
tape_settled text keep builders rank s k = tape_settled_as text keep builders s k (tape_awaited rank k)

abbrev pub tape_joined : ℕ → Role → Tape → Option Found → TapeTurn
tape_joined row role s None = tape_passed 2 s
tape_joined row role s (Some r) = tape_waits (row + row + 1) role s r

abbrev pub tape_first_joined : ℕ → Tape → Option Found → Option Found → Option Found → TapeTurn
tape_first_joined row s (Some r) left non = tape_waits (row + row + 1) InfixRight s r
tape_first_joined row s None (Some r) non = tape_waits (row + row + 1) InfixLeft s r
tape_first_joined row s None None (Some r) = tape_waits (row + row + 1) InfixNone s r
tape_first_joined row s None None None = tape_passed 3 s

-- another operator waits in the place of one that is applied
abbrev pub tape_replaced : List ℕ → Keep → OperatorBuilders → ℕ → Operation → Found → Tape → List Frame → Option ℕ → TapeTurn
tape_replaced text keep builders row o r s k None = tape_gives_up
tape_replaced text keep builders row o r s k (Some n) =
    tape_waits (row + row + 1) InfixLeft (record s { stack = k; trees = tape_operated keep text builders InfixLeft o.place o.count n s.trees }) r

abbrev pub tape_replaced_last : List ℕ → Keep → OperatorBuilders → ℕ → Tape → Found → List Frame → TapeTurn
tape_replaced_last text keep builders row s r (Operates o ∷ k) = tape_replaced text keep builders row o r s k (begin_of k)
tape_replaced_last text keep builders row s r _ = tape_gives_up

abbrev pub tape_left_joined : List ℕ → Keep → OperatorBuilders → ℕ → Tape → Option Found → TapeTurn
tape_left_joined text keep builders row s None = tape_passed 2 s
tape_left_joined text keep builders row s (Some r) = tape_replaced_last text keep builders row s r s.stack

abbrev pub tape_infixed : Given → Table → Keep → OperatorBuilders → ℕ → Tape → Option Role → TapeTurn
tape_infixed G table keep builders row s None =
    tape_first_joined row s (found_at G table s.place row InfixRight) (found_at G table s.place row InfixLeft) (found_at G table s.place row InfixNone)
tape_infixed G table keep builders row s (Some InfixRight) = tape_joined row InfixRight s (found_at G table s.place row InfixRight)
tape_infixed G table keep builders row s (Some InfixLeft) = tape_left_joined G.text keep builders row s (found_at G table s.place row InfixLeft)
tape_infixed G table keep builders row s (Some InfixNone) = tape_passed 2 s
tape_infixed G table keep builders row s (Some Prefix) = tape_gives_up
tape_infixed G table keep builders row s (Some Postfix) = tape_gives_up

abbrev pub tape_by_builders : Option Node → (OperatorBuilders → TapeTurn) → TapeTurn
tape_by_builders (Some (form.Expression builders p)) turn = turn builders
tape_by_builders _ turn = tape_gives_up

-- ---- links of chains that are folded from the right

abbrev pub tape_linked : Tape → TapeTurn
tape_linked s =
    tape_goes (tape (s.pc + 1) s.place (Operates (operation 0 InfixRight s.place 0 (length s.trees)) ∷ s.stack) s.trees s.nodes s.taken)

abbrev pub tape_unlinked_from : Keep → ChainBuilder → Tape → List Frame → Option ℕ → TapeTurn
tape_unlinked_from keep used s k None = tape_gives_up
tape_unlinked_from keep used s k (Some n) = tape_goes (tape s.pc s.place k (tape_folded_by keep used n s.trees) s.nodes s.taken)

-- what waits last
abbrev pub tape_last_unlinked : Keep → ChainBuilder → Tape → List Frame → TapeTurn
tape_last_unlinked keep used s (Operates o ∷ k) = tape_unlinked_from keep used s k (begin_of k)
tape_last_unlinked keep used s _ = tape_passed 1 s

abbrev pub tape_links_folded : Keep → Tape → Option Node → TapeTurn
tape_links_folded keep s (Some (form.Chain side used p separator)) = tape_last_unlinked keep used s s.stack
tape_links_folded keep s _ = tape_gives_up

-- ---- marks

abbrev pub tape_committed : ℕ → Tape → List Frame → TapeTurn
tape_committed target s (Marks other b ∷ k) = tape_goes (tape target s.place k s.trees s.nodes (b.taken || s.taken))
tape_committed target s _ = tape_gives_up

abbrev pub tape_again : ℕ → Tape → Bool → TapeTurn
tape_again target s b = if b then tape_committed target s s.stack else tape_gives_up

-- at the end of the text, with nothing waiting
abbrev pub tape_stopped : Tape → Bool → List Frame → TapeTurn
tape_stopped s at_end [] = if at_end then tape_stops (tape s.pc s.place [] s.trees (s.nodes + 1) s.taken) else tape_gives_up
tape_stopped s at_end (frame ∷ k) = tape_gives_up

abbrev pub tape_act : Program → Table → Tape → Option Instruction → TapeTurn
tape_act P table s None = tape_gives_up
tape_act P table s (Some Enter) = tape_goes (tape (s.pc + 1) s.place s.stack s.trees (s.nodes + 1) s.taken)
tape_act P table s (Some (Read keep p)) = tape_reads P.given table keep s (slice_get P.given.grammar.nodes p)
tape_act P table s (Some (Span keep p)) = tape_spans P.given keep s (slice_get P.given.grammar.nodes p)
tape_act P table s (Some (Jump target)) = tape_goes (tape target s.place s.stack s.trees s.nodes s.taken)
tape_act P table s (Some (Pick arms)) = tape_picked s (chosen P.plan arms (slice_get P.given.text s.place))
tape_act P table s (Some (Call target)) = tape_goes (tape target s.place (Returns (s.pc + 1) ∷ s.stack) s.trees (s.nodes + 1) s.taken)
tape_act P table s (Some Return) = tape_returned s s.stack
tape_act P table s (Some (Open counts)) =
    tape_goes (tape (s.pc + 1) s.place (Encloses counts (before (length s.trees) s.place s.taken) ∷ s.stack) s.trees (s.nodes + 1) false)
tape_act P table s (Some (Close keep q)) = tape_closed P.given keep s (slice_get P.given.grammar.nodes q)
tape_act P table s (Some Hold) = tape_goes (tape (s.pc + 1) s.place (Holds (length s.trees) ∷ s.stack) s.trees (s.nodes + 1) s.taken)
tape_act P table s (Some (Fold keep q)) = tape_folded keep s (slice_get P.given.grammar.nodes q)
tape_act P table s (Some Release) = tape_released s s.stack
tape_act P table s (Some Link) = tape_linked s
tape_act P table s (Some (FoldLinks keep q)) = tape_links_folded keep s (slice_get P.given.grammar.nodes q)
tape_act P table s (Some (Rows count)) = tape_begun count table s P.given.grammar.operators
tape_act P table s (Some (ReadPrefix row)) = tape_prefixed row s (found_at P.given table s.place row Prefix)
tape_act P table s (Some (ReadPostfix keep q row)) = tape_by_builders (slice_get P.given.grammar.nodes q)
    (λ builders. tape_postfixed P.given.text keep builders s (found_at P.given table s.place row Postfix))
tape_act P table s (Some (ReadInfix keep q row)) = tape_by_builders (slice_get P.given.grammar.nodes q)
    (λ builders. tape_infixed P.given table keep builders row s (tape_awaited (row + row + 1) s.stack))
tape_act P table s (Some (Settle keep q rank)) =
    tape_by_builders (slice_get P.given.grammar.nodes q) (λ builders. tape_settled P.given.text keep builders rank s s.stack)
tape_act P table s (Some (Mark target)) =
    tape_goes (tape (s.pc + 1) s.place (Marks target (before (length s.trees) s.place s.taken) ∷ s.stack) s.trees s.nodes false)
tape_act P table s (Some (Commit target)) = tape_committed target s s.stack
tape_act P table s (Some (Again target)) = tape_again target s s.taken
tape_act P table s (Some Fail) = tape_back s.taken s.nodes s.trees s.stack
tape_act P table s (Some Stop) = tape_stopped s (s.place == length P.given.text) s.stack

abbrev pub on_tape_turn : TapeTurn → (Tape → Option Tape) → Option Tape
on_tape_turn tape_gives_up on = None
on_tape_turn (tape_stops s) on = Some s
on_tape_turn (tape_goes s) on = on s

-- the tape with which a run of so many turns at most stops, if it does
abbrev pub tape_run : Program → Table → ℕ → Tape → Option Tape
tape_run P table zero s = None
tape_run P table (suc n) s = on_tape_turn (tape_act P table s (slice_get P.plan.code s.pc)) (λ z. tape_run P table n z)

-- with which the run over a whole text begins
abbrev pub first_tape : Program → Tape
first_tape P = tape P.plan.entry 0 (Returns 0 ∷ []) [] 0 false
