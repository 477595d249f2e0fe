-- The effect of one task on what was derived so far.
use Rattle.std.specs.Prelude.{◌+◌, ◌-◌, ◌==◌, ◌&&◌, ◌||◌, not, if◌then◌else◌, ℕ, List, [], ◌∷◌, ◌++◌, Bool, true, false, Option, Some, None, slice_get, length, take, drop, set}
use Rattle.std.specs.List.{list_any}
use Rattle.std.specs.Str.{bytes_eq, encode_utf8_all}
use Rattle.pg_tree.specs.Trees.{Tree}
use Rattle.pg_tree.specs.Built.{built}
use Rattle.pg_tree.specs.declared.shape.Shape.{Shape}
use Rattle.pg_grammar_form.specs.ClassItems.{has_character}
use Rattle.pg_grammar_value.specs.Grammar.{Grammar}
use Rattle.pg_grammar_form.specs.Operators.{Operator}
use Rattle.pg_grammar_form.specs.Forms.{Node}
use Rattle.pg_grammar_form.specs.declared.class.ClassPart.{ClassPart}
use Rattle.pg_grammar_form.specs.declared.form.Form.TheVariants as form
use Rattle.pg_grammar_form.specs.declared.form.Leaf.{Leaf}
use Rattle.pg_grammar_form.specs.declared.form.Leaf.TheVariants as read
use Rattle.pg_grammar_form.specs.declared.form.Around.{Around}
use Rattle.pg_grammar_form.specs.declared.form.Around.TheVariants as kind
use Rattle.pg_grammar_form.specs.declared.side.Side.{Side}
use Rattle.pg_grammar_form.specs.declared.side.Side.TheVariants.{Left, Right}
use Rattle.pg_grammar_form.specs.declared.used.ChainBuilder.{ChainBuilder}
use Rattle.pg_grammar_form.specs.declared.used.OperatorBuilders.{OperatorBuilders}
use Rattle.pg_grammar_value.specs.declared.trail.AppliedOperator.{AppliedOperator}
use Rattle.pg_grammar_value.specs.declared.trail.Fixity.{Fixity}
use Rattle.pg_grammar_value.specs.declared.trail.Fixity.TheVariants as fixity
use Rattle.pg_grammar_form.specs.declared.operators_item.OperatorsItem.{OperatorsItem}
use Rattle.pg_grammar_form.specs.declared.word_item.WordItem.{WordItem}
use Rattle.pg_grammar_value.specs.declared.grammar.Rule as declared
use Rattle.pg_grammar_value.specs.declared.trail.TrailItem.{TrailItem}
use Rattle.pg_grammar_value.specs.declared.trail.TrailItem.TheVariants.{Alt, Rounds, Ops}
use Rattle.pg_table.specs.Tables.{Table, admit_fault, with_operator, first_operators}
use Rattle.pg_table.specs.declared.admit_fault.AdmitFault.{AdmitFault}
use Rattle.pg_expand_fitting.specs.Steps.{Step, a_term, a_symbol, an_application}
use Rattle.pg_expand_fitting.specs.Judge.{known_in, judgement}
use Rattle.pg_language.specs.Runs.{run_at, past_run, stands_at}
use Rattle.pg_language.specs.Declarations.{Declaration, no_keyword, no_digit, no_symbol, declared, declaration_at}
use Rattle.pg_language.specs.Derives.{leaf_of, declaration_tree, made_by}
use Rattle.pg_trail_replay.specs.declared.replay_fault.Mismatch.TheVariants.{ItemDiffers, TextDiffers, NotAdmitted}
pub use Rattle.pg_trail_replay.specs.States.{Looseness, tight, apart, only_text, dropped, Known, Chain, RoundStart, OnTask, node, parts, rounds, more_rounds, links, operand, linked, settle, fold, marked, operator_symbol, application, unmark, close, leave, Setting, under_marks, loosened, State, Turn, on, stops, ended, told, with_task, with_marks, with_loose, with_forest, with_entered, with_known, with_blank, after_item, moved_to, without_newest, with_tasks}
pub use Rattle.pg_trail_replay.specs.Loose.{as_kids, as_flat, as_joined, inside, inside_chain, inside_form, builder_on, newest_waiting, others_waiting, operands_waiting, waiting_before, waiting, covers, is_text, is_dropped, joins, flattens, is_steady, has_label, makes_node, leaves_out}

-- ---- leaves

-- how many characters a leaf consumes at a place, if it can read what stands there

abbrev pub next_in : Grammar → List ClassPart → Option ℕ → Bool
next_in g class None = false
next_in g class (Some c) = has_character g.classes class c

-- one character of the class
abbrev pub satisfied : Grammar → List ℕ → List ClassPart → ℕ → Option ℕ
satisfied g text class i = if next_in g class (slice_get text i) then Some 1 else None

-- the characters
abbrev pub spelled : List ℕ → List ℕ → ℕ → Option ℕ
spelled text s i = if stands_at text i s then Some (length s) else None

-- a word, unless it is reserved
abbrev pub unreserved : WordItem → List ℕ → Option ℕ
unreserved item s = if list_any (λ reserved. bytes_eq reserved s) item.reserved then None else Some (length s)

abbrev pub word_from : Grammar → List ℕ → WordItem → ℕ → Option ℕ → Option ℕ
word_from g text item i None = None
word_from g text item i (Some c) = if has_character g.classes item.head c then unreserved item (c ∷ run_at g text item.rest (i + 1)) else None

abbrev pub word_by : Grammar → List ℕ → ℕ → Option WordItem → Option ℕ
word_by g text i None = None
word_by g text i (Some item) = word_from g text item i (slice_get text i)

-- the leaf consumes this many characters, as one tree
abbrev pub takes : List ℕ → Option ℕ → State → Turn
takes text None s = stops TextDiffers s.place s.rest
takes text (Some n) s = on (with_forest (s.forest ++ leaf_of (take n (drop s.place text)) ∷ []) s.table (moved_to (s.place + n) s))

-- the leaf consumes nothing
abbrev pub stays_if : Bool → State → Turn
stays_if true s = on s
stays_if false s = stops TextDiffers s.place s.rest

-- a declaration up to a place, unless the table refuses it
abbrev pub declares : Operator → ℕ → Option AdmitFault → State → Turn
declares d j (Some fault) s = stops NotAdmitted s.place s.rest
declares d j None s = on (with_forest (s.forest ++ declaration_tree d ∷ []) (with_operator s.table d) (moved_to j s))

abbrev pub declared_turn : Declaration → State → Turn
declared_turn no_keyword s = stops TextDiffers s.place s.rest
declared_turn (no_digit i) s = stops TextDiffers s.place s.rest
declared_turn (no_symbol i) s = stops TextDiffers s.place s.rest
declared_turn (declared d i j) s = declares d j (admit_fault s.table d) s

abbrev pub declare_turn : Grammar → List ℕ → List ClassPart → Option OperatorsItem → State → Turn
declare_turn g text class None s = stops TextDiffers s.place s.rest
declare_turn g text class (Some item) s = declared_turn (declaration_at g text item class s.place) s

abbrev pub leaf_turn : Grammar → List ℕ → Leaf ℕ → State → Turn
leaf_turn g text (read.Satisfy class) s = takes text (satisfied g text class s.place) s
leaf_turn g text (read.String characters) s = takes text (spelled text characters s.place) s
leaf_turn g text (read.Word w) s = takes text (word_by g text s.place (slice_get g.words w)) s
leaf_turn g text (read.NotFollowedBy class) s = stays_if (not (next_in g class (slice_get text s.place))) s
leaf_turn g text read.EndOfText s = stays_if (s.place == length text) s
leaf_turn g text (read.Declare class) s = declare_turn g text class g.operators s

-- ---- forms

-- an alternative, if there is one
abbrev pub part_turn : Option ℕ → List TrailItem → State → Turn
part_turn None rest s = stops ItemDiffers s.place s.rest
part_turn (Some p) rest s = on (with_task (node p) (after_item rest s))

-- the alternative with this number, from 1
abbrev pub numbered_turn : List ℕ → ℕ → List TrailItem → State → Turn
numbered_turn ps k rest s = if k == 0 then stops ItemDiffers s.place s.rest else part_turn (slice_get ps (k - 1)) rest s

abbrev pub choice_turn : List ℕ → List TrailItem → State → Turn
choice_turn ps [] s = stops ItemDiffers s.place s.rest
choice_turn ps (Alt k ∷ rest) s = numbered_turn ps k rest s
choice_turn ps (Rounds n ∷ rest) s = stops ItemDiffers s.place s.rest
choice_turn ps (Ops o ∷ rest) s = stops ItemDiffers s.place s.rest

abbrev pub many_turn : ℕ → List TrailItem → State → Turn
many_turn p [] s = stops ItemDiffers s.place s.rest
many_turn p (Alt k ∷ rest) s = stops ItemDiffers s.place s.rest
many_turn p (Rounds n ∷ rest) s = on (with_task (rounds p n) (after_item rest s))
many_turn p (Ops o ∷ rest) s = stops ItemDiffers s.place s.rest

-- the first operand, and then the rounds
abbrev pub chain_turn : Chain → List TrailItem → State → Turn
chain_turn c [] s = stops ItemDiffers s.place s.rest
chain_turn c (Alt k ∷ rest) s = stops ItemDiffers s.place s.rest
chain_turn c (Rounds n ∷ rest) s =
    on (with_task (node c.part) (with_loose (inside_chain c n s.setting.loose) (with_task (links c n (length s.forest)) (with_task (settle s.setting.loose) (after_item rest s)))))
chain_turn c (Ops o ∷ rest) s = stops ItemDiffers s.place s.rest

-- ---- expressions

-- the task of a step; a term has the looseness of the newest operand after it
abbrev pub step_task : OperatorBuilders → ℕ → Looseness → Step → OnTask
step_task builders p l a_term = marked p l
step_task builders p l (a_symbol o) = operator_symbol o
step_task builders p l (an_application o) = application builders o

-- the tasks of the steps of an expression, each term with its looseness
abbrev pub step_tasks : OperatorBuilders → ℕ → List Step → List Looseness → List OnTask
step_tasks builders p [] ls = []
step_tasks builders p (step ∷ steps) ls = step_task builders p (newest_waiting (waiting builders steps ls)) step ∷ step_tasks builders p steps ls

-- the tasks come before the others
abbrev pub with_steps : OperatorBuilders → ℕ → List Step → List Looseness → State → State
with_steps builders p steps ls s = record { tasks = step_tasks builders p steps ls ++ s.tasks; place = s.place; table = s.table; forest = s.forest; rest = s.rest; entered = s.entered; setting = s.setting; known = s.known; blank = s.blank }

-- the steps of the tree that fits, if there is one
abbrev pub steps_turn : OperatorBuilders → ℕ → Option (List Step) → List TrailItem → State → Turn
steps_turn builders p None rest s = stops ItemDiffers s.place s.rest
steps_turn builders p (Some steps) rest s =
    on (with_steps builders p steps (s.setting.loose ∷ []) (with_task unmark (with_task (settle s.setting.loose) (after_item rest s))))

-- a grammar with operators looks for that tree
abbrev pub operators_turn : Option OperatorsItem → OperatorBuilders → ℕ → List AppliedOperator → List TrailItem → State → Turn
operators_turn None builders p read rest s = stops ItemDiffers s.place s.rest
operators_turn (Some item) builders p read rest s = steps_turn builders p (judgement (known_in s.table.operators) read) rest s

abbrev pub expression_turn : Grammar → OperatorBuilders → ℕ → List TrailItem → State → Turn
expression_turn g builders p [] s = stops ItemDiffers s.place s.rest
expression_turn g builders p (Alt k ∷ rest) s = stops ItemDiffers s.place s.rest
expression_turn g builders p (Rounds n ∷ rest) s = stops ItemDiffers s.place s.rest
expression_turn g builders p (Ops read ∷ rest) s = operators_turn g.operators builders p read rest s

-- the end of an operator with these characters, if one stands at the place
abbrev pub operator_end : Grammar → List ℕ → OperatorsItem → List ℕ → ℕ → Option ℕ
operator_end g text item characters i = if bytes_eq (run_at g text item.class i) characters then Some (past_run g text item.gap (i + length characters)) else None

abbrev pub ended_turn : Option ℕ → State → Turn
ended_turn None s = stops TextDiffers s.place s.rest
ended_turn (Some j) s = on (moved_to j s)

abbrev pub symbol_turn : Grammar → List ℕ → Option OperatorsItem → AppliedOperator → State → Turn
symbol_turn g text None o s = stops TextDiffers s.place s.rest
symbol_turn g text (Some item) o s = ended_turn (operator_end g text item o.symbol s.place) s

-- the newest, if there is one
abbrev pub first_mark : List ℕ → ℕ
first_mark [] = 0
first_mark (m ∷ marks) = m

-- an infix operator makes one operand of two
abbrev pub marks_after : Fixity → List ℕ → List ℕ
marks_after fixity.Prefix marks = marks
marks_after fixity.Infix marks = without_newest marks
marks_after fixity.Postfix marks = marks

-- the trees after the first ones built into one, with a symbol of these characters
abbrev pub built_after : Shape → List ℕ → ℕ → List Tree → List Tree
built_after shape characters trees forest = take trees forest ++ built shape (encode_utf8_all characters) (drop trees forest) ∷ []

-- the operands built into one
abbrev pub applied_after : OperatorBuilders → AppliedOperator → ℕ → List Tree → List Tree
applied_after builders o trees forest = built_after (builder_on o.fixity builders).shape o.symbol trees forest

-- the operator applied under these marks
abbrev pub applied_under : OperatorBuilders → AppliedOperator → List ℕ → State → State
applied_under builders o marks s = with_marks marks (with_forest (applied_after builders o (first_mark marks) s.forest) s.table s)

abbrev pub application_turn : OperatorBuilders → AppliedOperator → State → Turn
application_turn builders o s = on (applied_under builders o (marks_after o.fixity s.setting.marks) s)

-- ---- rules

-- whether the rule was entered since something was last consumed
abbrev pub is_entered : ℕ → List ℕ → Bool
is_entered r entered = list_any (λ q. q == r) entered

-- whether that place is this one
abbrev pub is_place : ℕ → Option (Option ℕ) → Bool
is_place i None = false
is_place i (Some None) = false
is_place i (Some (Some j)) = j == i

-- whether the body is known to consume nothing at this place, and to give only trees that can be left out
abbrev pub is_known_at : ℕ → Looseness → Option (Option Known) → Bool
is_known_at i loose None = false
is_known_at i loose (Some None) = false
is_known_at i loose (Some (Some known)) = (known.place == i) && covers known.loose loose

-- whether the rule's body is known to consume nothing here and to give only trees that can be left out
abbrev pub is_known : ℕ → State → Bool
is_known r s = is_known_at s.place s.setting.loose (slice_get s.known r)

-- a body that is known to consume nothing isn't replayed again
abbrev pub rule_turn : ℕ → Option declared.Rule → State → Turn
rule_turn r None s = stops ItemDiffers s.place s.rest
rule_turn r (Some named) s = if is_known r s then on s
    else if is_entered r s.entered then stops ItemDiffers s.place s.rest
    else on (with_task (node named.body) (with_task (leave r s.place (length s.forest) (length s.rest)) (with_entered (r ∷ s.entered) s)))

-- ---- forms around a part

-- a form that is known to consume nothing here and to make an empty leaf isn't replayed again
abbrev pub around_turn : Around → (node part : ℕ) → State → Turn
around_turn k p q s = if is_place s.place (slice_get s.blank p) then on (with_forest (s.forest ++ leaf_of [] ∷ []) s.table s)
    else on (with_task (node q) (with_loose (inside_form k s.setting.loose) (with_task (close k p s.place (length s.forest) (length s.table.operators) (length s.rest) s.setting.loose) s)))

-- whether the form makes an empty leaf from a part that consumes nothing
abbrev pub makes_empty_leaf : Around → Bool
makes_empty_leaf kind.Try = false
makes_empty_leaf kind.Text = true
makes_empty_leaf kind.Skip = false
makes_empty_leaf (kind.Build used symbol) = joins used.shape
makes_empty_leaf (kind.Label message) = false
makes_empty_leaf kind.Local = false

-- whether nothing was consumed since then
abbrev pub is_still : ℕ → ℕ → State → Bool
is_still place items s = (place == s.place) && (items == length s.rest)

-- what is known after the form at a node, whose part began there
abbrev pub blank_after : Around → (node place items : ℕ) → State → List (Option ℕ)
blank_after k p place items s = if makes_empty_leaf k && is_still place items s then set s.blank p (Some s.place) else s.blank

abbrev pub form_turn : Grammar → List ℕ → ℕ → Node → State → Turn
form_turn g text p (form.Leaf l) s = leaf_turn g text l s
form_turn g text p (form.Seq ps) s = on (with_task (parts ps) s)
form_turn g text p (form.Choice ps) s = choice_turn ps s.rest s
form_turn g text p (form.Many q) s = many_turn q s.rest s
form_turn g text p (form.Chain side used q r) s = chain_turn (record { side = side; used = used; part = q; separator = r }) s.rest s
form_turn g text p (form.Rule r) s = rule_turn r (slice_get g.rules r) s
form_turn g text p (form.Expression builders q) s = expression_turn g builders q s.rest s
form_turn g text p (form.Around k q) s = around_turn k p q s

abbrev pub node_turn : Grammar → List ℕ → ℕ → Option Node → State → Turn
node_turn g text p None s = stops ItemDiffers s.place s.rest
node_turn g text p (Some n) s = form_turn g text p n s

abbrev pub parts_turn : List ℕ → State → Turn
parts_turn [] s = on s
parts_turn (p ∷ ps) s = on (with_task (node p) (with_task (parts ps) s))

abbrev pub rounds_turn : ℕ → ℕ → State → Turn
rounds_turn p n s = if n == 0 then on s else on (with_task (node p) (with_task (more_rounds p (n - 1) s.place (length s.forest) (length s.rest)) s))

-- whether nothing was consumed since then, and no tree was given that can't be left out
abbrev pub is_unchanged : ℕ → ℕ → ℕ → State → Bool
is_unchanged place trees items s = is_still place items s && ((trees == length s.forest) || is_text s.setting.loose)

-- after a round that consumes and gives nothing the others are skipped, since they would do the same
abbrev pub more_turn : (part left place trees items : ℕ) → State → Turn
more_turn p n place trees items s = if is_unchanged place trees items s then on s else rounds_turn p n s

-- what is known about a body that consumed nothing, and gave a tree or not
abbrev pub known_now : ℕ → State → Known
known_now trees s = record { place = s.place; loose = if trees == length s.forest then s.setting.loose else only_text }

-- what is known after a body that began there
abbrev pub known_after : (rule place trees items : ℕ) → State → List (Option Known)
known_after r place trees items s = if is_still place items s then set s.known r (Some (known_now trees s)) else s.known

abbrev pub leave_turn : (rule place trees items : ℕ) → State → Turn
leave_turn r place trees items s = on (with_known (known_after r place trees items s) (with_entered (without_newest s.entered) s))

-- a round that begins here
abbrev pub round_start : State → RoundStart
round_start s = record { place = s.place; trees = length s.forest; items = length s.rest }

abbrev pub links_turn : Chain → ℕ → ℕ → State → Turn
links_turn c n trees s = if n == 0 then on s else on (with_task (node c.separator) (with_task (operand c (n - 1) trees (round_start s)) s))

abbrev pub operand_turn : Chain → ℕ → ℕ → RoundStart → State → Turn
operand_turn c n trees from s = on (with_task (node c.part) (with_task (linked c n trees (length s.forest) from) s))

-- in a left chain the operand is folded with all before it, and then the other rounds come; in a right chain these come first
abbrev pub with_links : Side → Chain → (left trees later : ℕ) → State → State
with_links Left c n trees later s = with_task (fold c.used trees) (with_task (links c n trees) s)
with_links Right c n trees later s = with_task (links c n later) (with_task (fold c.used trees) s)

-- whether a round that began there is idle: it consumed nothing, and gave no tree that can't be left out
abbrev pub is_idle : Shape → RoundStart → State → Bool
is_idle shape from s = is_steady shape s.setting.loose && is_unchanged from.place from.trees from.items s

-- after an idle round the others are skipped, since they add nothing either
abbrev pub linked_turn : Chain → (left trees later : ℕ) → RoundStart → State → Turn
linked_turn c n trees later from s = if is_idle c.used.shape from s then on (with_task (fold c.used trees) s) else on (with_links c.side c n trees later s)

-- the trees after the first ones built into one, without a symbol
abbrev pub folded_after : Shape → ℕ → List Tree → List Tree
folded_after shape trees forest = take trees forest ++ built shape [] (drop trees forest) ∷ []

abbrev pub fold_turn : ChainBuilder → ℕ → State → Turn
fold_turn used trees s = on (with_forest (folded_after used.shape trees s.forest) s.table s)

-- the table after a form around a part, with the number of operators before it
abbrev pub closed_table : Around → ℕ → Table → Table
closed_table kind.Try operators table = table
closed_table kind.Text operators table = table
closed_table kind.Skip operators table = table
closed_table (kind.Build used symbol) operators table = table
closed_table (kind.Label message) operators table = table
closed_table kind.Local operators table = first_operators operators table

-- the trees that the form makes from these, at this looseness
abbrev pub made_of : Around → Looseness → List ℕ → ℕ → ℕ → List Tree → List Tree
made_of k l text from to [] = if leaves_out k l then [] else made_by k text from to []
made_of k l text from to (t ∷ w) = made_by k text from to (t ∷ w)

-- the trees that the form gives: none if nothing of them reaches the result
abbrev pub given_by : Around → Looseness → List ℕ → ℕ → ℕ → List Tree → List Tree
given_by k l text from to w = if is_dropped l then [] else made_of k l text from to w

abbrev pub closed_forest : Around → Looseness → List ℕ → ℕ → ℕ → ℕ → List Tree → List Tree
closed_forest k l text from to trees forest = take trees forest ++ given_by k l text from to (drop trees forest)

abbrev pub close_turn : List ℕ → Around → (node place trees operators items : ℕ) → Looseness → State → Turn
close_turn text k p place trees operators items loose s =
    on (with_loose loose (with_blank (blank_after k p place items s) (with_forest (closed_forest k loose text place s.place trees s.forest) (closed_table k operators s.table) s)))

-- performing the task, with the other tasks left
abbrev pub turn : Grammar → List ℕ → OnTask → State → Turn
turn g text (node p) s = node_turn g text p (slice_get g.nodes p) s
turn g text (parts ps) s = parts_turn ps s
turn g text (rounds p n) s = rounds_turn p n s
turn g text (more_rounds p n place trees items) s = more_turn p n place trees items s
turn g text (links c n trees) s = links_turn c n trees s
turn g text (operand c n trees from) s = operand_turn c n trees from s
turn g text (linked c n trees later from) s = linked_turn c n trees later from s
turn g text (settle loose) s = on (with_loose loose s)
turn g text (fold used trees) s = fold_turn used trees s
turn g text (close k p place trees operators items loose) s = close_turn text k p place trees operators items loose s
turn g text (marked p l) s = on (with_task (node p) (with_loose l (with_marks (length s.forest ∷ s.setting.marks) s)))
turn g text (operator_symbol o) s = symbol_turn g text g.operators o s
turn g text (application builders o) s = application_turn builders o s
turn g text unmark s = on (with_marks (without_newest s.setting.marks) s)
turn g text (leave r place trees items) s = leave_turn r place trees items s

-- performing the next task
abbrev pub turn_by : Grammar → List ℕ → List OnTask → State → Turn
turn_by g text [] s = ended s
turn_by g text (t ∷ ts) s = turn g text t (with_tasks ts s)

abbrev pub next_turn : Grammar → List ℕ → State → Turn
next_turn g text s = turn_by g text s.tasks s
