-- The state of a replay: a list of tasks, and what was derived before.
use Rattle.std.specs.Prelude.{◌==◌, if◌then◌else◌, ℕ, List, [], ◌∷◌, Option, None, Some}
use Rattle.pg_tree.specs.Trees.{Tree}
use Rattle.pg_grammar_form.specs.declared.form.Around.{Around}
use Rattle.pg_grammar_form.specs.declared.side.Side.{Side}
use Rattle.pg_grammar_form.specs.declared.used.ChainBuilder.{ChainBuilder}
use Rattle.pg_grammar_form.specs.declared.used.OperatorBuilders.{OperatorBuilders}
use Rattle.pg_grammar_value.specs.declared.trail.AppliedOperator.{AppliedOperator}
use Rattle.pg_grammar_value.specs.declared.trail.TrailItem.{TrailItem}
use Rattle.pg_table.specs.Tables.{Table}
use Rattle.pg_trail_replay.specs.declared.replay_fault.Mismatch.{Mismatch}
use Rattle.pg_trail_replay.specs.declared.task.Halt.{Halt}
use Rattle.pg_trail_replay.specs.declared.task.Halt.TheVariants.{Stopped, Ended}

-- the looseness of trees: how much of them reaches the result when they belong to other trees
pub data Looseness : Type 0 where
  -- the trees themselves
  tight : Looseness
  -- trees with the label are replaced by their kids, as they are flattened
  apart : (label : List ℕ) → Looseness
  -- only their text, so a tree without text can be left out
  only_text : Looseness
  -- nothing, so that all of them can be left out
  dropped : Looseness

-- the place where a rule's body consumed nothing, and a looseness at which its trees can be left out
pub record Known : Type 0 where
  pub place : ℕ
  pub loose : Looseness

-- a chain: the side from which it is folded, the builder, the operand and the separator
pub record Chain : Type 0 where
  pub side : Side
  pub used : ChainBuilder
  pub part : ℕ
  pub separator : ℕ

-- where a round of a chain begins: the place, the number of trees before it, and the number of items left
pub record RoundStart : Type 0 where
  pub place : ℕ
  pub trees : ℕ
  pub items : ℕ

pub data OnTask : Type 0 where
  -- a node
  node : ℕ → OnTask
  -- the parts of a sequence
  parts : List ℕ → OnTask
  -- rounds of a node
  rounds : (part left : ℕ) → OnTask
  -- remaining rounds, after one that began at the place, with this many trees before it and this many items left
  more_rounds : (part left place trees items : ℕ) → OnTask
  -- rounds of a chain, a separator and an operand each; the trees to fold come after the first `trees`
  links : Chain → (left trees : ℕ) → OnTask
  -- the operand after a separator, in a round that began there, and then the remaining rounds
  operand : Chain → (left trees : ℕ) → RoundStart → OnTask
  -- folding after an operand of a round that began there, and the remaining rounds, whose trees in a right chain come after the first `later`
  linked : Chain → (left trees later : ℕ) → RoundStart → OnTask
  -- sets the looseness from here on
  settle : Looseness → OnTask
  -- builds the trees after the first `trees` into one
  fold : ChainBuilder → (trees : ℕ) → OnTask
  -- a term of an expression with this looseness, whose trees begin the next operand
  marked : ℕ → Looseness → OnTask
  -- the symbol of an operator
  operator_symbol : AppliedOperator → OnTask
  -- applies the operator to the trees of its operands
  application : OperatorBuilders → AppliedOperator → OnTask
  -- ends the expression, of which only the last operand is left
  unmark : OnTask
  -- closes the form at a node after its part, which began at the place, with this many trees and operators before it and this many items left;
  -- then sets the looseness
  close : Around → (node place trees operators items : ℕ) → Looseness → OnTask
  -- ends the body of a rule, which began at the place, with this many trees before it and this many items left
  leave : (rule place trees items : ℕ) → OnTask

-- the context of the node that is replayed
pub record Setting : Type 0 where
  -- the number of trees before each operand that hasn't been applied yet, the newest first
  pub marks : List ℕ
  -- the looseness of the trees
  pub loose : Looseness

abbrev pub under_marks : List ℕ → Setting → Setting
under_marks marks m = record { marks = marks; loose = m.loose }

abbrev pub loosened : Looseness → Setting → Setting
loosened loose m = record { marks = m.marks; loose = loose }

-- the tasks, the next one first; the place and the table; the forest so far; the items left; the rules entered since something was
-- last consumed, the newest first; the context of the next task; for each rule where its body was last found to consume nothing, if it was; and for each
-- node the place where its form was last found to consume nothing and to make an empty leaf, if it was
pub record State : Type 0 where
  pub tasks : List OnTask
  pub place : ℕ
  pub table : Table
  pub forest : List Tree
  pub rest : List TrailItem
  pub entered : List ℕ
  pub setting : Setting
  pub known : List (Option Known)
  pub blank : List (Option ℕ)

-- the result of performing a task
pub data Turn : Type 0 where
  on : State → Turn
  -- stops at this place, with these items left
  stops : Mismatch → ℕ → List TrailItem → Turn
  -- nothing is left to do
  ended : State → Turn

abbrev pub told : Option Halt → State → Turn
told None s = on s
told (Some (Stopped why)) s = stops why s.place s.rest
told (Some Ended) s = ended s

-- one task more
abbrev pub with_task : OnTask → State → State
with_task t s = record { tasks = t ∷ s.tasks; place = s.place; table = s.table; forest = s.forest; rest = s.rest; entered = s.entered; setting = s.setting; known = s.known; blank = s.blank }

-- other marks
abbrev pub with_marks : List ℕ → State → State
with_marks marks s = record { tasks = s.tasks; place = s.place; table = s.table; forest = s.forest; rest = s.rest; entered = s.entered; setting = under_marks marks s.setting; known = s.known; blank = s.blank }

-- the trees are so loose
abbrev pub with_loose : Looseness → State → State
with_loose loose s = record { tasks = s.tasks; place = s.place; table = s.table; forest = s.forest; rest = s.rest; entered = s.entered; setting = loosened loose s.setting; known = s.known; blank = s.blank }

-- the trees and the table changed
abbrev pub with_forest : List Tree → Table → State → State
with_forest forest table s = record { tasks = s.tasks; place = s.place; table = table; forest = forest; rest = s.rest; entered = s.entered; setting = s.setting; known = s.known; blank = s.blank }

-- the open rules changed
abbrev pub with_entered : List ℕ → State → State
with_entered entered s = record { tasks = s.tasks; place = s.place; table = s.table; forest = s.forest; rest = s.rest; entered = entered; setting = s.setting; known = s.known; blank = s.blank }

-- what is known of rules changed
abbrev pub with_known : List (Option Known) → State → State
with_known known s = record { tasks = s.tasks; place = s.place; table = s.table; forest = s.forest; rest = s.rest; entered = s.entered; setting = s.setting; known = known; blank = s.blank }

-- what is known of nodes changed
abbrev pub with_blank : List (Option ℕ) → State → State
with_blank blank s = record { tasks = s.tasks; place = s.place; table = s.table; forest = s.forest; rest = s.rest; entered = s.entered; setting = s.setting; known = s.known; blank = blank }

-- an item was taken
abbrev pub after_item : List TrailItem → State → State
after_item rest s = record { tasks = s.tasks; place = s.place; table = s.table; forest = s.forest; rest = rest; entered = []; setting = s.setting; known = s.known; blank = s.blank }

-- at another place, where no rule is open unless the place is the same
abbrev pub moved_to : ℕ → State → State
moved_to place s = record { tasks = s.tasks; place = place; table = s.table; forest = s.forest; rest = s.rest; entered = if s.place == place then s.entered else []; setting = s.setting; known = s.known; blank = s.blank }

-- without the newest, if there is one
abbrev pub without_newest : List ℕ → List ℕ
without_newest [] = []
without_newest (newest ∷ others) = others

-- other tasks
abbrev pub with_tasks : List OnTask → State → State
with_tasks tasks s = record { tasks = tasks; place = s.place; table = s.table; forest = s.forest; rest = s.rest; entered = s.entered; setting = s.setting; known = s.known; blank = s.blank }
