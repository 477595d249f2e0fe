-- Views of the code's tasks, as the definitions have them.
use Rattle.std.specs.Prelude.{Option, Some, None, List, [], ◌∷◌, map, reverse}
use Rattle.pg_trail_replay.specs.declared.task.Task.{Task}
use Rattle.pg_trail_replay.specs.declared.task.Task.TheVariants as task
use Rattle.pg_trail_replay.specs.declared.task.ShortTask.{ShortTask}
use Rattle.pg_trail_replay.specs.declared.task.ShortTask.TheVariants as short
use Rattle.pg_trail_replay.specs.declared.task.RoundsTask.{RoundsTask}
use Rattle.pg_trail_replay.specs.declared.task.RoundsTask.TheVariants as round
use Rattle.pg_trail_replay.specs.declared.task.Leaving as declared_leaving
use Rattle.pg_trail_replay.specs.declared.task_lists.TaskKind.{TaskKind}
use Rattle.pg_trail_replay.specs.declared.task_lists.TaskKind.TheVariants as kind
use Rattle.pg_trail_replay.specs.declared.task_lists.TaskLists.{TaskLists}
use Rattle.pg_trail_replay.specs.declared.task.Chain as declared
use Rattle.pg_trail_replay.specs.declared.task.RoundStart as declared_start
use Rattle.pg_trail_replay.specs.declared.task.Closing as declared_closing
use Rattle.pg_trail_replay.specs.declared.replayer.Replayer.{Replayer}
use Rattle.pg_trail_replay.specs.declared.replayer.Known as declared_known
use Rattle.pg_trail_replay.specs.declared.task.Looseness as declared_loose
use Rattle.pg_trail_replay.specs.declared.task.Looseness.TheVariants.{Tight, Apart, OnlyText, Dropped}
use Rattle.pg_trail_replay.specs.Tasks.{Looseness, tight, apart, only_text, dropped, Known, Chain, RoundStart, OnTask, node, parts, rounds, more_rounds, links, operand, linked, settle, fold, marked, operator_symbol, application, unmark, close, leave, State}

abbrev pub chain_of : declared.Chain → Chain
chain_of c = record { side = c.side; used = c.used.now; part = c.part; separator = c.separator }

abbrev pub start_of : declared_start.RoundStart → RoundStart
start_of from = record { place = from.place; trees = from.trees; items = from.items }

abbrev pub loose_of : declared_loose.Looseness → Looseness
loose_of Tight = tight
loose_of (Apart label) = apart label.now
loose_of OnlyText = only_text
loose_of Dropped = dropped

abbrev pub known_of : declared_known.Known → Known
known_of known = record { place = known.place; loose = loose_of known.loose }

abbrev pub if_known : Option declared_known.Known → Option Known
if_known None = None
if_known (Some known) = Some (known_of known)

abbrev pub closing_of : declared_closing.Closing → OnTask
closing_of c = close c.around.now c.node c.from.place c.from.trees c.operators c.from.items (loose_of c.loose)

abbrev pub leaving_of : declared_leaving.Leaving → OnTask
leaving_of l = leave l.rule l.from.place l.from.trees l.from.items

abbrev pub short_of : ShortTask → OnTask
short_of (short.Node p) = node p
short_of (short.Parts ps) = parts ps.now
short_of (short.Rounds part left) = rounds part left
short_of (short.Settle loose) = settle (loose_of loose)
short_of (short.Fold used trees) = fold used.now trees
short_of (short.Term p loose) = marked p (loose_of loose)
short_of (short.Symbol o) = operator_symbol o.now
short_of (short.Application builders o) = application builders.now o.now
short_of short.Unmark = unmark

abbrev pub rounds_of : RoundsTask → OnTask
rounds_of (round.MoreRounds part left place trees items) = more_rounds part left place trees items
rounds_of (round.Links chain left trees) = links (chain_of chain) left trees
rounds_of (round.Operand chain left trees from) = operand (chain_of chain) left trees (start_of from)
rounds_of (round.Linked chain left trees later from) = linked (chain_of chain) left trees later (start_of from)

abbrev pub task_of : Task → OnTask
task_of (task.Short t) = short_of t
task_of (task.Rounds t) = rounds_of t
task_of (task.Close c) = closing_of c
task_of (task.Leave l) = leaving_of l

-- these tasks on top of others, the last of them first
abbrev pub tasks_on : List OnTask → List Task → List OnTask
tasks_on ts [] = ts
tasks_on ts (t ∷ more) = tasks_on (task_of t ∷ ts) more

-- the first of a list as a task; an end of an operand if there is none
abbrev pub first_by : {A : Type 0} → (A → OnTask) → List A → OnTask
first_by f [] = unmark
first_by f (x ∷ xs) = f x

-- the rest of a list
abbrev pub others : {A : Type 0} → List A → List A
others [] = []
others (x ∷ xs) = xs

-- for each kind the next task of its list
abbrev pub tasks_by : List TaskKind → List ShortTask → List RoundsTask → List declared_closing.Closing → List declared_leaving.Leaving → List OnTask
tasks_by [] ss rs cs ls = []
tasks_by (kind.Short ∷ ks) ss rs cs ls = first_by short_of ss ∷ tasks_by ks (others ss) rs cs ls
tasks_by (kind.Rounds ∷ ks) ss rs cs ls = first_by rounds_of rs ∷ tasks_by ks ss (others rs) cs ls
tasks_by (kind.Close ∷ ks) ss rs cs ls = first_by closing_of cs ∷ tasks_by ks ss rs (others cs) ls
tasks_by (kind.Leave ∷ ks) ss rs cs ls = first_by leaving_of ls ∷ tasks_by ks ss rs cs (others ls)

-- the code keeps the next task of each list last
abbrev pub tasks_in : TaskLists → List OnTask
tasks_in t = tasks_by (reverse t.kinds.items) (reverse t.short.items) (reverse t.rounds.items) (reverse t.closings.items) (reverse t.leavings.items)

-- the code keeps the newest operand last
abbrev pub waiting_on : List Looseness → List declared_loose.Looseness → List Looseness
waiting_on ls [] = ls
waiting_on ls (x ∷ xs) = waiting_on (loose_of x ∷ ls) xs

abbrev pub waiting_of : List declared_loose.Looseness → List Looseness
waiting_of xs = waiting_on [] xs

abbrev pub state_of : Replayer → State
state_of r = record {
  tasks = tasks_in r.tasks;
  place = r.place;
  table = r.table;
  forest = r.forest;
  rest = r.rest.now;
  entered = reverse r.entered.items;
  setting = record { marks = reverse r.marks.items; loose = loose_of r.loose };
  known = map if_known r.known.items;
  blank = r.blank.items;
}
