use Rattle.std.proofs.Common.{◌≡◌, drop}
use Rattle.pg_trail_replay.specs.View.{tasks_on, tasks_in}
use Rattle.pg_trail_replay.proofs.task_lists.TaskLists.push_all.Given as goal

abbrev pub invariant-loop-task : goal.invariant-loop-task
invariant-loop-task l = tasks_on (tasks_in l.self) (drop l.task-index l.tasks) ≡ tasks_on (tasks_in l.fn.self) l.tasks
