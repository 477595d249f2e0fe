-- The task that was taken off is the next one.
use Rattle.std.proofs.Common.{◌≡◌, ◌∷◌, ◌∙◌}
use Rattle.std.proofs.lemmas.Result.{IfOk-weaker}
use Rattle.pg_trail_replay.specs.View.{state_of, task_of, tasks_in}
use Rattle.pg_trail_replay.proofs.Stack.{turned}
use Rattle.pg_trail_replay.proofs.replayer.Replayer.step.Goals as goal

pub returns-in-Some : goal.returns-in-Some
returns-in-Some c =
    let split : tasks_in c.args.self.now.tasks ≡ task_of c.in-Some.task ∷ tasks_in c.pop.new.self = c.in-Some.ensures.task in
    IfOk-weaker c.perform.result _ _
    (λ halt h. h ∙ turned c.args.grammar.now c.args.text.now (tasks_in c.args.self.now.tasks) (tasks_in c.pop.new.self) (task_of c.in-Some.task) (state_of c.args.self.now) split) c.perform.ensures
