-- With the steps that are left, and the operands that wait after them, the tasks are those that were asked for.
use Rattle.std.proofs.Common.{◌≡◌, vec_len, [], ◌∷◌}
use Rattle.std.specs.Prelude.{map}
use Rattle.pg_expand_fitting.specs.Judge.{step_of}
use Rattle.pg_trail_replay.specs.Tasks.{with_steps}
use Rattle.pg_trail_replay.specs.View.{state_of, loose_of, waiting_of}
use Rattle.pg_trail_replay.proofs.replayer.Replayer.push_steps.Given as goal

abbrev pub invariant-loop-step : goal.invariant-loop-step
invariant-loop-step l =
    with_steps l.expression.builders.now l.expression.part (map step_of l.steps.items) (waiting_of l.waiting.items) (state_of l.self)
    ≡ with_steps l.fn.expression.builders.now l.fn.expression.part (map step_of l.fn.steps.items) (loose_of l.fn.self.loose ∷ []) (state_of l.fn.self)

abbrev pub decreases-loop-step : goal.decreases-loop-step
decreases-loop-step l = vec_len l.steps
