use Rattle.std.proofs.Common.{rules, arith, refl, ◌∙◌}
use Rattle.std.proofs.lemmas.Grind.{common_steps}
use Rattle.pg_trail_replay.specs.Tasks.{newest_waiting}
use Rattle.pg_trail_replay.specs.View.{state_of, waiting_of}
use Rattle.pg_trail_replay.proofs.Steps.{step_pushed}
use Rattle.pg_trail_replay.proofs.replayer.Replayer.push_steps.Goals as goal

-- src/expressions.rt:82:9
pub loop-step-preserved : goal.loop-step-preserved
loop-step-preserved c =
    let builders = c.args.expression.now.builders.now in
    let step = c.in-Some.step in
    let waiting = waiting_of c.loop-step.waiting.items in
    step_pushed builders c.args.expression.now.part c.loop-step.steps.items c.pop.new.self.items step waiting (waiting_of c.push_step.new.waiting.items) (newest_waiting waiting) (state_of c.loop-step.self) (state_of c.push_step.new.self)
    (first_of (search rules, grind (arith, common_steps)))
    (first_of (search rules, grind (arith, common_steps)))
    refl
    (first_of (search rules, grind (arith, common_steps)))
    ∙ c.loop-step.invariant
