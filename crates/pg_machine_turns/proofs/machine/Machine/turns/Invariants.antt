use Rattle.std.proofs.Common.{◌-◌}
use Rattle.pg_pred.specs.Offer.{offer_of}
use Rattle.pg_machine_lists.specs.ViewLevels.{given_of}
use Rattle.pg_machine_turns.specs.View.{tape_of}
use Rattle.pg_machine_turns.proofs.TapeRuns.{Going}
use Rattle.pg_machine_turns.proofs.machine.Machine.turns.Given as goal

abbrev pub invariant-loop-steps : goal.invariant-loop-steps
invariant-loop-steps g l = Going (offer_of l.context.registry.now) (given_of l.context.given) (tape_of l.fn.begun l.fn.self) l.most l.steps (tape_of l.mode l.self)

abbrev pub decreases-loop-steps : goal.decreases-loop-steps
decreases-loop-steps g l = l.most - l.steps
