use Rattle.std.proofs.Common.{◌-◌}
use Rattle.pg_pred.specs.Offer.{offer_of}
use Rattle.pg_language.specs.Answers.{given}
use Rattle.pg_machine_turns.specs.View.{tape_of}
use Rattle.pg_machine_turns.proofs.TapeRuns.{Going}
use Rattle.pg_machine.proofs.watched.watched_turns.Given as goal

abbrev pub invariant-loop-steps : goal.invariant-loop-steps
invariant-loop-steps g l = Going (offer_of l.run.registry.now) (given l.run.reading l.run.grammar.now l.run.text.now) (tape_of l.fn.begun l.fn.machine) l.most l.steps (tape_of l.mode l.machine)

abbrev pub decreases-loop-steps : goal.decreases-loop-steps
decreases-loop-steps g l = l.most - l.steps
