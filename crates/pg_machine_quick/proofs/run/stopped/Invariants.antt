use Rattle.pg_machine_quick.specs.Looks.{Leads, program_of}
use Rattle.pg_machine_quick.specs.Running.{shown}
use Rattle.pg_machine_quick.specs.Tape.{first_tape}
use Rattle.pg_machine_quick.specs.declared.step.Step.TheVariants.{GoesOn}
use Rattle.pg_machine_quick.proofs.run.stopped.Given as goal

-- the run has come here
abbrev pub invariant-loop : goal.invariant-loop
invariant-loop l = Leads l.context (first_tape (program_of l.context)) GoesOn (shown l.running)
