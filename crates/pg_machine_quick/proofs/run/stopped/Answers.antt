use Rattle.pg_machine_quick.specs.Looks.{program_of}
use Rattle.pg_machine_quick.specs.Running.{shown}
use Rattle.pg_machine_quick.specs.Tape.{first_tape}
use Rattle.pg_machine_quick.proofs.Ran.{leads_here, leads_on, leads_out}
use Rattle.pg_machine_quick.proofs.run.stopped.Goals as goal

pub loop-init : goal.loop-init
loop-init c = λ table same. leads_here (program_of c.args.context) table (first_tape (program_of c.args.context)) _ c.in_ok-running.ensures

pub loop-preserved : goal.loop-preserved
loop-preserved c = λ table same.
    leads_on (program_of c.args.context) table (first_tape (program_of c.args.context)) (shown c.loop.running) (shown c.turn.new.self) c.in_ok-turn.field-0
    (c.loop.invariant table same) c.in-GoesOn.is (c.in_ok-turn.ensures table same)

pub returns-in-Stops : goal.returns-in-Stops
returns-in-Stops c = λ table same.
    leads_out (program_of c.args.context) table (first_tape (program_of c.args.context)) (shown c.loop.running) (shown c.turn.new.self) c.in_ok-turn.field-0
    (c.loop.invariant table same) c.in-Stops.is (c.in_ok-turn.ensures table same)
