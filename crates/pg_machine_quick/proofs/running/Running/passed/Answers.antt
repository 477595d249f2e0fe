use Rattle.pg_machine_quick.specs.Looks.{program_of}
use Rattle.pg_machine_quick.specs.Running.{shown}
use Rattle.pg_machine_quick.specs.Tape.{Tape}
use Rattle.pg_machine_quick.proofs.Ran.{leads_trans}
use Rattle.pg_machine_quick.proofs.running.Running.passed.Goals as goal

pub loop-preserved : goal.loop-preserved
loop-preserved c = λ table same.
    let y : Tape = record (shown c.args.self.now) { pc = c.loop.pc } in
    leads_trans (program_of c.args.look.context) table (shown c.args.self.now) y _ (c.loop.invariant table same) (c.in-Some.ensures table same)
