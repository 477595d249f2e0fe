use Rattle.pg_machine_quick.specs.Looks.{program_of}
use Rattle.pg_machine_quick.specs.Running.{shown}
use Rattle.pg_machine_quick.proofs.Ran.{leads_past, leads_trans}
use Rattle.pg_machine_quick.proofs.running.Running.rows_at.Goals as goal

pub loop-preserved : goal.loop-preserved
loop-preserved c = λ table same.
    leads_past (program_of c.args.look.context) table (shown c.args.self.now) (shown c.loop.self) (shown c.act_at.new.self) c.passed-self.result c.in-Some.instruction c.in_ok-act_at.field-0
    (c.loop.invariant table same) (c.passed-self.ensures table same) c.in-Some.ensures (c.in_ok-act_at.ensures table same) c.in-GoesOn.is

pub returns-in_default : goal.returns-in_default
returns-in_default c = λ table same.
    leads_trans (program_of c.args.look.context) table (shown c.args.self.now) (shown c.loop.self) _ (c.loop.invariant table same) (c.passed-self.ensures table same)
