use Rattle.pg_machine_quick.specs.Looks.{Leads}
use Rattle.pg_machine_quick.specs.Running.{shown}
use Rattle.pg_machine_quick.specs.declared.step.Step.TheVariants.{GoesOn}
use Rattle.pg_machine_quick.proofs.running.Running.rows_at.Given as goal

-- the run has come here
abbrev pub invariant-loop : goal.invariant-loop
invariant-loop l = Leads l.look.context (shown l.fn.self) GoesOn (shown l.self)
