use Rattle.pg_machine_plan.specs.declared.instruction.Instruction.TheVariants.{Pick}
use Rattle.pg_machine_quick.specs.Running.{shown}
use Rattle.pg_machine_quick.proofs.Acts.{goes_further_if}
use Rattle.pg_machine_quick.proofs.running.Running.pick_on.Goals as goal

pub returns-in-GoesOn : goal.returns-in-GoesOn
returns-in-GoesOn c = goes_further_if c.args.context (shown c.args.self.now) (shown c.pick_at.new.self) (shown c.read_on.new.self) (Pick c.args.table) c.pick_at.result c.read_on.result
    c.requires.here c.in-GoesOn.is (λ table. c.pick_at.ensures) c.read_on.ensures
