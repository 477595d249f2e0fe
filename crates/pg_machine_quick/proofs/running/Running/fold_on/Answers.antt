use Rattle.pg_machine_plan.specs.declared.instruction.Instruction.TheVariants.{Fold}
use Rattle.pg_machine_quick.specs.Running.{shown}
use Rattle.pg_machine_quick.proofs.Acts.{goes_further}
use Rattle.pg_machine_quick.proofs.running.Running.fold_on.Goals as goal

pub returns-in-GoesOn : goal.returns-in-GoesOn
returns-in-GoesOn c = goes_further c.args.context (shown c.args.self.now) (shown c.fold_node.new.self) (shown c.jump_on.new.self) (Fold c.args.keep c.args.node)
    c.in_ok-fold_node.field-0 c.jump_on.result c.requires.here c.in-GoesOn.is (λ table. c.in_ok-fold_node.ensures) c.jump_on.ensures
