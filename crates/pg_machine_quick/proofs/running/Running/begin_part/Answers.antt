use Rattle.pg_machine_quick.specs.Running.{shown}
use Rattle.pg_machine_quick.proofs.TokenTurns.{part_begun}
use Rattle.pg_machine_quick.proofs.running.Running.begin_part.Goals as goal

pub returns : goal.returns
returns c = part_begun c.args.context (shown c.args.self.now) (shown c.open.new.self) c.args.counts c.open.result c.requires c.open.ensures
