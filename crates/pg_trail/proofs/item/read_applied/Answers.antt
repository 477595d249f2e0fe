use Rattle.std.proofs.Common.{Ok, None}
use Rattle.pg_trail.proofs.Members.{operators_read}
use Rattle.pg_trail.proofs.item.read_applied.Goals as goal

pub returns-in-None : goal.returns-in-None
returns-in-None c = operators_read _ c.read_operators.new.reader (Ok None) (rw c.in-None.is at c.in_ok-operators.ensures)
