use Rattle.std.proofs.Common.{Ok, None}
use Rattle.pg_trail.proofs.Members.{rounds_read}
use Rattle.pg_trail.proofs.item.read_rounds.Goals as goal

pub returns-in-None : goal.returns-in-None
returns-in-None c = rounds_read _ c.read_count.new.reader (Ok None) (rw c.in-None.is at c.in_ok-rounds.ensures)
