use Rattle.pg_trail.proofs.Again.{trail_is_text}
use Rattle.pg_trail.proofs.laws.written_trails_are_read.Goals as goal

pub returns : goal.returns
returns c = trail_is_text
