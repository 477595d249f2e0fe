use Rattle.pg_start.proofs.Meeting.{never_meet}
use Rattle.pg_start.proofs.laws.starts_apart_never_meet.Goals as goal

pub returns : goal.returns
returns c = never_meet
