use Rattle.pg_start.proofs.Meeting.{Apart-swap}
use Rattle.pg_start.proofs.laws.apart_is_symmetric.Goals as goal

pub returns : goal.returns
returns c = Apart-swap
