use Rattle.pg_derive_bound.proofs.InTime.{accepted_starts}
use Rattle.pg_derive_bound.proofs.bound.accepted_starts_are_answered_in_time.Goals as goal

pub returns : goal.returns
returns c = accepted_starts
