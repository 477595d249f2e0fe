use Rattle.pg_derive_bound.proofs.InTime.{predictive_starts}
use Rattle.pg_derive_bound.proofs.bound.predictive_starts_are_answered_in_time.Goals as goal

pub returns : goal.returns
returns c = predictive_starts
