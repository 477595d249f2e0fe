use Rattle.pg_derive_bound.proofs.InTime.{predictive_texts}
use Rattle.pg_derive_bound.proofs.bound.predictive_texts_are_answered_in_time.Goals as goal

pub returns : goal.returns
returns c = predictive_texts
