use Rattle.pg_derive.proofs.Predicted.{not_lost}
use Rattle.pg_derive.proofs.predictive.no_alternative_is_lost.Goals as goal

pub returns : goal.returns
returns c = not_lost
