use Rattle.pg_derive.proofs.Predicted.{unique}
use Rattle.pg_derive.proofs.predictive.derivations_are_unique.Goals as goal

pub returns : goal.returns
returns c = unique
