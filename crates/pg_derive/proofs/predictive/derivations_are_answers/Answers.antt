use Rattle.pg_derive.proofs.Predicted.{answered}
use Rattle.pg_derive.proofs.predictive.derivations_are_answers.Goals as goal

pub returns : goal.returns
returns c = answered
