use Rattle.pg_derive.proofs.Predicted.{rounds_consume}
use Rattle.pg_derive.proofs.predictive.rounds_consume.Goals as goal

pub returns : goal.returns
returns c = rounds_consume
