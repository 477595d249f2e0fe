use Rattle.pg_derive.proofs.Predicted.{exist}
use Rattle.pg_derive.proofs.predictive.answers_exist.Goals as goal

pub returns : goal.returns
returns c = exist
