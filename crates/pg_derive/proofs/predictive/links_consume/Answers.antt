use Rattle.pg_derive.proofs.Predicted.{links_consume}
use Rattle.pg_derive.proofs.predictive.links_consume.Goals as goal

pub returns : goal.returns
returns c = links_consume
