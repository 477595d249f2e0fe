use Rattle.pg_derive.proofs.Faultless.{accepted}
use Rattle.pg_derive.proofs.accepted.accepted_grammars_are_predictive.Goals as goal

pub returns : goal.returns
returns c = accepted
