use Rattle.pg_certificate_verify.proofs.Costly.{costs_enough}
use Rattle.pg_certificate_verify.proofs.laws.claimed_costs_are_enough.Goals as goal

pub returns : goal.returns
returns c = costs_enough
