use Rattle.pg_certificate_verify.proofs.Enough.{nullable_enough}
use Rattle.pg_certificate_verify.proofs.laws.nullable_claims_are_enough.Goals as goal

pub returns : goal.returns
returns c = nullable_enough
