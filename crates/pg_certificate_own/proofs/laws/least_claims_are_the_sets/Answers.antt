use Rattle.pg_certificate_own.proofs.Standing.{claims_are_so}
use Rattle.pg_certificate_own.proofs.laws.least_claims_are_the_sets.Goals as goal

pub returns : goal.returns
returns c = claims_are_so
