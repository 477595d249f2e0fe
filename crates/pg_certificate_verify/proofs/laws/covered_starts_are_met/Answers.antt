use Rattle.pg_certificate_verify.proofs.Covered.{covered_met}
use Rattle.pg_certificate_verify.proofs.laws.covered_starts_are_met.Goals as goal

pub returns : goal.returns
returns c = covered_met
