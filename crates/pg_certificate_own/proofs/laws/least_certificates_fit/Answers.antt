use Rattle.pg_certificate_own.proofs.Origin.{least_fits}
use Rattle.pg_certificate_own.proofs.laws.least_certificates_fit.Goals as goal

pub returns : goal.returns
returns c = least_fits
