use Rattle.pg_certificate_laws.proofs.OwnVerified.{own_verified}
use Rattle.pg_certificate_laws.proofs.laws.own_certificates_are_verified.Goals as goal

pub returns : goal.returns
returns c = own_verified
