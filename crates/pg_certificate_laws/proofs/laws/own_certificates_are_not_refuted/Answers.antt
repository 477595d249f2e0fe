use Rattle.pg_certificate_laws.proofs.OwnVerified.{own_not_refuted}
use Rattle.pg_certificate_laws.proofs.laws.own_certificates_are_not_refuted.Goals as goal

pub returns : goal.returns
returns c = own_not_refuted
