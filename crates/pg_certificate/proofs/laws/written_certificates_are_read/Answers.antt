use Rattle.pg_certificate.proofs.Again.{certificate_is_text}
use Rattle.pg_certificate.proofs.laws.written_certificates_are_read.Goals as goal

pub returns : goal.returns
returns c = certificate_is_text
