use Rattle.pg_certificate_laws.proofs.Unrefuted.{not_refuted}
use Rattle.pg_certificate_laws.proofs.laws.verified_bytes_are_not_refuted.Goals as goal

pub returns : goal.returns
returns c = not_refuted
