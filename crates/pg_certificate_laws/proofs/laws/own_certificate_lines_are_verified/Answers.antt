use Rattle.pg_certificate_laws.proofs.OwnVerified.{own_line_verified}
use Rattle.pg_certificate_laws.proofs.laws.own_certificate_lines_are_verified.Goals as goal

pub returns : goal.returns
returns c = own_line_verified
