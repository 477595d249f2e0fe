use Rattle.pg_certificate_laws.proofs.Accepted.{accepted}
use Rattle.pg_certificate_laws.proofs.laws.verified_grammars_are_accepted.Goals as goal

pub returns : goal.returns
returns c = accepted
