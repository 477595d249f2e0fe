use Rattle.pg_certificate_laws.proofs.OwnClaims.{say_no_more}
use Rattle.pg_certificate_laws.proofs.laws.own_claims_say_no_more.Goals as goal

pub returns : goal.returns
returns c = say_no_more
