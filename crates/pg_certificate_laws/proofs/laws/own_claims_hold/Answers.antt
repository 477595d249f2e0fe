use Rattle.pg_certificate_laws.proofs.OwnHolds.{own_hold}
use Rattle.pg_certificate_laws.proofs.laws.own_claims_hold.Goals as goal

pub returns : goal.returns
returns c = own_hold
