use Rattle.pg_certificate_laws.proofs.OwnFaultless.{own_break_nothing}
use Rattle.pg_certificate_laws.proofs.laws.own_claims_break_nothing.Goals as goal

pub returns : goal.returns
returns c = own_break_nothing
