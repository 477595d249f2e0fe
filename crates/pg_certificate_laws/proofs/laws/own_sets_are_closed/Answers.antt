use Rattle.pg_certificate_laws.proofs.OwnClosed.{own_sets_closed}
use Rattle.pg_certificate_laws.proofs.laws.own_sets_are_closed.Goals as goal

pub returns : goal.returns
returns c = own_sets_closed
