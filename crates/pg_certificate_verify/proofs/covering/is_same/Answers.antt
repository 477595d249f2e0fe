use Rattle.pg_sets.proofs.Adding.{same_if_tied, tied_if_same}
use Rattle.pg_certificate_verify.proofs.covering.is_same.Goals as goal

pub returns : goal.returns
returns c = rw c.eq.ensures (same_if_tied c.args.claimed.now c.args.listed.now, tied_if_same c.args.claimed.now c.args.listed.now)
