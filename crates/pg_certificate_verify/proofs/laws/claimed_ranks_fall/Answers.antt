use Rattle.pg_certificate_verify.proofs.Enough.{ranks_fall, no_cycle}
use Rattle.pg_certificate_verify.proofs.laws.claimed_ranks_fall.Goals as goal

pub returns-clause-falls : goal.returns-clause-falls
returns-clause-falls c = ranks_fall

pub returns-clause-no_cycle : goal.returns-clause-no_cycle
returns-clause-no_cycle c = λ g claims marks ranks are holds ranked high a cycle. no_cycle claims (ranks_fall g claims marks ranks are holds ranked high) cycle
