use Rattle.pg_machine.proofs.BothReadings.{one_outcome}
use Rattle.pg_machine.proofs.laws.readings_have_one_outcome.Goals as goal

pub returns : goal.returns
returns c = one_outcome
