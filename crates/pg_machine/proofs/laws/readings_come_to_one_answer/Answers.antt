use Rattle.pg_machine.proofs.BothReadings.{come_to_one}
use Rattle.pg_machine.proofs.laws.readings_come_to_one_answer.Goals as goal

pub returns : goal.returns
returns c = come_to_one c.accepted_probes_answer.ensures
