use Rattle.pg_machine.proofs.Probed.{accepted_probed}
use Rattle.pg_machine.proofs.laws.accepted_probes_answer.Goals as goal

pub returns : goal.returns
returns c = accepted_probed c.accepted_starts_come_to_answers.ensures
