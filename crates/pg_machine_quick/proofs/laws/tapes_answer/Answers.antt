use Rattle.pg_machine_quick.proofs.Tapes.{tapes_answer}
use Rattle.pg_machine_quick.proofs.laws.tapes_answer.Goals as goal

pub returns : goal.returns
returns c = tapes_answer
