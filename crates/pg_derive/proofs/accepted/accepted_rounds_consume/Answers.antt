use Rattle.pg_derive.proofs.AcceptedTexts.{accepted_rounds}
use Rattle.pg_derive.proofs.accepted.accepted_rounds_consume.Goals as goal

pub returns : goal.returns
returns c = accepted_rounds
