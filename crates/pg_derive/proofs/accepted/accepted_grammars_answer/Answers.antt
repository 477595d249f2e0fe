use Rattle.pg_derive.proofs.AcceptedTexts.{answers}
use Rattle.pg_derive.proofs.accepted.accepted_grammars_answer.Goals as goal

pub returns : goal.returns
returns c = answers
