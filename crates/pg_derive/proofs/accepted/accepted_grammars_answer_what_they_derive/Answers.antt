use Rattle.pg_derive.proofs.AcceptedTexts.{answers_derived}
use Rattle.pg_derive.proofs.accepted.accepted_grammars_answer_what_they_derive.Goals as goal

pub returns : goal.returns
returns c = answers_derived
