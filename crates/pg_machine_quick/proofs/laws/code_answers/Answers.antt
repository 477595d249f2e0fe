use Rattle.pg_machine_quick.proofs.WholeTexts.{stops_with_answers}
use Rattle.pg_machine_quick.proofs.laws.code_answers.Goals as goal

pub returns : goal.returns
returns c = stops_with_answers
