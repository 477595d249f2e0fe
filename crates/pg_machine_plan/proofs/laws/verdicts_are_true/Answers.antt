use Rattle.pg_machine_plan.proofs.Verdicts.{verdicts_follow}
use Rattle.pg_machine_plan.proofs.laws.verdicts_are_true.Goals as goal

pub returns : goal.returns
returns c = verdicts_follow
