use Rattle.pg_derive.proofs.Chains.{chains_and_rests}
use Rattle.pg_derive.proofs.laws.chains_are_operands_and_rests.Goals as goal

pub returns : goal.returns
returns c = chains_and_rests
