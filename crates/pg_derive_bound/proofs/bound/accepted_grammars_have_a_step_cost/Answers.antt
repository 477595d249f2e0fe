use Rattle.pg_derive_bound.proofs.Cut.{accepted_costs}
use Rattle.pg_derive_bound.proofs.bound.accepted_grammars_have_a_step_cost.Goals as goal

pub returns : goal.returns
returns c = accepted_costs
