use Rattle.pg_certificate_verify.specs.declared.verify_fault.Condition.TheVariants.{Nullable, Cost}
use Rattle.pg_certificate_verify.proofs.Costly.{costs_enough}
use Rattle.pg_certificate_verify.proofs.Dearer.{dearer}
use Rattle.pg_certificate_verify.proofs.laws.claimed_step_cost_is_enough.Goals as goal

pub returns : goal.returns
returns c = λ g claims said is all least on cost by k step.
    dearer g step.costs said.costs cost k
    (costs_enough g claims said.nullable said.costs is.nullable (λ r rule at. all r rule at Nullable) is.costs (λ r rule at. all r rule at Cost) least on step.costs step.are_costs)
    by step.sizes step.are_sizes step.is
