use Rattle.pg_certificate_verify.specs.declared.verify_fault.Condition.TheVariants.{Nullable, First, Follow}
use Rattle.pg_certificate_verify.proofs.Enough.{nullable_enough}
use Rattle.pg_certificate_verify.proofs.SetsEnough.{first_covered, follow_covered}
use Rattle.pg_certificate_verify.proofs.laws.claimed_sets_are_enough.Goals as goal

pub returns-clause-first : goal.returns-clause-first
returns-clause-first c = λ g claims said is all start p first.
    first_covered g claims said.nullable (nullable_enough g claims said.nullable is.nullable (λ r rule at. all r rule at Nullable))
    (λ r rule at. all r rule at First) (λ r rule at. all r rule at Follow) first

pub returns-clause-follow : goal.returns-clause-follow
returns-clause-follow c = λ g claims said is all start p follow.
    follow_covered g claims said.nullable (nullable_enough g claims said.nullable is.nullable (λ r rule at. all r rule at Nullable))
    (λ r rule at. all r rule at First) (λ r rule at. all r rule at Follow) follow
