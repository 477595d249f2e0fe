use Rattle.pg_derive_bound.proofs.Cut.{accepted_answers}
use Rattle.pg_derive_bound.proofs.bound.accepted_starts_come_to_answers.Goals as goal

pub returns : goal.returns
returns c = accepted_answers
