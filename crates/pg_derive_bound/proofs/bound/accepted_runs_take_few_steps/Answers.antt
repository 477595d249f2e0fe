use Rattle.pg_derive_bound.proofs.Cut.{accepted_runs}
use Rattle.pg_derive_bound.proofs.bound.accepted_runs_take_few_steps.Goals as goal

pub returns : goal.returns
returns c = accepted_runs
