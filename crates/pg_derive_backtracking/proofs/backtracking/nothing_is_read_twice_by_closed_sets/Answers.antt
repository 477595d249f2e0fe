use Rattle.pg_derive_backtracking.proofs.Texts.{predictive_reads_nothing_twice}
use Rattle.pg_derive_backtracking.proofs.backtracking.nothing_is_read_twice_by_closed_sets.Goals as goal

pub returns : goal.returns
returns c = predictive_reads_nothing_twice
