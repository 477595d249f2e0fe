use Rattle.pg_derive_backtracking.proofs.Texts.{accepted_reads_nothing_twice}
use Rattle.pg_derive_backtracking.proofs.backtracking.nothing_is_read_twice.Goals as goal

pub returns : goal.returns
returns c = accepted_reads_nothing_twice
