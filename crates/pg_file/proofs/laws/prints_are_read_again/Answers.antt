use Rattle.pg_file.proofs.AgainLemmas.Again.{may_be_printed, within_limits_again}
use Rattle.pg_file.proofs.laws.prints_are_read_again.Goals as goal

pub returns : goal.returns
returns c offer bytes g h limits = within_limits_again offer g (may_be_printed offer bytes g h) limits
