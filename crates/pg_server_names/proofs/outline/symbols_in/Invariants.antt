use Rattle.std.proofs.Common.{length}
use Rattle.pg_server_names.proofs.outline.symbols_in.Given as goal

abbrev pub decreases-loop-rest : goal.decreases-loop-rest
decreases-loop-rest l = length l.rest
