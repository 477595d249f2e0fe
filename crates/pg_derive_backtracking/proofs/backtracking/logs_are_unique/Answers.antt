use Rattle.pg_derive_backtracking.proofs.Once.{one_log}
use Rattle.pg_derive_backtracking.proofs.backtracking.logs_are_unique.Goals as goal

pub returns : goal.returns
returns c = λ G p a o q m n run other. one_log run other
