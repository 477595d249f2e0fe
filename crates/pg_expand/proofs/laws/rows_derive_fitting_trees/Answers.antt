use Rattle.pg_expand.proofs.Levels.{rows_exact}
use Rattle.pg_expand.proofs.laws.rows_derive_fitting_trees.Goals as goal

pub returns : goal.returns
returns c = λ table is tokens x. rows_exact table.operators is.operators tokens x
