use Rattle.pg_expand.proofs.OperatorsRead.{told_reading}
use Rattle.pg_expand.proofs.Symbols.{told_table, one_reading}
use Rattle.pg_expand.proofs.laws.one_tree_per_operators.Goals as goal

pub returns : goal.returns
returns c = λ g table x y comes f h e. one_reading table.operators (told_table g table comes) x y f h (told_reading x y e)
