use Rattle.pg_expand.proofs.Symbols.{told_table, one_reading}
use Rattle.pg_expand.proofs.laws.one_tree_per_reading.Goals as goal

pub returns : goal.returns
returns c = λ g table x y comes f h e. one_reading table.operators (told_table g table comes) x y f h e
