use Rattle.pg_table.proofs.Added.{own_table}
use Rattle.pg_bench.proofs.showing.shown_of_text.Goals as goal

pub show-requires-clause-comes : goal.show-requires-clause-comes
show-requires-clause-comes g c = own_table c.args.placed.now.grammar c.args.placed.now.table c.requires.table
