use Rattle.pg_table.proofs.Added.{still_comes}
use Rattle.pg_language.proofs.Onward.{leads_on}
use Rattle.pg_language.proofs.laws.tables_come_from_grammar.Goals as goal

pub returns : goal.returns
returns c = λ g text p a b forest trail comes d. let on = leads_on d in still_comes g a.table b.table on.further comes on.proper on.added
