use Rattle.pg_expand.proofs.RowsFound.{rows_and_lookups_agree}
use Rattle.pg_expand.proofs.laws.rows_and_lookups_agree.Goals as goal

pub returns : goal.returns
returns c = rows_and_lookups_agree
