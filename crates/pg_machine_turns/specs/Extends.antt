-- How a table grows while something runs.
use Rattle.std.specs.Prelude.{Bool, true, List, ◌++◌}
use Rattle.pg_grammar_form.specs.Operators.{Operator}
use Rattle.pg_table.specs.Tables.{Table}

-- the table with these operators appended
abbrev pub with_operators : Table → List Operator → Table
with_operators T ds = record { operators = T.operators ++ ds; reserved = T.reserved; most = T.most }

-- the second table extends the first: operators were appended, and none if nothing was consumed
pub data Extends : Bool → Table → Table → Type 0 where
  same_table : {c : Bool} {T : Table} → Extends c T T
  more_operators : {T : Table} (ds : List Operator) → Extends true T (with_operators T ds)
