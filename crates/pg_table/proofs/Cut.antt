-- A table's first operators make a table.
use Rattle.std.proofs.Common.{ℕ, arith, length-take}
use Rattle.pg_grammar_form.specs.Operators.{IsOperator}
use Rattle.pg_grammar_form.proofs.Each.{all-take}
use Rattle.pg_table.specs.Tables.{Table, IsTable, first_operators}

pub still_table : (n : ℕ) (t : Table) → IsTable t → IsTable (first_operators n t)
still_table n t h = let few = h.few in record {
  operators = all-take IsOperator n t.operators h.operators;
  few = omega (arith, length-take n t.operators);
  most = h.most;
}
