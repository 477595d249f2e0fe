use Rattle.std.proofs.Common.{◌≡◌, ◌-◌, ◌≤◌, length}
use Rattle.pg_table.specs.Rows.{row_of}
use Rattle.pg_expand.proofs.RowNumbers.{AreNumbered}
use Rattle.pg_expand.proofs.lookup.row_numbers.Given as goal

abbrev pub invariant-loop-looser : goal.invariant-loop-looser
invariant-loop-looser l = record {
  long : length l.numbers ≡ 10;
  number : l.number ≡ row_of l.operators (10 - l.looser);
  few : l.number ≤ l.looser;
  numbered : AreNumbered l.operators l.looser l.numbers;
}
