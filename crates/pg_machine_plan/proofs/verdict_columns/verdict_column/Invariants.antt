use Rattle.pg_machine_plan.specs.Columns.{Follows}
use Rattle.pg_machine_plan.proofs.verdict_columns.verdict_column.Given as goal

abbrev pub invariant-loop : goal.invariant-loop
invariant-loop l = Follows l.grammar l.next l.column.items
