use Rattle.pg_machine_plan.specs.Columns.{Follows}
use Rattle.pg_machine_plan.proofs.verdict_columns.tell_all.Given as goal

abbrev pub invariant-loop-index : goal.invariant-loop-index
invariant-loop-index l = Follows l.grammar l.next l.initial.column → Follows l.grammar l.next l.column
