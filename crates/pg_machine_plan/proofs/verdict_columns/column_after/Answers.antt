use Rattle.pg_machine_plan.proofs.Told.{follows_too}
use Rattle.pg_machine_plan.proofs.verdict_columns.column_after.Goals as goal

pub returns-then-are_alike : goal.returns-then-are_alike
returns-then-are_alike c = follows_too c.args.grammar.now c.args.last c.args.next c.args.column.items c.if-are_alike.ensures c.requires
