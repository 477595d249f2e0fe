use Rattle.std.proofs.Common.{sym, subst}
use Rattle.pg_machine_plan.specs.Columns.{Follows}
use Rattle.pg_machine_plan.proofs.Told.{is_column}
use Rattle.pg_machine_plan.proofs.judge_plans.has_all_arms.Goals as goal

pub has_arms-requires : goal.has_arms-requires
has_arms-requires c =
    is_column c.args.grammar.now c.at-next.result c.as_slice.result.now
    (subst (Follows c.args.grammar.now c.at-next.result) (sym c.as_slice.ensures.value) c.in_ok-column-2.ensures)
