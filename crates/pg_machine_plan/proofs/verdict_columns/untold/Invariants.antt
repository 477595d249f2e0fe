use Rattle.std.proofs.Common.{◌≡◌, ℕ}
use Rattle.pg_machine_plan.specs.Columns.{verdict_at}
use Rattle.pg_machine_plan.specs.declared.verdict.Verdict.TheVariants.{Unknown}
use Rattle.pg_machine_plan.proofs.verdict_columns.untold.Given as goal

abbrev pub invariant-loop : goal.invariant-loop
invariant-loop l = (p : ℕ) → verdict_at l.column.items p ≡ Unknown
