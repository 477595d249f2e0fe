use Rattle.std.proofs.Common.{◌≡◌, ℕ, List, sym, subst}
use Rattle.pg_machine_plan.specs.Columns.{verdict_at, untold}
use Rattle.pg_machine_plan.specs.declared.verdict.Verdict.{Verdict}
use Rattle.pg_machine_plan.specs.declared.verdict.Verdict.TheVariants.{Unknown}
use Rattle.pg_machine_plan.proofs.Told.{untold_too}
use Rattle.pg_machine_plan.proofs.verdict_columns.untold.Goals as goal

pub loop-preserved : goal.loop-preserved
loop-preserved c =
    subst (λ (column : List Verdict). (p : ℕ) → verdict_at column p ≡ Unknown) (sym c.in_ok-push.ensures.items) (untold_too c.loop.column.items c.loop.invariant)

pub returns : goal.returns
returns c = λ g next. untold c.loop.invariant
