use Rattle.std.proofs.Common.{◌≡◌, ◌+◌}
use Rattle.pg_machine_plan.specs.Layout.{AreRows}
use Rattle.pg_machine_plan.proofs.judge_expressions.after_rows.Given as goal

-- so many rows are there, and the others are before them
abbrev pub invariant-loop-row : goal.invariant-loop-row
invariant-loop-row l = AreRows l.plan l.keep l.node l.fn.term l.row l.head l.end × (l.head + l.row ≡ l.first + l.rows)
