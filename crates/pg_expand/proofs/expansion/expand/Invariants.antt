use Rattle.std.proofs.Common.{◌≡◌, take, filter, map}
use Rattle.pg_table.specs.Rows.{holds, precedences}
use Rattle.pg_expand.specs.Rows.{row_at}
use Rattle.pg_expand.proofs.expansion.expand.Given as goal

abbrev pub invariant-loop-precedence : goal.invariant-loop-precedence
invariant-loop-precedence l = l.rows.items ≡ map (row_at l.operators) (filter (holds l.operators) (take l.precedence-index precedences))
