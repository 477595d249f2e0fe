use Rattle.std.proofs.Common.{◌≡◌, ◌==◌, take, filter}
use Rattle.pg_expand.specs.Rows.{by_role}
use Rattle.pg_expand.proofs.expansion.row_at.Given as goal

abbrev pub invariant-loop-operator : goal.invariant-loop-operator
invariant-loop-operator l = l.row ≡ by_role (filter (λ o. o.precedence == l.precedence) (take l.operator-index l.operators))
