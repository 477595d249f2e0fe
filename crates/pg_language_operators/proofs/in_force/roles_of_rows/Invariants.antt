use Rattle.std.proofs.Common.{◌≡◌, take}
use Rattle.std.specs.Prelude.{map}
use Rattle.pg_language_operators.specs.RowRoles.{roles_of}
use Rattle.pg_language_operators.proofs.in_force.roles_of_rows.Given as goal

abbrev pub invariant-loop-row : goal.invariant-loop-row
invariant-loop-row l = l.roles.items ≡ map roles_of (take l.row-index l.row-items)
