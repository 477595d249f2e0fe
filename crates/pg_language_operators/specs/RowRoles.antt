-- The roles for which rows have operators, and what is kept beside the operators in force.
use Rattle.std.specs.Prelude.{◌≡◌, Bool, true, false, List, [], ◌∷◌, map}
use Rattle.pg_grammar_form.specs.Operators.{Operator}
use Rattle.pg_expand.specs.Lookups.{Groups, IsLookupOf}
use Rattle.pg_expand.specs.Rows.{rows_of}
use Rattle.pg_expand.specs.declared.rows.Row.{Row}
use Rattle.pg_language_operators.specs.declared.in_force.RowRoles.{RowRoles}

abbrev pub is_any : List Operator → Bool
is_any [] = false
is_any (o ∷ os) = true

abbrev pub roles_of : Row → RowRoles
roles_of r = record { right = is_any r.right; left = is_any r.left; non = is_any r.non; prefix = is_any r.prefix; postfix = is_any r.postfix }

-- the look-up of the operators, and the roles of their rows, the tightest first
pub record IsLaidOut (operators : List Operator) (groups : Groups) (roles : List RowRoles) : Type 0 where
  pub looked_up : IsLookupOf operators groups
  pub by_row : roles ≡ map roles_of (rows_of operators)
