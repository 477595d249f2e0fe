-- The rows of a table as the parser of an expression needs them: the tightest first, each row's operators by role.
use Rattle.std.specs.Prelude.{ℕ, zero, suc, Bool, true, false, ◌==◌, List, [], filter, map, slice_get, unwrap_or}
use Rattle.pg_grammar_form.specs.Operators.{Operator}
use Rattle.pg_grammar_form.specs.declared.decl.Role.{Role}
use Rattle.pg_grammar_form.specs.declared.decl.Role.TheVariants.{InfixLeft, InfixRight, InfixNone, Prefix, Postfix}
use Rattle.pg_expand.specs.declared.rows.Row.{Row}
use Rattle.pg_table.specs.Rows.{rows}
use Rattle.pg_table.specs.Tables.{is_prefix}

-- whether a role is this one
abbrev pub is_right : Role → Bool
is_right InfixLeft = false
is_right InfixRight = true
is_right InfixNone = false
is_right Prefix = false
is_right Postfix = false

abbrev pub is_left : Role → Bool
is_left InfixLeft = true
is_left InfixRight = false
is_left InfixNone = false
is_left Prefix = false
is_left Postfix = false

abbrev pub is_non : Role → Bool
is_non InfixLeft = false
is_non InfixRight = false
is_non InfixNone = true
is_non Prefix = false
is_non Postfix = false

abbrev pub is_postfix : Role → Bool
is_postfix InfixLeft = false
is_postfix InfixRight = false
is_postfix InfixNone = false
is_postfix Prefix = false
is_postfix Postfix = true

-- operators by role, each role's in order
abbrev pub by_role : List Operator → Row
by_role operators = record {
  right = filter (λ o. is_right o.role) operators;
  left = filter (λ o. is_left o.role) operators;
  non = filter (λ o. is_non o.role) operators;
  prefix = filter (λ o. is_prefix o.role) operators;
  postfix = filter (λ o. is_postfix o.role) operators;
}

-- the row of a precedence
abbrev pub row_at : List Operator → ℕ → Row
row_at operators p = by_role (filter (λ o. o.precedence == p) operators)

-- the rows of a table
abbrev pub rows_of : List Operator → List Row
rows_of operators = map (row_at operators) (rows operators)

-- whether the second role equals the first
abbrev pub is_role : Role → Role → Bool
is_role InfixLeft = is_left
is_role InfixRight = is_right
is_role InfixNone = is_non
is_role Prefix = is_prefix
is_role Postfix = is_postfix

-- a row's operators of a role
abbrev pub of_role : Role → Row → List Operator
of_role InfixLeft row = row.left
of_role InfixRight row = row.right
of_role InfixNone row = row.non
of_role Prefix row = row.prefix
of_role Postfix row = row.postfix

-- the row with a number, from 1, the tightest; for any other number a row without operators
abbrev pub row_numbered : List Operator → ℕ → Row
row_numbered operators zero = by_role []
row_numbered operators (suc k) = unwrap_or (slice_get (rows_of operators) k) (by_role [])
