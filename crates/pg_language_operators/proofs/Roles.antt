-- The roles of rows by their numbers.
use Rattle.std.proofs.Common.{◌≡◌, ℕ, suc, List, [], Option, Some, None, refl, ap, ◌∙◌}
use Rattle.std.specs.Prelude.{map, slice_get, unwrap_or}
use Rattle.std.specs.Option.{option_map}
use Rattle.std.proofs.lemmas.Option.{slice_get-map}
use Rattle.pg_grammar_form.specs.Operators.{Operator}
use Rattle.pg_expand.specs.Rows.{by_role, row_numbered, rows_of}
use Rattle.pg_expand.specs.declared.rows.Row.{Row}
use Rattle.pg_language_operators.specs.RowRoles.{roles_of}
use Rattle.pg_language_operators.specs.declared.in_force.RowRoles.{RowRoles}

pub roles_numbered : (operators : List Operator) (k : ℕ) → unwrap_or (slice_get (map roles_of (rows_of operators)) k) (roles_of (by_role [])) ≡ roles_of (row_numbered operators (suc k))
roles_numbered operators k = ap (λ (o : Option RowRoles). unwrap_or o (roles_of (by_role []))) (slice_get-map roles_of (rows_of operators) k) ∙ go (slice_get (rows_of operators) k)
  where
    go : (o : Option Row) → unwrap_or (option_map roles_of o) (roles_of (by_role [])) ≡ roles_of (unwrap_or o (by_role []))
    go None = refl
    go (Some r) = refl
