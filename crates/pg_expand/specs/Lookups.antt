-- Looking up operators by their symbols, each with the number of its row.
use Rattle.std.specs.Prelude.{◌≡◌, ℕ, suc, Bool, ◌==◌, ◌&&◌, if◌then◌else◌, List, [], ◌∷◌, ◌++◌, filter, map, unwrap_or}
use Rattle.std.specs.Map.{lookup}
use Rattle.std.specs.Str.{bytes_eq}
use Rattle.pg_grammar_form.specs.Operators.{Operator}
use Rattle.pg_grammar_form.specs.declared.decl.Role.{Role}
use Rattle.pg_table.specs.Fitting.{row}
use Rattle.pg_expand.specs.declared.lookup.RowOperator.{RowOperator}
use Rattle.pg_expand.specs.Rows.{is_role, of_role, row_numbered}

-- an operator of a table with its row
abbrev pub with_row : List Operator → Operator → RowOperator
with_row operators o = record { row = row operators o; operator = o }

-- the operators of a table with this symbol, in the table's order, each with its row
abbrev pub with_symbol : List Operator → List ℕ → List RowOperator
with_symbol operators symbol = map (with_row operators) (filter (λ o. bytes_eq o.symbol symbol) operators)

-- symbols, each with its operators
abbrev pub Groups : Type 0
Groups = List (List ℕ × List RowOperator)

-- the operators of a symbol
abbrev pub found : Groups → List ℕ → List RowOperator
found groups symbol = unwrap_or (lookup (bytes_eq symbol) groups) []

-- looking up a symbol finds exactly the table's operators with it, each with its row
pub record IsLookupOf (operators : List Operator) (groups : Groups) : Type 0 where
  pub finds : (symbol : List ℕ) → found groups symbol ≡ with_symbol operators symbol

-- one more operator is found by its symbol, after the others
abbrev pub IsAdded : Groups → RowOperator → Groups → Type 0
IsAdded old one new = (symbol : List ℕ) → found new symbol ≡ found old symbol ++ (if bytes_eq one.operator.symbol symbol then one ∷ [] else [])

-- ---- rows of the operators found

-- whether an operator found is of this row and role
abbrev pub is_of : ℕ → Role → RowOperator → Bool
is_of number role f = (f.row == number) && is_role role f.operator.role

-- the operators found that are of this row and role
abbrev pub in_row : ℕ → Role → List RowOperator → List Operator
in_row number role fs = map (λ f. f.operator) (filter (is_of number role) fs)

-- for each row and role, the operators found by a symbol are those of the row with that symbol, in the row's order
abbrev pub RowsAndLookupsAgree : Type 0
RowsAndLookupsAgree = (operators : List Operator) (k : ℕ) (role : Role) (symbol : List ℕ) →
    in_row (suc k) role (with_symbol operators symbol) ≡ filter (λ o. bytes_eq o.symbol symbol) (of_role role (row_numbered operators (suc k)))
