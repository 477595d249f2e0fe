-- What a text has where an operator may stand, as rows ask for it.
use Rattle.std.specs.Prelude.{◌≡◌, ◌<◌, ◌≤◌, ◌==◌, ℕ, suc, Bool, List, Option, Some, None, length, find}
use Rattle.std.specs.List.{list_any}
use Rattle.pg_grammar_form.specs.Operators.{Operator}
use Rattle.pg_grammar_form.specs.declared.decl.Role.{Role}
use Rattle.pg_grammar_form.specs.declared.operators_item.OperatorsItem.{OperatorsItem}
use Rattle.pg_grammar_value.specs.Grammar.{Grammar}
use Rattle.pg_expand.specs.declared.lookup.RowOperator.{RowOperator}
use Rattle.pg_expand.specs.Rows.{of_role, row_numbered}
use Rattle.pg_expand.specs.Lookups.{is_of}
use Rattle.pg_language.specs.OperatorReads as language
use Rattle.pg_language.specs.OperatorReads.{read_at}
use Rattle.pg_language_operators.specs.declared.standing.Read.{Read}
use Rattle.pg_language_operators.specs.declared.standing.Standing.{Standing}

-- an operator that was read, as the definitions have it
abbrev pub read_of : Read → language.Read
read_of r = record { operator = r.operator.now; end = r.end }

-- the operator, if there is one, as read up to the place
abbrev pub read_up_to : ℕ → Option RowOperator → Option language.Read
read_up_to j None = None
read_up_to j (Some f) = Some (record { operator = f.operator; end = j })

-- the operator read for a row and role: the first of those found that has them
abbrev pub reads : Standing → ℕ → Role → Option language.Read
reads s number role = read_up_to s.end (find (is_of number role) s.found.now)

-- whether one of the operators found is of the row, whatever its role
abbrev pub has_row : ℕ → List RowOperator → Bool
has_row number fs = list_any (λ f. f.row == number) fs

-- what the place has: for each row and role it reads what the row's operators of the role read there; and whatever is read ends after the place, in
-- the text, and its symbol is the run
pub record Stands (g : Grammar) (text : List ℕ) (item : OperatorsItem) (operators : List Operator) (i : ℕ) (s : Standing) : Type 0 where
  pub by_row : (k : ℕ) (role : Role) → reads s (suc k) role ≡ read_at g text item (of_role role (row_numbered operators (suc k))) i
  pub ahead : (number : ℕ) (role : Role) (r : language.Read) → reads s number role ≡ Some r → (i < r.end) × (r.end ≤ length text)
  pub spelled : (number : ℕ) (role : Role) (r : language.Read) → reads s number role ≡ Some r → r.operator.symbol ≡ s.run.now
