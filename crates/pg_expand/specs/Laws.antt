-- Laws about the rows and the fitting trees of every table.
use Rattle.std.specs.Prelude.{◌≡◌, ◌↔◌, List}
use Rattle.pg_grammar_value.specs.Grammar.{Grammar}
use Rattle.pg_grammar_form.specs.Operators.{Operator}
use Rattle.pg_table.specs.Tables.{Table, IsTable, ComesFrom}
use Rattle.pg_table.specs.Fitting.{Expression, IsFitting}
use Rattle.pg_table.specs.Trails.{operators_read}
use Rattle.pg_expand.specs.declared.rows.Row.{Row}
use Rattle.pg_expand.specs.Readings.{Token, reading}
use Rattle.pg_expand.specs.Rows.{rows_of}
use Rattle.pg_expand.specs.RowGrammar.{RowsDerive}

-- the rows, read as a grammar, derive exactly the trees that fit the operators, each with its reading
abbrev pub DeriveFittingTrees : List Row → List Operator → Type 0
DeriveFittingTrees rows operators = (tokens : List Token) (x : Expression) → (RowsDerive rows tokens x ↔ (IsFitting operators x × (tokens ≡ reading x)))

-- the rows of every table derive exactly the fitting trees
abbrev pub RowsDeriveFittingTrees : Type 0
RowsDeriveFittingTrees = (table : Table) → IsTable table → DeriveFittingTrees (rows_of table.operators) table.operators

-- two trees that fit a table of a grammar are equal if their readings are
abbrev pub OneTreePerReading : Type 0
OneTreePerReading = (g : Grammar) (table : Table) (x y : Expression) → ComesFrom g table → IsFitting table.operators x → IsFitting table.operators y → reading x ≡ reading y → x ≡ y

-- two trees that fit a table of a grammar are equal if a trail keeps the same operators of them
abbrev pub OneTreePerOperators : Type 0
OneTreePerOperators = (g : Grammar) (table : Table) (x y : Expression) → ComesFrom g table → IsFitting table.operators x → IsFitting table.operators y → operators_read x ≡ operators_read y → x ≡ y
