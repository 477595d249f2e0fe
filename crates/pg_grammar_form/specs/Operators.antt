-- Operators, as declarations add them to a table.
use Rattle.std.specs.Prelude.{◌<◌, ◌≤◌, ℕ, List, length}
use Rattle.pg_grammar_form.specs.declared.decl.Role.{Role}

-- a role, a precedence (9 binds tightest), and the characters of a symbol
pub record Operator : Type 0 where
  pub role : Role
  pub precedence : ℕ
  pub symbol : List ℕ

-- an operator that can be declared: its precedence is a digit, and its symbol isn't empty
pub record IsOperator (operator : Operator) : Type 0 where
  pub digit : operator.precedence ≤ 9
  pub spelled : 0 < length operator.symbol
