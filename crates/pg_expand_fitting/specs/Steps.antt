-- The steps through an operator tree from left to right: its terms and the symbols of its operators are read, and an operator is applied as soon as
-- its operands are there.
use Rattle.std.specs.Prelude.{◌≡◌, List, [], ◌∷◌, ◌++◌, Option, None, Some}
use Rattle.pg_grammar_form.specs.Operators.{Operator}
use Rattle.pg_grammar_value.specs.declared.trail.AppliedOperator.{AppliedOperator}
use Rattle.pg_grammar_value.specs.declared.trail.Fixity.TheVariants as fixity
use Rattle.pg_table.specs.Tables.{is_prefix}
use Rattle.pg_table.specs.Fitting.{Expression, term, prefixed, postfixed, joined, IsAmong, IsFitting}
use Rattle.pg_table.specs.Trails.{applied, operators_read}

-- a term or an operator's symbol is read, or an operator is applied
pub data Step : Type 0 where
  -- a term is read
  a_term : Step
  -- an operator's symbol is read
  a_symbol : AppliedOperator → Step
  -- an operator is applied to the last operands
  an_application : AppliedOperator → Step

-- the steps of a tree
abbrev pub steps_of : Expression → List Step
steps_of term = a_term ∷ []
steps_of (prefixed o x) = a_symbol (applied fixity.Prefix o) ∷ (steps_of x ++ an_application (applied fixity.Prefix o) ∷ [])
steps_of (postfixed o x) = steps_of x ++ a_symbol (applied fixity.Postfix o) ∷ (an_application (applied fixity.Postfix o) ∷ [])
steps_of (joined o x y) = steps_of x ++ a_symbol (applied fixity.Infix o) ∷ (steps_of y ++ an_application (applied fixity.Infix o) ∷ [])

-- a tree that fits the operators has these in reading order, and has these steps
pub record HasTree (operators : List Operator) (read : List AppliedOperator) (steps : List Step) : Type 0 where
  pub tree : Expression
  pub fits : IsFitting operators tree
  pub is_read : operators_read tree ≡ read
  pub is_done : steps_of tree ≡ steps

-- no tree that fits the operators has these in reading order
abbrev pub HasNoTree : List Operator → List AppliedOperator → Type 0
HasNoTree operators read = (x : Expression) → IsFitting operators x → operators_read x ≡ read → ⊥

-- a symbol, and whether it stands before its operand, determine the operator
abbrev pub AreTold : List Operator → Type 0
AreTold operators = (o p : Operator) → IsAmong operators o → IsAmong operators p → is_prefix o.role ≡ is_prefix p.role → o.symbol ≡ p.symbol → o ≡ p

-- the steps of a tree with these operators in reading order, if there is one
abbrev pub IsJudged : List Operator → List AppliedOperator → Option (List Step) → Type 0
IsJudged operators read None = AreTold operators → HasNoTree operators read
IsJudged operators read (Some steps) = HasTree operators read steps
