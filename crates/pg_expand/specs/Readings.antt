-- The reading of an operator tree: its terms and operators in the order of the text.
use Rattle.std.specs.Prelude.{List, [], ◌∷◌, ◌++◌}
use Rattle.pg_grammar_value.specs.declared.trail.AppliedOperator.{AppliedOperator}
use Rattle.pg_grammar_value.specs.declared.trail.Fixity.TheVariants as fixity
use Rattle.pg_table.specs.Fitting.{Expression, term, prefixed, postfixed, joined}
use Rattle.pg_table.specs.Trails.{applied}

-- a term, or an operator: its symbol, and the side of its operands on which it stands
pub data Token : Type 0 where
  a_term : Token
  an_operator : AppliedOperator → Token

-- the operators and terms of a tree from left to right
abbrev pub reading : Expression → List Token
reading term = a_term ∷ []
reading (prefixed o x) = an_operator (applied fixity.Prefix o) ∷ reading x
reading (postfixed o x) = reading x ++ an_operator (applied fixity.Postfix o) ∷ []
reading (joined o x y) = reading x ++ an_operator (applied fixity.Infix o) ∷ reading y
