-- The parser of the rows read as a grammar: what each row derives, in any order of trying (Text.Parsec.Expr). The parsers that report an ambiguous
-- use never succeed, so they derive nothing.
use Rattle.std.specs.Prelude.{List, [], ◌∷◌, ◌++◌}
use Rattle.pg_grammar_form.specs.Operators.{Operator}
use Rattle.pg_grammar_value.specs.declared.trail.Fixity.TheVariants as fixity
use Rattle.pg_table.specs.Trails.{applied}
use Rattle.pg_expand.specs.declared.rows.Row.{Row}
use Rattle.pg_table.specs.Fitting.{Expression, term, prefixed, postfixed, joined, IsAmong}
use Rattle.pg_expand.specs.Readings.{Token, a_term, an_operator}

-- a language: lists of tokens, each with its tree
abbrev pub Language : Type 1
Language = List Token → Expression → Type 0

-- a term alone, with the tree of a term
pub data IsTerm : List Token → Expression → Type 0 where
  a_lone_term : IsTerm (a_term ∷ []) term

-- an operand of a row: what the tighter rows derive, perhaps with one prefix of the row before it and one postfix after it
pub data IsOperand (row : Row) (tighter : Language) : List Token → Expression → Type 0 where
  bare : {s : List Token} {x : Expression} → tighter s x → IsOperand row tighter s x
  with_prefix : {s : List Token} {o : Operator} {x : Expression} → IsAmong row.prefix o → tighter s x →
      IsOperand row tighter (an_operator (applied fixity.Prefix o) ∷ s) (prefixed o x)
  with_postfix : {s : List Token} {o : Operator} {x : Expression} → tighter s x → IsAmong row.postfix o →
      IsOperand row tighter (s ++ an_operator (applied fixity.Postfix o) ∷ []) (postfixed o x)
  with_both : {s : List Token} {o p : Operator} {x : Expression} → IsAmong row.prefix o → tighter s x → IsAmong row.postfix p →
      IsOperand row tighter (an_operator (applied fixity.Prefix o) ∷ (s ++ an_operator (applied fixity.Postfix p) ∷ [])) (postfixed p (prefixed o x))

mutual
  -- after an operand x: a right-associative operator, an operand, and what follows it
  pub data GoesRight (row : Row) (tighter : Language) : Expression → List Token → Expression → Type 0 where
    right : {s t : List Token} {o : Operator} {x y z : Expression} → IsAmong row.right o → IsOperand row tighter s y → MayGoRight row tighter y t z →
        GoesRight row tighter x (an_operator (applied fixity.Infix o) ∷ (s ++ t)) (joined o x z)

  -- perhaps such a continuation, or nothing
  pub data MayGoRight (row : Row) (tighter : Language) : Expression → List Token → Expression → Type 0 where
    on_right : {s : List Token} {x y : Expression} → GoesRight row tighter x s y → MayGoRight row tighter x s y
    ends_right : {x : Expression} → MayGoRight row tighter x [] x

mutual
  -- after a tree x: a left-associative operator and an operand, and what follows the tree of the three
  pub data GoesLeft (row : Row) (tighter : Language) : Expression → List Token → Expression → Type 0 where
    left : {s t : List Token} {o : Operator} {x y z : Expression} → IsAmong row.left o → IsOperand row tighter s y → MayGoLeft row tighter (joined o x y) t z →
        GoesLeft row tighter x (an_operator (applied fixity.Infix o) ∷ (s ++ t)) z

  -- perhaps such a continuation, or nothing
  pub data MayGoLeft (row : Row) (tighter : Language) : Expression → List Token → Expression → Type 0 where
    on_left : {s : List Token} {x y : Expression} → GoesLeft row tighter x s y → MayGoLeft row tighter x s y
    ends_left : {x : Expression} → MayGoLeft row tighter x [] x

-- what a row derives over the tighter ones: an operand, and after it right-associative operators with their operands, or left-associative ones, or
-- one non-associative one, or nothing
pub data RowDerives (row : Row) (tighter : Language) : List Token → Expression → Type 0 where
  by_right : {s t : List Token} {x y : Expression} → IsOperand row tighter s x → GoesRight row tighter x t y → RowDerives row tighter (s ++ t) y
  by_left : {s t : List Token} {x y : Expression} → IsOperand row tighter s x → GoesLeft row tighter x t y → RowDerives row tighter (s ++ t) y
  by_non : {s t : List Token} {o : Operator} {x y : Expression} → IsOperand row tighter s x → IsAmong row.non o → IsOperand row tighter t y →
      RowDerives row tighter (s ++ an_operator (applied fixity.Infix o) ∷ t) (joined o x y)
  alone : {s : List Token} {x : Expression} → IsOperand row tighter s x → RowDerives row tighter s x

-- what rows derive, folded over the tighter ones, the tightest first
abbrev pub fold_derives : Language → List Row → Language
fold_derives tighter [] = tighter
fold_derives tighter (row ∷ rows) = fold_derives (RowDerives row tighter) rows

-- what rows derive over the term
abbrev pub RowsDerive : List Row → Language
RowsDerive = fold_derives IsTerm
