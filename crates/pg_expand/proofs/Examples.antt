-- Worked readings of small expressions, and what is not derived: the definitions read by hand.
use Rattle.std.proofs.Common.{◌≡◌, List, [], ◌∷◌, refl, arith}
use Rattle.std.specs.Prelude.{codes}
use Rattle.std.specs.List.{AllByRecursion}
use Rattle.pg_grammar_form.specs.Operators.{Operator, IsOperator}
use Rattle.pg_grammar_form.specs.declared.decl.Role.TheVariants.{InfixLeft, Prefix, Postfix}
use Rattle.pg_grammar_value.specs.declared.trail.Fixity.TheVariants as fixity
use Rattle.pg_table.specs.Trails.{applied}
use Rattle.pg_table.specs.Fitting.{term, prefixed, postfixed, joined}
use Rattle.pg_expand.specs.Readings.{Token, a_term, an_operator}
use Rattle.pg_expand.specs.Rows.{rows_of}
use Rattle.pg_expand.specs.RowGrammar.{RowsDerive, a_lone_term, bare, with_both, left, on_left, ends_left, by_left, alone}
use Rattle.pg_expand.proofs.Levels.{rows_exact}

abbrev plus : Operator
plus = record { role = InfixLeft; precedence = 6; symbol = codes "+" }

abbrev times : Operator
times = record { role = InfixLeft; precedence = 7; symbol = codes "*" }

abbrev minus : Operator
minus = record { role = Prefix; precedence = 7; symbol = codes "-" }

abbrev bang : Operator
bang = record { role = Postfix; precedence = 7; symbol = codes "!" }

abbrev sums : List Operator
sums = plus ∷ times ∷ minus ∷ bang ∷ []

proper : AllByRecursion IsOperator sums
proper = (
  record { digit = omega arith; spelled = omega arith },
  (
    record { digit = omega arith; spelled = omega arith },
    (
      record { digit = omega arith; spelled = omega arith },
      (record { digit = omega arith; spelled = omega arith }, tt),
    ),
  ),
)

-- there are two rows, the one of 7 and the one of 6
two_rows : rows_of sums ≡ (
    record { right = []; left = times ∷ []; non = []; prefix = minus ∷ []; postfix = bang ∷ [] } ∷
    record { right = []; left = plus ∷ []; non = []; prefix = []; postfix = [] } ∷ [])
two_rows = refl

-- the tighter operator stands below: term + term * term
precedence : RowsDerive (rows_of sums) (a_term ∷ an_operator (applied fixity.Infix plus) ∷ a_term ∷ an_operator (applied fixity.Infix times) ∷ a_term ∷ [])
    (joined plus term (joined times term term))
precedence = by_left (bare (alone (bare a_lone_term))) (left (0, refl) (bare (by_left (bare a_lone_term) (left (0, refl) (bare a_lone_term) ends_left))) ends_left)

-- two operators of a row lean to the left: term + term + term
leans_left : RowsDerive (rows_of sums) (a_term ∷ an_operator (applied fixity.Infix plus) ∷ a_term ∷ an_operator (applied fixity.Infix plus) ∷ a_term ∷ [])
    (joined plus (joined plus term term) term)
leans_left = by_left (bare (alone (bare a_lone_term))) (left (0, refl) (bare (alone (bare a_lone_term))) (on_left (left (0, refl) (bare (alone (bare a_lone_term))) ends_left)))

-- of a row a prefix binds tighter than a postfix: - term !
prefix_first : RowsDerive (rows_of sums) (an_operator (applied fixity.Prefix minus) ∷ a_term ∷ an_operator (applied fixity.Postfix bang) ∷ []) (postfixed bang (prefixed minus term))
prefix_first = alone (bare (alone (with_both (0, refl) a_lone_term (0, refl))))

-- two prefixes of a row in a row are no expression: - - term
prefix_once : (tokens : List Token) → RowsDerive (rows_of sums) tokens (prefixed minus (prefixed minus term)) → ⊥
prefix_once tokens d = let fits = ((rows_exact sums proper tokens (prefixed minus (prefixed minus term))).0 d).0 in let below = fits.3 in absurd (omega arith)
