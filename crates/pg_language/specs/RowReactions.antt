-- How the parsers inside an expression react to the outcomes of their parts (Text.Parsec.Expr). The trail of a stretch of an expression begins with
-- the operators read in it.
use Rattle.std.specs.Prelude.{ℕ, List, [], ◌∷◌, ◌++◌, Bool, true, false, ◌||◌, Option, Some, None, codes}
use Rattle.pg_message.specs.declared.answer.AnswerKind.TheVariants.{EmptyError}
use Rattle.pg_tree.specs.Trees.{Tree}
use Rattle.pg_grammar_value.specs.Grammar.{Grammar}
use Rattle.pg_grammar_form.specs.Operators.{Operator}
use Rattle.pg_grammar_form.specs.declared.operators_item.OperatorsItem.{OperatorsItem}
use Rattle.pg_grammar_form.specs.declared.used.BuilderUse.{BuilderUse}
use Rattle.pg_grammar_form.specs.declared.used.OperatorBuilders.{OperatorBuilders}
use Rattle.pg_grammar_value.specs.declared.trail.AppliedOperator.{AppliedOperator}
use Rattle.pg_grammar_value.specs.declared.trail.Fixity.{Fixity}
use Rattle.pg_grammar_value.specs.declared.trail.Fixity.TheVariants as fixity
use Rattle.pg_grammar_value.specs.declared.trail.TrailItem.{TrailItem}
use Rattle.pg_grammar_value.specs.declared.trail.TrailItem.TheVariants.{Alt, Rounds, Ops}
use Rattle.pg_table.specs.Trails as trails
use Rattle.pg_expand.specs.declared.rows.Row.{Row}
use Rattle.pg_language.specs.Derives.{Spot, at, applied}
use Rattle.pg_language.specs.Errors.{Error, merge, relabel, no_messages_at}
use Rattle.pg_language.specs.OperatorReads.{Read, read_at, unread, ambiguous}
use Rattle.pg_language.specs.Outcomes.{Outcome, ok, failed, empty_round}
use Rattle.pg_language.specs.Reactions.{error_after, ok_kind, error_kind, unless_begun}

-- what is fixed in an expression: the operators item, the builders and the node of the term
pub record Setting : Type 0 where
  pub item : OperatorsItem
  pub builders : OperatorBuilders
  pub term : ℕ

-- ---- trails

-- the operators that a trail begins with
abbrev pub operators_of : List TrailItem → List AppliedOperator
operators_of [] = []
operators_of (Alt k ∷ t) = []
operators_of (Rounds k ∷ t) = []
operators_of (Ops os ∷ t) = os

-- the items after those operators
abbrev pub items_of : List TrailItem → List TrailItem
items_of [] = []
items_of (Alt k ∷ t) = Alt k ∷ t
items_of (Rounds k ∷ t) = Rounds k ∷ t
items_of (Ops os ∷ t) = t

-- the trail of two stretches of one expression: the operators of both, and then the items of both
abbrev pub joined_trail : List TrailItem → List TrailItem → List TrailItem
joined_trail t u = Ops (operators_of t ++ operators_of u) ∷ (items_of t ++ items_of u)

-- the trail of an operator alone
abbrev pub noted_operator : Fixity → Operator → List TrailItem
noted_operator side o = Ops (trails.applied side o ∷ []) ∷ []

-- ---- stretches

-- the outcome of two stretches, from a first that was ok and the outcome of the second, with the second's forest
abbrev pub then_stretch : Bool → List TrailItem → Error → Outcome → Outcome
then_stretch c t e (ok d b w u f) = ok (c || d) b w (joined_trail t u) (error_after d e f)
then_stretch c t e (failed d f) = failed (c || d) (error_after d e f)
then_stretch c t e empty_round = empty_round

-- as `then_stretch`, if the first stretch is an operator that was read
abbrev pub then_operand : Fixity → Read → Outcome → Outcome
then_operand side r = then_stretch true (noted_operator side r.operator) (no_messages_at r.end)

-- the outcome, with an operator applied to a forest followed by the outcome's
abbrev pub as_applied : BuilderUse → Operator → List Tree → Outcome → Outcome
as_applied used o v (ok c b w t e) = ok c b (applied used o (v ++ w)) t e
as_applied used o v (failed c e) = failed c e
as_applied used o v empty_round = empty_round

-- `<|> return`: if nothing was consumed, a failure is replaced by the forest so far
abbrev pub or_return : Spot → List Tree → Outcome → Outcome
or_return a v (ok c b w t e) = ok c b w t e
or_return a v (failed c e) = unless_begun c a v e
or_return a v empty_round = empty_round

-- ---- prefixes and postfixes

-- the error if none of these is read: something without a name was expected
abbrev pub no_affix : List ℕ → List Operator → ℕ → Error
no_affix text operators i = relabel EmptyError [] (unread text operators i)

-- the spot after a prefix, if there is one
abbrev pub past_prefix : Spot → Option Read → Spot
past_prefix a None = a
past_prefix a (Some r) = at a r.end

-- the outcome from a prefix on, if there is one, given the outcome after it
abbrev pub with_prefix : List ℕ → OperatorBuilders → List Operator → Spot → Option Read → Outcome → Outcome
with_prefix text builders operators a None o = then_stretch false [] (no_affix text operators a.place) o
with_prefix text builders operators a (Some r) o = then_operand fixity.Prefix r (as_applied builders.prefix r.operator [] o)

-- the outcome of a postfix, if there is one, after a forest
abbrev pub postfix_outcome : List ℕ → OperatorBuilders → List Operator → List Tree → Spot → Option Read → Outcome
postfix_outcome text builders operators v a None = ok false a v [] (no_affix text operators a.place)
postfix_outcome text builders operators v a (Some r) =
    ok true (at a r.end) (applied builders.postfix r.operator v) (noted_operator fixity.Postfix r.operator) (no_messages_at r.end)

-- the outcome with a postfix, if there is one, given the outcome before it
abbrev pub with_postfix : Grammar → List ℕ → Setting → List Operator → Outcome → Outcome
with_postfix g text s operators (ok c b v t e) =
    then_stretch c t e (postfix_outcome text s.builders operators v b (read_at g text s.item operators b.place))
with_postfix g text s operators (failed c e) = failed c e
with_postfix g text s operators empty_round = empty_round

-- the outcome of an operand of a row, from that of the tighter rows after its prefix
abbrev pub as_operand : Grammar → List ℕ → Setting → Row → Spot → Outcome → Outcome
as_operand g text s row a o =
    with_postfix g text s row.postfix (with_prefix text s.builders row.prefix a (read_at g text s.item row.prefix a.place) o)

-- ---- infix operators

-- the errors for an ambiguous use of the operators of a row that associate to the right, to the left, and to neither side
abbrev pub ambiguous_right : Grammar → List ℕ → OperatorsItem → Row → ℕ → Error
ambiguous_right g text item row = ambiguous g text item row.right (codes "right")

abbrev pub ambiguous_left : Grammar → List ℕ → OperatorsItem → Row → ℕ → Error
ambiguous_left g text item row = ambiguous g text item row.left (codes "left")

abbrev pub ambiguous_non : Grammar → List ℕ → OperatorsItem → Row → ℕ → Error
ambiguous_non g text item row = ambiguous g text item row.non (codes "non")

-- if nothing was consumed, the parsers that report an ambiguous use come next; they never succeed, and this is their error
abbrev pub or_ambiguous : Error → Outcome → Outcome
or_ambiguous e (ok c b v t f) = ok c b v t f
or_ambiguous e (failed true f) = failed true f
or_ambiguous e (failed false f) = failed false (merge f e)
or_ambiguous e empty_round = empty_round

-- the outcome after a non-associative operator and a forest before it, from that of its right operand; any infix operator of the row that follows is
-- an ambiguous use
abbrev pub with_last : Grammar → List ℕ → Setting → Row → Read → List Tree → Outcome → Outcome
with_last g text s row r v (ok c b w t e) =
    let f : Error = merge (ambiguous_right g text s.item row b.place)
    (merge (ambiguous_left g text s.item row b.place) (ambiguous_non g text s.item row b.place)) in
    then_stretch c t e (unless_begun false b (applied s.builders.infix r.operator (v ++ w)) f)
with_last g text s row r v (failed c e) = failed c e
with_last g text s row r v empty_round = empty_round

-- whatever may follow an operand is named `operator` in errors
abbrev pub labelled_operator : Outcome → Outcome
labelled_operator (ok c b v t e) = ok c b v t (relabel (ok_kind c) (codes "operator") e)
labelled_operator (failed c e) = failed c (relabel (error_kind c) (codes "operator") e)
labelled_operator empty_round = empty_round
