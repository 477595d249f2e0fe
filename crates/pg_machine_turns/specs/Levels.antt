-- What runs inside an expression, on plain values. Each row between the expression and its term runs an operand, the tightest row
-- first. Everything between two terms is one turn: the rows get the term's outcome one after the other, until
-- one of them reads an infix operator and the term runs again, or the expression ends.
use Rattle.std.specs.Prelude.{ℕ, List, [], ◌∷◌, ◌++◌, Bool, true, false, Option, Some, None}
use Rattle.pg_tree.specs.Trees.{Tree}
use Rattle.pg_grammar_value.specs.declared.trail.Fixity.TheVariants as fixity
use Rattle.pg_grammar_value.specs.declared.trail.TrailItem.{TrailItem}
use Rattle.pg_expand.specs.declared.rows.Row.{Row}
use Rattle.pg_language.specs.Derives.{Spot, at, applied}
use Rattle.pg_language.specs.Answers.{Given}
use Rattle.pg_language.specs.Errors.{Error, merge, no_messages_at}
use Rattle.pg_language.specs.OperatorReads.{Read, read_at, unread}
use Rattle.pg_language.specs.Outcomes.{Outcome, ok, failed, empty_round}
use Rattle.pg_language.specs.Reactions.{after_failure}
use Rattle.pg_language.specs.RowReactions.{Setting, joined_trail, noted_operator, then_stretch, as_applied, or_return, as_operand, ambiguous_right, ambiguous_left, ambiguous_non, with_last, labelled_operator}

-- what a row read before the running operand: nothing, or a forest and an infix operator, with the trail of the row
-- up to the operand
pub data Preceding : Type 0 where
  none_precedes : Preceding
  right_precedes : (v : List Tree) (q : Read) (t : List TrailItem) → Preceding
  left_precedes : (v : List Tree) (q : Read) (t : List TrailItem) → Preceding
  non_precedes : (v : List Tree) (q : Read) (t : List TrailItem) → Preceding

pub data Level : Type 0 where
  -- an operand of the row runs, over the tighter rows, from this spot
  row_level : (row : Row) (tighter : List Row) (a : Spot) (before : Preceding) → Level
  -- the right side of a forest and a right-associative operator runs, with the trail of the row up to it
  right_level : (v : List Tree) (q : Read) (t : List TrailItem) → Level

-- what a level turns an outcome into: one for the next level, or an operand of a row that runs from a spot, with levels
-- between it and the next one
pub data Followed : Type 0 where
  hands_on : Outcome → Followed
  operand_runs : (row : Row) (tighter : List Row) (a : Spot) (before : Preceding) (between : List Level) → Followed

-- the outcome of a row from its start, if what follows the operator gives this outcome
abbrev pub after_operator : Read → List TrailItem → Outcome → Outcome
after_operator q t = then_stretch true t (no_messages_at q.end)

-- the trail of a row with one more infix operator
abbrev pub with_infix : List TrailItem → Read → List TrailItem
with_infix t q = joined_trail t (noted_operator fixity.Infix q.operator)

module _ (G : Given) (s : Setting) where
  -- the errors where no right-associative, or no left-associative, operator of the row follows an operand
  abbrev pub no_right : Row → ℕ → Error
  no_right r i = merge (unread G.text r.right i) (merge (ambiguous_left G.grammar G.text s.item r i) (ambiguous_non G.grammar G.text s.item r i))

  abbrev pub no_left : Row → ℕ → Error
  no_left r i = merge (unread G.text r.left i) (merge (ambiguous_right G.grammar G.text s.item r i) (ambiguous_non G.grammar G.text s.item r i))

  -- the answer of a row after its first operand, if no infix operator follows
  abbrev pub no_infix : Row → List Tree → Spot → Outcome
  no_infix r v b = labelled_operator (after_failure (no_right r b.place) (after_failure (no_left r b.place) (or_return b v (failed false (unread G.text r.non b.place)))))

  -- ---- an operand of a row was ok, followed by these infix operators of the row, if any

  abbrev pub after_first : Row → List Row → Bool → Spot → List Tree → List TrailItem → Error → Option Read → Option Read → Option Read → Followed
  after_first r ts c b v t e (Some q) left non = operand_runs r ts (at b q.end) (right_precedes v q (with_infix t q)) []
  after_first r ts c b v t e None (Some q) non = operand_runs r ts (at b q.end) (left_precedes v q (with_infix t q)) []
  after_first r ts c b v t e None None (Some q) = operand_runs r ts (at b q.end) (non_precedes v q (with_infix t q)) []
  after_first r ts c b v t e None None None = hands_on (then_stretch c t e (no_infix r v b))

  -- after the operand of a right-associative operator: another one may follow, and waits for its right side
  abbrev pub after_right : Row → List Row → List Tree → Read → List TrailItem → Bool → Spot → List Tree → List TrailItem → Error → Option Read → Followed
  after_right r ts v q t c b w u e (Some p) = operand_runs r ts (at b p.end) (right_precedes w p (with_infix u p)) (right_level v q t ∷ [])
  after_right r ts v q t c b w u e None =
      hands_on (after_operator q t (as_applied s.builders.infix q.operator v (then_stretch c u e (or_return b w (failed false (no_right r b.place))))))

  -- after the operand of a left-associative operator, which is applied at once
  abbrev pub after_left : Row → List Row → List Tree → Read → List TrailItem → Bool → Spot → List Tree → List TrailItem → Error → Option Read → Followed
  after_left r ts v q t c b w u e (Some p) = operand_runs r ts (at b p.end) (left_precedes (applied s.builders.infix q.operator (v ++ w)) p (with_infix (joined_trail t u) p)) []
  after_left r ts v q t c b w u e None =
      hands_on (after_operator q t (then_stretch c u e (or_return b (applied s.builders.infix q.operator (v ++ w)) (failed false (no_left r b.place)))))

  -- ---- a level gets an outcome

  abbrev pub row_follows : Row → List Row → Preceding → Outcome → Followed
  row_follows r ts none_precedes (ok c b v t e) = after_first r ts c b v t e (read_at G.grammar G.text s.item r.right b.place)
      (read_at G.grammar G.text s.item r.left b.place) (read_at G.grammar G.text s.item r.non b.place)
  row_follows r ts none_precedes (failed c e) = hands_on (failed c e)
  row_follows r ts none_precedes empty_round = hands_on empty_round
  row_follows r ts (right_precedes v q t) (ok c b w u e) = after_right r ts v q t c b w u e (read_at G.grammar G.text s.item r.right b.place)
  row_follows r ts (right_precedes v q t) (failed c e) = hands_on (after_operator q t (failed c e))
  row_follows r ts (right_precedes v q t) empty_round = hands_on empty_round
  row_follows r ts (left_precedes v q t) (ok c b w u e) = after_left r ts v q t c b w u e (read_at G.grammar G.text s.item r.left b.place)
  row_follows r ts (left_precedes v q t) (failed c e) = hands_on (after_operator q t (failed c e))
  row_follows r ts (left_precedes v q t) empty_round = hands_on empty_round
  row_follows r ts (non_precedes v q t) y = hands_on (after_operator q t (with_last G.grammar G.text s r q v y))

  abbrev pub follows : Level → Outcome → Followed
  follows (row_level r ts a before) x = row_follows r ts before (as_operand G.grammar G.text s r a x)
  follows (right_level v q t) x = hands_on (after_operator q t (as_applied s.builders.infix q.operator v x))
