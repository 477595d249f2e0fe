-- Operators are judged one after another, as they are read. Each waits until its last operand ends, which the next operator shows.
use Rattle.std.specs.Prelude.{◌==◌, ◌&&◌, ◌||◌, not, nat_lt, if◌then◌else◌, ℕ, Bool, true, false, List, [], ◌∷◌, ◌++◌, Option, None, Some, is_some, map, option_map, option_and_then}
use Rattle.pg_grammar_form.specs.Operators.{Operator}
use Rattle.pg_grammar_form.specs.declared.decl.Role.{Role}
use Rattle.pg_grammar_form.specs.declared.decl.Role.TheVariants.{InfixLeft, InfixRight, InfixNone, Prefix, Postfix}
use Rattle.pg_grammar_value.specs.declared.trail.AppliedOperator.{AppliedOperator}
use Rattle.pg_grammar_value.specs.declared.trail.Fixity.{Fixity}
use Rattle.pg_grammar_value.specs.declared.trail.Fixity.TheVariants as fixity
use Rattle.pg_table.specs.Tables.{is_prefix}
use Rattle.pg_expand.specs.declared.lookup.RowOperator.{RowOperator}
use Rattle.pg_expand.specs.Rows.{is_left, is_right, is_postfix}
use Rattle.pg_expand.specs.Lookups.{Groups, found, with_symbol}
use Rattle.pg_expand_fitting.specs.declared.step as declared_step
use Rattle.pg_expand_fitting.specs.declared.step.Step.TheVariants as declared
use Rattle.pg_expand_fitting.specs.declared.known.Known as declared_known
use Rattle.pg_expand_fitting.specs.declared.judge.Judge as declared_judge
use Rattle.pg_expand_fitting.specs.Steps.{Step, a_term, a_symbol, an_application}

-- an operator that was read and found in the table, with the number of its row
pub record Known : Type 0 where
  pub row : ℕ
  pub role : Role
  pub applied : AppliedOperator

-- ---- looking up

-- whether a role is infix
abbrev pub is_infix : Role → Bool
is_infix InfixLeft = true
is_infix InfixRight = true
is_infix InfixNone = true
is_infix Prefix = false
is_infix Postfix = false

abbrev pub stands_on : Fixity → Role → Bool
stands_on fixity.Prefix role = is_prefix role
stands_on fixity.Infix role = is_infix role
stands_on fixity.Postfix role = is_postfix role

-- the first operator found that stands on the side on which this one was read
abbrev pub first_known : AppliedOperator → List RowOperator → Option Known
first_known a [] = None
first_known a (f ∷ fs) = if stands_on a.fixity f.operator.role then Some (record { row = f.row; role = f.operator.role; applied = a }) else first_known a fs

-- the operator of the table that was read
abbrev pub known_in : List Operator → AppliedOperator → Option Known
known_in operators a = first_known a (with_symbol operators a.symbol)

-- the operator that was read, found by its symbol
abbrev pub known_by : Groups → AppliedOperator → Option Known
known_by groups a = first_known a (found groups a.symbol)

-- ---- which operators may stand on which side

-- whether a role is prefix or postfix
abbrev pub is_unary : Role → Bool
is_unary InfixLeft = false
is_unary InfixRight = false
is_unary InfixNone = false
is_unary Prefix = true
is_unary Postfix = true

-- whether a tree with the second operator at its root may be the last operand of the first
abbrev pub goes_under : Known → Known → Bool
goes_under w o = nat_lt o.row w.row || (not (is_prefix w.role) && ((o.row == w.row) && (is_unary o.role || (is_right w.role && is_right o.role))))

-- whether such a tree may be the last operand of the newest waiting operator
abbrev pub top_takes : List Known → Known → Bool
top_takes [] o = true
top_takes (w ∷ waiting) o = goes_under w o

-- the row of an operand's root operator, 0 for a term
abbrev pub root_row : Option Known → ℕ
root_row None = 0
root_row (Some k) = k.row

-- whether an operand's root is of the same row and may stand on the left of this infix operator
abbrev pub beside : Known → Option Known → Bool
beside o None = false
beside o (Some k) = (k.row == o.row) && (is_unary k.role || (is_left o.role && is_left k.role))

-- whether an operand with this root may stand on the left of this infix operator
abbrev pub goes_left : Known → Option Known → Bool
goes_left o root = nat_lt (root_row root) o.row || beside o root

-- whether an operand's root is a prefix operator of the same row
abbrev pub is_prefixed : Known → Option Known → Bool
is_prefixed o None = false
is_prefixed o (Some k) = (k.row == o.row) && is_prefix k.role

-- whether an operand with this root may stand before this postfix operator
abbrev pub takes_postfix : Known → Option Known → Bool
takes_postfix o root = nat_lt (root_row root) o.row || is_prefixed o root

-- ---- the judge

-- the operators that wait for their last operand, the newest first; the operator that was read last, if it was a postfix operator; and the steps so
-- far
pub record Judge : Type 0 where
  pub waiting : List Known
  pub last : Option Known
  pub steps : List Step

-- the operators that wait after an operand, the operand's root if it isn't a term, and the steps so far
pub record Closed : Type 0 where
  pub waiting : List Known
  pub root : Option Known
  pub steps : List Step

-- the operand that was read last: a term, unless a postfix operator was read last
abbrev pub operand_of : List Known → Option Known → List Step → Closed
operand_of waiting None steps = record { waiting = waiting; root = None; steps = steps ++ a_term ∷ [] }
operand_of waiting (Some o) steps = record { waiting = waiting; root = Some o; steps = steps }

-- the waiting operators whose last operand ends here are applied, until this operator may be in the last operand of one that waits
abbrev pub closed_until : Known → List Known → Option Known → List Step → Closed
closed_until o [] root steps = record { waiting = []; root = root; steps = steps }
closed_until o (w ∷ waiting) root steps =
    if goes_under w o then record { waiting = w ∷ waiting; root = root; steps = steps } else closed_until o waiting (Some w) (steps ++ an_application w.applied ∷ [])

abbrev pub closed_by : Known → Closed → Closed
closed_by o c = closed_until o c.waiting c.root c.steps

abbrev pub closed_for : Known → Judge → Closed
closed_for o s = closed_by o (operand_of s.waiting s.last s.steps)

-- the operator waits for its last operand
abbrev pub waits : Known → List Known → List Step → Judge
waits o waiting steps = record { waiting = o ∷ waiting; last = None; steps = steps ++ a_symbol o.applied ∷ [] }

-- the operator is applied to the operand before it
abbrev pub follows : Known → List Known → List Step → Judge
follows o waiting steps = record { waiting = waiting; last = Some o; steps = steps ++ a_symbol o.applied ∷ (an_application o.applied ∷ []) }

-- a prefix operator, if an operand is still to come
abbrev pub before : Known → Judge → Option Judge
before o s = if is_some s.last then None else if top_takes s.waiting o then Some (waits o s.waiting s.steps) else None

abbrev pub between_closed : Known → Closed → Option Judge
between_closed o c = if goes_left o c.root then Some (waits o c.waiting c.steps) else None

abbrev pub after_closed : Known → Closed → Option Judge
after_closed o c = if takes_postfix o c.root then Some (follows o c.waiting c.steps) else None

-- an operator on the side of its operands on which it was read
abbrev pub placed : Fixity → Known → Judge → Option Judge
placed fixity.Prefix o s = before o s
placed fixity.Infix o s = between_closed o (closed_for o s)
placed fixity.Postfix o s = after_closed o (closed_for o s)

abbrev pub placed_if : Fixity → Option Known → Judge → Option Judge
placed_if side None s = None
placed_if side (Some o) s = placed side o s

-- one operator after another; each may be unknown
abbrev pub judged : (AppliedOperator → Option Known) → List AppliedOperator → Judge → Option Judge
judged known [] s = Some s
judged known (a ∷ read) s = option_and_then (judged known read) (placed_if a.fixity (known a) s)

-- at the end all waiting operators are applied
abbrev pub all_applied : List Known → List Step → List Step
all_applied [] steps = steps
all_applied (w ∷ waiting) steps = all_applied waiting (steps ++ an_application w.applied ∷ [])

abbrev pub finished : Judge → List Step
finished s = all_applied s.waiting (operand_of s.waiting s.last s.steps).steps

abbrev pub beginning : Judge
beginning = record { waiting = []; last = None; steps = [] }

-- the steps of the tree with these operators in reading order, if there is one
abbrev pub judgement : (AppliedOperator → Option Known) → List AppliedOperator → Option (List Step)
judgement known read = option_map finished (judged known read beginning)

-- ---- the code's types as the definitions see them

abbrev pub known_of : declared_known.Known → Known
known_of k = record { row = k.row; role = k.role; applied = k.applied.now }

abbrev pub step_of : declared_step.Step.Step → Step
step_of declared.Term = a_term
step_of (declared.Symbol a) = a_symbol a.now
step_of (declared.Application a) = an_application a.now

-- the waiting operators; the newest is last in the code
abbrev pub waiting_on : List Known → List declared_known.Known → List Known
waiting_on waiting [] = waiting
waiting_on waiting (w ∷ more) = waiting_on (known_of w ∷ waiting) more

abbrev pub waiting_of : List declared_known.Known → List Known
waiting_of ws = waiting_on [] ws

abbrev pub judge_of : declared_judge.Judge → Judge
judge_of j = record { waiting = waiting_of j.waiting.items; last = option_map known_of j.last; steps = map step_of j.steps.items }

-- as `judge_of`, after an operand with this root operator
abbrev pub closed_of : Option declared_known.Known → declared_judge.Judge → Closed
closed_of root j = record { waiting = waiting_of j.waiting.items; root = option_map known_of root; steps = map step_of j.steps.items }

-- the judge after an operator, if it was accepted
abbrev pub taken : Bool → declared_judge.Judge → Option Judge
taken true j = Some (judge_of j)
taken false j = None
