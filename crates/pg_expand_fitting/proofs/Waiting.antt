-- Operators that wait for their last operand, as parts of a tree: what was read before that operand, and what was done.
use Rattle.std.proofs.Common.{◌≡◌, ◌<◌, ◌≤◌, ◌+◌, List, [], ◌∷◌, ◌++◌, refl, ap, ◌∙◌, append_assoc}
use Rattle.std.specs.Prelude.{Option, None, Some}
use Rattle.pg_grammar_form.specs.Operators.{Operator}
use Rattle.pg_grammar_form.specs.declared.decl.Role.TheVariants.{InfixLeft, InfixRight, Prefix, Postfix}
use Rattle.pg_grammar_value.specs.declared.trail.AppliedOperator.{AppliedOperator}
use Rattle.pg_grammar_value.specs.declared.trail.Fixity.{Fixity}
use Rattle.pg_grammar_value.specs.declared.trail.Fixity.TheVariants as fixity
use Rattle.pg_table.specs.Fitting.{Expression, term, prefixed, postfixed, joined, row, rank, IsInfix, IsFittingSide, IsAmong, IsFitting}
use Rattle.pg_table.specs.Trails.{applied, operators_read}
use Rattle.pg_expand_fitting.specs.Steps.{Step, a_symbol, an_application, steps_of}
use Rattle.pg_expand_fitting.specs.Judge.{Known}

-- an operator that waits: a prefix operator, or an infix operator with its left operand
pub data Waiting : Type 0 where
  before : Operator → Waiting
  between : Operator → Expression → Waiting

-- the tree that it makes with its last operand
abbrev pub closed : Waiting → Expression → Expression
closed (before o) x = prefixed o x
closed (between o l) x = joined o l x

-- what was read before that operand, of those that wait, the newest first
abbrev pub read_before : List Waiting → List AppliedOperator
read_before [] = []
read_before (before o ∷ ws) = read_before ws ++ applied fixity.Prefix o ∷ []
read_before (between o l ∷ ws) = read_before ws ++ (operators_read l ++ applied fixity.Infix o ∷ [])

-- what was done before it
abbrev pub done_before : List Waiting → List Step
done_before [] = []
done_before (before o ∷ ws) = done_before ws ++ a_symbol (applied fixity.Prefix o) ∷ []
done_before (between o l ∷ ws) = done_before ws ++ (steps_of l ++ a_symbol (applied fixity.Infix o) ∷ [])

-- with the operand, the same was read of the tree
pub closed-read : (w : Waiting) (ws : List Waiting) (x : Expression) → read_before (w ∷ ws) ++ operators_read x ≡ read_before ws ++ operators_read (closed w x)
closed-read (before o) ws x = append_assoc (read_before ws) (applied fixity.Prefix o ∷ []) (operators_read x)
closed-read (between o l) ws x =
    append_assoc (read_before ws) (operators_read l ++ applied fixity.Infix o ∷ []) (operators_read x)
    ∙ ap (λ z. read_before ws ++ z) (append_assoc (operators_read l) (applied fixity.Infix o ∷ []) (operators_read x))

-- the operator with which it is applied
abbrev pub applied_of : Waiting → AppliedOperator
applied_of (before o) = applied fixity.Prefix o
applied_of (between o l) = applied fixity.Infix o

pub closed-done : (w : Waiting) (ws : List Waiting) (x : Expression) →
    (done_before (w ∷ ws) ++ steps_of x) ++ an_application (applied_of w) ∷ [] ≡ done_before ws ++ steps_of (closed w x)
closed-done (before o) ws x =
    append_assoc (done_before ws ++ a_symbol (applied fixity.Prefix o) ∷ []) (steps_of x) (an_application (applied fixity.Prefix o) ∷ [])
    ∙ append_assoc (done_before ws) (a_symbol (applied fixity.Prefix o) ∷ []) (steps_of x ++ an_application (applied fixity.Prefix o) ∷ [])
closed-done (between o l) ws x =
    append_assoc (done_before ws ++ (steps_of l ++ a_symbol (applied fixity.Infix o) ∷ [])) (steps_of x) (an_application (applied fixity.Infix o) ∷ [])
    ∙ append_assoc (done_before ws) (steps_of l ++ a_symbol (applied fixity.Infix o) ∷ []) (steps_of x ++ an_application (applied fixity.Infix o) ∷ [])
    ∙ ap (λ z. done_before ws ++ z) (append_assoc (steps_of l) (a_symbol (applied fixity.Infix o) ∷ []) (steps_of x ++ an_application (applied fixity.Infix o) ∷ []))

module _ (operators : List Operator) where
  -- an operator of the table, read on this side
  abbrev pub known : Fixity → Operator → Known
  known side o = record { row = row operators o; role = o.role; applied = applied side o }

  -- one that waits, as the judge keeps it
  abbrev pub known_waiting : Waiting → Known
  known_waiting (before o) = known fixity.Prefix o
  known_waiting (between o l) = known fixity.Infix o

  -- the operator that a tree is made with, if it isn't a term
  abbrev pub root : Expression → Option Known
  root term = None
  root (prefixed o x) = Some (known fixity.Prefix o)
  root (postfixed o x) = Some (known fixity.Postfix o)
  root (joined o x y) = Some (known fixity.Infix o)

  pub root-closed : (w : Waiting) (x : Expression) → root (closed w x) ≡ Some (known_waiting w)
  root-closed (before o) x = refl
  root-closed (between o l) x = refl

  pub applied-waiting : (w : Waiting) → (known_waiting w).applied ≡ applied_of w
  applied-waiting (before o) = refl
  applied-waiting (between o l) = refl

  -- ---- what fits

  -- the tree may be the last operand of one that waits
  abbrev pub FitsUnder : Waiting → Expression → Type 0
  FitsUnder (before o) x = rank operators x < row operators o
  FitsUnder (between o l) x = IsFittingSide operators InfixRight o x

  -- the operator is of the table, and its left operand, if it has one, fits
  abbrev pub IsWaiting : Waiting → Type 0
  IsWaiting (before o) = IsAmong operators o × (o.role ≡ Prefix)
  IsWaiting (between o l) = IsAmong operators o × IsInfix o.role × IsFitting operators l × IsFittingSide operators InfixLeft o l

  -- the tree may be the last operand of the newest that waits
  abbrev pub FitsTop : List Waiting → Expression → Type 0
  FitsTop [] x = Unit {0}
  FitsTop (w ∷ ws) x = FitsUnder w x

  -- so it is, and what that makes is the last operand of the next
  abbrev pub AreWaiting : List Waiting → Expression → Type 0
  AreWaiting [] x = Unit {0}
  AreWaiting (w ∷ ws) x = FitsUnder w x × IsWaiting w × AreWaiting ws (closed w x)

  pub closed_fits : (w : Waiting) (x : Expression) → IsWaiting w → IsFitting operators x → FitsUnder w x → IsFitting operators (closed w x)
  closed_fits (before o) x h f u = (h.0, h.1, f, u)
  closed_fits (between o l) x h f u = (h.0, h.1, h.2, f, h.3, u)
