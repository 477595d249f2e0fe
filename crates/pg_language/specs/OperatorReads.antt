-- Reading operators: one of several, or none, and the errors for ambiguous uses.
use Rattle.std.specs.Prelude.{ℕ, ◌+◌, List, [], ◌∷◌, ◌++◌, Option, Some, None, length, find, codes}
use Rattle.std.specs.Str.{bytes_eq}
use Rattle.pg_grammar_value.specs.Grammar.{Grammar}
use Rattle.pg_grammar_form.specs.Operators.{Operator}
use Rattle.pg_grammar_form.specs.declared.operators_item.OperatorsItem.{OperatorsItem}
use Rattle.pg_language.specs.Runs.{run_at, past_run}
use Rattle.pg_message.specs.Messages.{Text}
use Rattle.pg_language.specs.Errors.{Error, seen_at, no_messages_at, stopped_by, told}

-- an operator that was read, and the place after it and its gap
pub record Read : Type 0 where
  pub operator : Operator
  pub end : ℕ

-- the operator, if there is one, as read at the place
abbrev pub read_from : Grammar → List ℕ → OperatorsItem → ℕ → Option Operator → Option Read
read_from g text item i None = None
read_from g text item i (Some o) = Some (record { operator = o; end = past_run g text item.gap (i + length o.symbol) })

-- the first of these operators whose symbol is this run at the place; an empty run isn't an operator
abbrev pub read_run : Grammar → List ℕ → OperatorsItem → List Operator → ℕ → List ℕ → Option Read
read_run g text item operators i [] = None
read_run g text item operators i (c ∷ cs) = read_from g text item i (find (λ o. bytes_eq o.symbol (c ∷ cs)) operators)

-- the first of these operators whose symbol is the run at the place
abbrev pub read_at : Grammar → List ℕ → OperatorsItem → List Operator → ℕ → Option Read
read_at g text item operators i = read_run g text item operators i (run_at g text item.class i)

-- the error if none of these is read; if there are any, it names what is at the place
abbrev pub unread : List ℕ → List Operator → ℕ → Error
unread text [] i = no_messages_at i
unread text (o ∷ others) i = stopped_by (seen_at text i) i

-- ---- ambiguous uses

abbrev pub ambiguous_words : List ℕ → Text
ambiguous_words side = codes "ambiguous use of a " ++ (side ++ codes " associative operator")

-- the error of the parser that reports an ambiguous use. It never consumes, but if it reads one of the operators, its error is after that operator
abbrev pub told_ambiguous : List ℕ → List Operator → List ℕ → ℕ → Option Read → Error
told_ambiguous text operators side i None = unread text operators i
told_ambiguous text operators side i (Some r) = told (ambiguous_words side) r.end

-- the error for an ambiguous use of these operators, which associate to this side
abbrev pub ambiguous : Grammar → List ℕ → OperatorsItem → List Operator → List ℕ → ℕ → Error
ambiguous g text item operators side i = told_ambiguous text operators side i (read_at g text item operators i)
