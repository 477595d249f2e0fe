-- Worked answers of expressions over small texts: the definitions read by hand.
use Rattle.std.proofs.Common.{◌≡◌, ℕ, suc, List, [], ◌∷◌, true, false, None, refl}
use Rattle.std.specs.Prelude.{codes, reverse}
use Rattle.pg_tree.specs.Trees.{Tree}
use Rattle.pg_grammar_form.specs.Operators.{Operator}
use Rattle.pg_grammar_form.specs.declared.decl.Role.TheVariants.{InfixRight, InfixNone}
use Rattle.pg_grammar_value.specs.declared.trail.TrailItem.TheVariants.{Ops}
use Rattle.pg_grammar_value.specs.declared.trail.Fixity.TheVariants as fixity
use Rattle.pg_table.specs.Trails as trails
use Rattle.pg_expand.specs.Rows.{rows_of}
use Rattle.pg_message.specs.Messages.{no_messages}
use Rattle.pg_language.specs.Derives.{leaf_of}
use Rattle.pg_language.specs.Answers.{Answers, given, entered, leaf, expression, AnswersRows, only_term, loosest_row, row_operand, row_ok, row_tail, right_stands, right_failed, left_stands, left_commits, left_failed, right_side, right_unread, right_read, right_operand_ok, left_side, left_unread, left_read, left_operand_failed, left_operand_ok, neither_side, non_unread, non_read}
use Rattle.pg_language.specs.Errors.{quote, no_messages_at, stopped_by, stopped_before, told}
use Rattle.pg_language.specs.OperatorReads.{read_at}
use Rattle.pg_language.specs.Outcomes.{Outcome, ok, failed}
use Rattle.pg_language.specs.RowReactions.{Setting}
use Rattle.pg_language.specs.declared.reading.Reading.TheVariants.{Library}
use Rattle.pg_language.proofs.Examples.{item, builders, g, spot, plus, times, minus, bang, named}

abbrev setting : Setting
setting = record { item = item; builders = builders; term = 1 }

-- the expression over digits answers so at the start of the text, under a table of these operators
abbrev Comes : List ℕ → List Operator → Outcome → ℕ → Type 0
Comes text operators = AnswersRows (given Library g text) setting (reverse (rows_of operators)) (spot 0 operators)

-- so the expression's node answers, which is one node more
of_node : (text : List ℕ) (operators : List Operator) (o : Outcome) (m : ℕ) → Comes text operators o m → Answers (given Library g text) 0 (spot 0 operators) o (suc m)
of_node text operators o m d = entered refl (expression refl d)

abbrev raised : Operator
raised = record { role = InfixRight; precedence = 8; symbol = codes "**" }

abbrev equals : Operator
equals = record { role = InfixNone; precedence = 4; symbol = codes "==" }

-- the tree of a digit
abbrev digit : List ℕ → Tree
digit c = leaf_of c

-- without operators an expression is its term
alone : Comes (codes "1") [] (ok true (spot 1 []) (digit (codes "1") ∷ []) (Ops [] ∷ []) (no_messages_at 1)) 1
alone = only_term (entered refl (leaf refl))

no_digit : Comes (codes "x") [] (failed false (stopped_by (quote (codes "x")) 0)) 1
no_digit = only_term (entered refl (leaf refl))

-- an operator may follow a term, which is all that is expected by a name
nothing_follows : Comes (codes "1") (plus ∷ [])
    (ok true (spot 1 (plus ∷ [])) (digit (codes "1") ∷ []) (Ops [] ∷ [])
    (record { place = 1; messages = record no_messages { system_unexpected = [] ∷ []; expected = [] ∷ codes "operator" ∷ [] } })) 1
nothing_follows = loosest_row (row_operand (only_term (entered refl (leaf refl))))
    (row_ok (row_tail (right_side right_unread) (right_failed (left_side left_unread) (left_failed (neither_side non_unread)))))

-- an operator is the whole run of operator characters, and not a prefix of it; and no run at all is no operator
whole_run : read_at g (codes "1++2") item (plus ∷ []) 1 ≡ None
whole_run = refl

no_run : read_at g (codes "12") item (record plus { symbol = [] } ∷ []) 1 ≡ None
no_run = refl

-- the tighter operator stands below, and after an operator lies its gap
precedence : Comes (codes "1+ 2*3") (plus ∷ times ∷ [])
    (ok true (spot 6 (plus ∷ times ∷ [])) (named (codes "+") (digit (codes "1") ∷ named (codes "*") (digit (codes "2") ∷ digit (codes "3") ∷ []) ∷ []) ∷ [])
    (Ops (trails.applied fixity.Infix plus ∷ trails.applied fixity.Infix times ∷ []) ∷ []) (stopped_before [] [] 6)) 3
precedence = loosest_row
    (row_operand (loosest_row (row_operand (only_term (entered refl (leaf refl))))
    (row_ok (row_tail (right_side right_unread) (right_failed (left_side left_unread) (left_failed (neither_side non_unread)))))))
    (row_ok (row_tail (right_side right_unread) (right_failed (left_side (left_read
    (row_operand (loosest_row (row_operand (only_term (entered refl (leaf refl))))
    (row_ok (row_tail (right_side right_unread) (right_failed (left_side (left_read (row_operand (only_term (entered refl (leaf refl))))
    (left_operand_ok (left_side left_unread)))) left_stands)))))
    (left_operand_ok (left_side left_unread)))) left_stands)))

-- a right-associative operator has another one right of it
leans_right : Comes (codes "1**2**3") (raised ∷ [])
    (ok true (spot 7 (raised ∷ [])) (named (codes "**") (digit (codes "1") ∷ named (codes "**") (digit (codes "2") ∷ digit (codes "3") ∷ []) ∷ []) ∷ [])
    (Ops (trails.applied fixity.Infix raised ∷ trails.applied fixity.Infix raised ∷ []) ∷ []) (stopped_before [] [] 7)) 3
leans_right = loosest_row (row_operand (only_term (entered refl (leaf refl))))
    (row_ok (row_tail (right_side (right_read (row_operand (only_term (entered refl (leaf refl))))
    (right_operand_ok (right_side (right_read (row_operand (only_term (entered refl (leaf refl))))
    (right_operand_ok (right_side right_unread))))))) right_stands))

-- after an operator that is not associative another one is an ambiguous use: the expression ends before it, with this said
-- of the place after it
ambiguous_use : Comes (codes "1==2==3") (equals ∷ [])
    (ok true (spot 4 (equals ∷ [])) (named (codes "==") (digit (codes "1") ∷ digit (codes "2") ∷ []) ∷ [])
    (Ops (trails.applied fixity.Infix equals ∷ []) ∷ []) (told (codes "ambiguous use of a non associative operator") 6)) 2
ambiguous_use = loosest_row (row_operand (only_term (entered refl (leaf refl))))
    (row_ok (row_tail (right_side right_unread) (right_failed (left_side left_unread)
    (left_failed (neither_side (non_read (row_operand (only_term (entered refl (leaf refl))))))))))

-- so is a left-associative one of the row after the operand of a right-associative one
abbrev added : Operator
added = record plus { precedence = 8 }

mixed_use : Comes (codes "1**2+3") (raised ∷ added ∷ [])
    (ok true (spot 4 (raised ∷ added ∷ [])) (named (codes "**") (digit (codes "1") ∷ digit (codes "2") ∷ []) ∷ [])
    (Ops (trails.applied fixity.Infix raised ∷ []) ∷ []) (told (codes "ambiguous use of a left associative operator") 5)) 2
mixed_use = loosest_row (row_operand (only_term (entered refl (leaf refl))))
    (row_ok (row_tail (right_side (right_read (row_operand (only_term (entered refl (leaf refl)))) (right_operand_ok (right_side right_unread)))) right_stands))

-- an operator that was read is not given back
no_operand : Comes (codes "1+") (plus ∷ []) (failed true (stopped_before [] [] 2)) 2
no_operand = loosest_row (row_operand (only_term (entered refl (leaf refl))))
    (row_ok (row_tail (right_side right_unread) (right_failed (left_side (left_read (row_operand (only_term (entered refl (leaf refl)))) left_operand_failed)) left_commits)))

-- a prefix and a postfix around one term: the prefix is applied first
around : Comes (codes "-1!") (minus ∷ record bang { precedence = 8 } ∷ [])
    (ok true (spot 3 (minus ∷ record bang { precedence = 8 } ∷ [])) (named (codes "!") (named (codes "-") (digit (codes "1") ∷ []) ∷ []) ∷ [])
    (Ops (trails.applied fixity.Prefix minus ∷ trails.applied fixity.Postfix bang ∷ []) ∷ []) (no_messages_at 3)) 1
around = loosest_row (row_operand (only_term (entered refl (leaf refl))))
    (row_ok (row_tail (right_side right_unread) (right_failed (left_side left_unread) (left_failed (neither_side non_unread)))))
