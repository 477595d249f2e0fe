-- Declarations in a text: a keyword, a digit and a symbol, with the run of the gap after each, and their outcomes. Without a keyword nothing is
-- consumed. A later fault comes after a keyword that was read, and counts as consumed.
use Rattle.std.specs.Prelude.{ℕ, ◌+◌, ◌-◌, ◌==◌, ◌&&◌, not, if◌then◌else◌, List, [], ◌∷◌, ◌++◌, Bool, true, false, Option, Some, None, length, slice_get, find, codes}
use Rattle.std.specs.Int.{is_in_range}
use Rattle.pg_grammar_value.specs.Grammar.{Grammar}
use Rattle.pg_grammar_form.specs.Operators.{Operator}
use Rattle.pg_grammar_form.specs.declared.class.ClassPart.{ClassPart}
use Rattle.pg_grammar_form.specs.declared.decl.Role.{Role}
use Rattle.pg_grammar_form.specs.declared.decl.Role.TheVariants.{InfixLeft, InfixRight, InfixNone, Prefix, Postfix}
use Rattle.pg_grammar_form.specs.declared.operators_item.OperatorsItem.{OperatorsItem}
use Rattle.pg_table.specs.FaultLabels.{fault_label}
use Rattle.pg_table.specs.Tables.{Table, admit_fault, with_operator}
use Rattle.pg_table.specs.declared.admit_fault.AdmitFault.{AdmitFault}
use Rattle.pg_message.specs.Messages.{Text}
use Rattle.pg_language.specs.Derives.{Spot, declaration_tree}
use Rattle.pg_language.specs.Runs.{run_at, past_run, stands_at, keyword, goes_on}
use Rattle.pg_language.specs.Errors.{quote, seen_at, no_messages_at, stopped_before, told}
use Rattle.pg_language.specs.Outcomes.{Outcome, ok, failed}

-- ---- the keyword

abbrev pub roles : List Role
roles = InfixLeft ∷ InfixRight ∷ InfixNone ∷ Prefix ∷ Postfix ∷ []

-- whether the next character would continue a keyword
abbrev pub goes_on_with : Grammar → List ClassPart → Option ℕ → Bool
goes_on_with g class None = false
goes_on_with g class (Some c) = goes_on g class c

-- whether the keyword of a role is at the place, and no character after it continues it
abbrev pub has_keyword : Grammar → List ℕ → List ClassPart → ℕ → Role → Bool
has_keyword g text class i role = let word : List ℕ = keyword role in
    stands_at text i word && not (goes_on_with g class (slice_get text (i + length word)))

-- the role whose keyword is at the place; there is at most one
abbrev pub role_at : Grammar → List ℕ → List ClassPart → ℕ → Option Role
role_at g text class i = find (has_keyword g text class i) roles

-- ---- the text at a place, read from left to right

pub data Declaration : Type 0 where
  -- no keyword
  no_keyword : Declaration
  -- a keyword, and no digit at this place after it
  no_digit : ℕ → Declaration
  -- a keyword and a digit, and no symbol at this place after them
  no_symbol : ℕ → Declaration
  -- an operator, the place of its symbol, and the place after the declaration
  declared : Operator → ℕ → ℕ → Declaration

-- the rest of a declaration from its symbol on
abbrev pub symbol_read : Grammar → List ℕ → OperatorsItem → Role → ℕ → ℕ → Declaration
symbol_read g text item role precedence i = let symbol : List ℕ = run_at g text item.class i in
    if length symbol == 0 then no_symbol i
    else declared (record { role = role; precedence = precedence; symbol = symbol }) i (past_run g text item.gap (i + length symbol))

-- the value of the next character, if it is a digit from 0 to 9
abbrev pub digit_value : Option ℕ → Option ℕ
digit_value None = None
digit_value (Some c) = if is_in_range 48 57 c then Some (c - 48) else None

-- the rest of a declaration from its digit on, given the digit's value
abbrev pub digit_read : Grammar → List ℕ → OperatorsItem → Role → ℕ → Option ℕ → Declaration
digit_read g text item role i None = no_digit i
digit_read g text item role i (Some precedence) = symbol_read g text item role precedence (past_run g text item.gap (i + 1))

-- the declaration from its keyword on, if there is one
abbrev pub keyword_read : Grammar → List ℕ → OperatorsItem → ℕ → Option Role → Declaration
keyword_read g text item i None = no_keyword
keyword_read g text item i (Some role) = let j : ℕ = past_run g text item.gap (i + length (keyword role)) in
    digit_read g text item role j (digit_value (slice_get text j))

-- the declaration at a place; no character of the class may follow its keyword
abbrev pub declaration_at : Grammar → List ℕ → OperatorsItem → List ClassPart → ℕ → Declaration
declaration_at g text item class i = keyword_read g text item i (role_at g text class i)

-- ---- the outcome of a declaration

-- the message for a symbol that the table refuses
abbrev pub not_admitted : List ℕ → AdmitFault → Text
not_admitted symbol fault = codes "operator " ++ (quote symbol ++ (codes " not admitted: " ++ fault_label fault))

-- the operator is added at the end of the table, and the outcome ends at j; if the table refuses it, the error is at i, the place of its symbol
abbrev pub unless_refused : Operator → Table → ℕ → ℕ → Option AdmitFault → Outcome
unless_refused d table i j (Some fault) = failed true (told (not_admitted d.symbol fault) i)
unless_refused d table i j None = ok true (record { place = j; table = with_operator table d }) (declaration_tree d ∷ []) [] (no_messages_at j)

abbrev pub declaration_outcome : List ℕ → Spot → Declaration → Outcome
declaration_outcome text a no_keyword = failed false (stopped_before (codes "declaration") (seen_at text a.place) a.place)
declaration_outcome text a (no_digit i) = failed true (stopped_before (codes "precedence") (seen_at text i) i)
declaration_outcome text a (no_symbol i) = failed true (stopped_before (codes "operator symbol") (seen_at text i) i)
declaration_outcome text a (declared d i j) = unless_refused d a.table i j (admit_fault a.table d)

-- the outcome of a declaration; no character of the class may follow its keyword
abbrev pub declare_outcome : Grammar → List ℕ → OperatorsItem → List ClassPart → Spot → Outcome
declare_outcome g text item class a = declaration_outcome text a (declaration_at g text item class a.place)
