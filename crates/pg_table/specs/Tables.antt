-- Operator tables, and which declarations they admit.
use Rattle.std.specs.Prelude.{◌≡◌, ◌≤◌, ℕ, suc, Bool, true, false, not, ◌&&◌, nat_lt, nat_le, if◌then◌else◌, List, [], ◌∷◌, ◌++◌, length, take, Option, Some, None}
use Rattle.std.specs.List.{list_any, AllByRecursion}
use Rattle.std.specs.Str.{bytes_eq}
use Rattle.pg_grammar_value.specs.Grammar.{Grammar}
use Rattle.pg_grammar_form.specs.Operators.{Operator, IsOperator}
use Rattle.pg_grammar_form.specs.declared.decl.Role.{Role}
use Rattle.pg_grammar_form.specs.declared.decl.Role.TheVariants.{InfixLeft, InfixRight, InfixNone, Prefix, Postfix}
use Rattle.pg_grammar_form.specs.declared.operators_item.OperatorsItem.{OperatorsItem}
use Rattle.pg_table.specs.declared.admit_fault.AdmitFault.{AdmitFault}
use Rattle.pg_table.specs.declared.admit_fault.AdmitFault.TheVariants.{SymbolTooLong, SymbolReserved, PrefixThere, SymbolThere, TableFull}
use Rattle.pg_table.specs.declared.admit_fault.InitialFault.{InitialFault}
use Rattle.pg_table.specs.declared.admit_fault.InitialFault.TheVariants.{NotAdmitted, Memory}

-- operators, the reserved symbols, which no operator may have, and the limit on operators
pub record Table : Type 0 where
  pub operators : List Operator
  pub reserved : List (List ℕ)
  pub most : ℕ

-- a proper table: each operator can be declared, and their number is within the limit, which is at most 64
pub record IsTable (table : Table) : Type 0 where
  pub operators : AllByRecursion IsOperator table.operators
  pub few : length table.operators ≤ table.most
  pub most : table.most ≤ 64

-- whether a role is prefix
abbrev pub is_prefix : Role → Bool
is_prefix InfixLeft = false
is_prefix InfixRight = false
is_prefix InfixNone = false
is_prefix Prefix = true
is_prefix Postfix = false

-- whether a prefix operator has the symbol
abbrev pub has_prefix : List Operator → List ℕ → Bool
has_prefix operators symbol = list_any (λ o. is_prefix o.role && bytes_eq o.symbol symbol) operators

-- whether an infix or postfix operator has the symbol
abbrev pub has_other : List Operator → List ℕ → Bool
has_other operators symbol = list_any (λ o. not (is_prefix o.role) && bytes_eq o.symbol symbol) operators

-- why a table doesn't admit an operator, if it doesn't; the first reason that applies
abbrev pub admit_fault : Table → Operator → Option AdmitFault
admit_fault table d =
    if nat_lt 16 (length d.symbol) then Some SymbolTooLong else
    if list_any (λ s. bytes_eq s d.symbol) table.reserved then Some SymbolReserved else
    if is_prefix d.role && has_prefix table.operators d.symbol then Some PrefixThere else
    if not (is_prefix d.role) && has_other table.operators d.symbol then Some SymbolThere else
    if nat_le table.most (length table.operators) then Some TableFull else None

-- the table admits the operator
abbrev pub Admits : Table → Operator → Type 0
Admits table d = admit_fault table d ≡ None

-- the table with only its first operators
abbrev pub first_operators : ℕ → Table → Table
first_operators count table = record { operators = take count table.operators; reserved = table.reserved; most = table.most }

-- the table with one operator more, at the end
abbrev pub with_operator : Table → Operator → Table
with_operator table d = record { operators = table.operators ++ d ∷ []; reserved = table.reserved; most = table.most }

-- ---- tables of a grammar

-- a table without operators, with these reserved symbols and this limit
abbrev pub without_operators : List (List ℕ) → ℕ → Table
without_operators reserved most = record { operators = []; reserved = reserved; most = most }

-- the table without operators for an operators item; if there is none, its limit is 0
abbrev pub empty_table : Option OperatorsItem → Table
empty_table None = without_operators [] 0
empty_table (Some item) = without_operators item.reserved item.max

-- the result of adding operators to a table in order; the first has the number k. It is the table with all of them, or the first that isn't admitted,
-- and why
pub data Added : Type 0 where
  whole : Table → Added
  refused : ℕ → AdmitFault → Added

-- the result if the operator with the number k is refused for this reason, and otherwise that of the others
abbrev pub added_unless : Option AdmitFault → ℕ → Added → Added
added_unless None k others = others
added_unless (Some fault) k others = refused k fault

-- the result of adding these operators
abbrev pub added_from : ℕ → Table → List Operator → Added
added_from k table [] = whole table
added_from k table (d ∷ ds) = added_unless (admit_fault table d) k (added_from (suc k) (with_operator table d) ds)

-- the initial table of a grammar, or the first of its initial operators that isn't admitted
abbrev pub initial : Grammar → Added
initial g = added_from 0 (empty_table g.operators) g.initials

-- the operators couldn't be added for this reason, or memory ran out
abbrev pub IsRefusal : Added → InitialFault → Type 0
IsRefusal added (NotAdmitted k fault) = added ≡ refused k fault
IsRefusal added Memory = Unit {0}

-- the table comes from the grammar: it is the initial one, with further operators that can be declared and were admitted one after another
pub record ComesFrom (g : Grammar) (table : Table) : Type 0 where
  pub first : Table
  pub initial : initial g ≡ whole first
  pub further : List Operator
  pub proper : AllByRecursion IsOperator further
  pub added : added_from 0 first further ≡ whole table
