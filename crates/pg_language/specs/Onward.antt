-- Laws about every derivation: it goes forward in the text, and operators are added at the end of the table.
use Rattle.std.specs.Prelude.{◌≡◌, ◌≤◌, ◌++◌, ℕ, List, length}
use Rattle.std.specs.List.{AllByRecursion}
use Rattle.pg_tree.specs.Trees.{Tree}
use Rattle.pg_grammar_value.specs.Grammar.{Grammar}
use Rattle.pg_grammar_form.specs.Operators.{Operator, IsOperator}
use Rattle.pg_table.specs.Tables.{whole, added_from, ComesFrom}
use Rattle.pg_grammar_value.specs.declared.trail.TrailItem.{TrailItem}
use Rattle.pg_language.specs.Derives.{Spot, Derives}

-- from one spot to the other: not backwards and not past the end of the text. The table has further operators, each of which can be declared and was
-- admitted by those before it, but none if nothing was consumed
pub record LeadsOn (text : List ℕ) (a b : Spot) : Type 0 where
  pub onward : a.place ≤ b.place
  pub within : a.place ≤ length text → b.place ≤ length text
  pub further : List Operator
  pub proper : AllByRecursion IsOperator further
  pub added : added_from 0 a.table further ≡ whole b.table
  pub after : b.table.operators ≡ a.table.operators ++ further
  pub still : a.place ≡ b.place → a ≡ b

-- every derivation of a node leads on
abbrev pub DerivationsLeadOn : Type 0
DerivationsLeadOn = (g : Grammar) (text : List ℕ) (p : ℕ) (a b : Spot) (forest : List Tree) (trail : List TrailItem) → Derives g text p a b forest trail → LeadsOn text a b

-- a table that is derived from a table of the grammar is a table of the grammar
abbrev pub TablesComeFromGrammar : Type 0
TablesComeFromGrammar = (g : Grammar) (text : List ℕ) (p : ℕ) (a b : Spot) (forest : List Tree) (trail : List TrailItem) → ComesFrom g a.table → Derives g text p a b forest trail → ComesFrom g b.table
