-- The capacity of the lists for the nodes and rules of a grammar.
use Rattle.std.specs.Prelude.{◌≡◌, ◌≤◌, [], length, vec_capacity}
use Rattle.pg_grammar.specs.Made.{Made}
use Rattle.pg_grammar.specs.declared.numbering.Numbers.{Numbers}

-- the lists of nodes and rules are empty, with room for all
pub record HasCapacity (made : Made) (numbers : Numbers) : Type 0 where
  pub no_nodes : numbers.nodes.items ≡ []
  pub no_rules : numbers.rules.items ≡ []
  pub nodes : length made.forms ≤ vec_capacity numbers.nodes
  pub rules : length made.names ≤ vec_capacity numbers.rules
