use Rattle.std.proofs.Common.{◌≡◌, ◌++◌, ◌+◌, ◌≤◌, length, map, vec_capacity}
use Rattle.pg_grammar_value.specs.Grammar.{rule_name, rule_body}
use Rattle.pg_grammar.proofs.nodes.rules_of.Given as goal

abbrev pub invariant-loop-name : goal.invariant-loop-name
invariant-loop-name l = record {
  names : map rule_name l.rules.items ++ l.names.items ≡ l.fn.names.items;
  bodies : map rule_body l.rules.items ++ l.bodies.items ≡ l.fn.bodies.items;
  rest : length l.bodies.items ≡ length l.names.items;
  room : length l.rules.items + length l.names.items ≤ vec_capacity l.rules;
}

abbrev pub decreases-loop-name : goal.decreases-loop-name
decreases-loop-name l = length l.names.items
