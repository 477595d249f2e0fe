use Rattle.std.proofs.Common.{◌≡◌, length, drop, map}
use Rattle.pg_grammar_value.specs.Grammar.{rule_name, rule_names}
use Rattle.pg_file_items.specs.Syntax.{file_written}
use Rattle.pg_file_print.specs.Canonical.{rule_items}
use Rattle.pg_file_print.specs.Layout.{with_tokens}
use Rattle.pg_file_print.specs.Levels.{node_values, AreBodies}
use Rattle.pg_file_print.proofs.items.put_rules.Given as goal

abbrev pub invariant-loop-rule : goal.invariant-loop-rule
invariant-loop-rule l = record {
  bodies : AreBodies l.grammar l.rest;
  count : length (node_values l.grammar l.rest) ≡ length (drop l.rule-index l.rules);
  text : with_tokens l.out (file_written (rule_items (map rule_name (drop l.rule-index l.rules)) (node_values l.grammar l.rest)))
      ≡ with_tokens l.fn.out (file_written (rule_items (rule_names l.grammar) (node_values l.grammar l.grammar.nodes)));
}
