use Rattle.std.proofs.Common.{◌≡◌, ◌≤◌, nat_le, count_by, take}
use Rattle.pg_grammar_value.specs.Grammar.{rule_body}
use Rattle.pg_predict.proofs.places.rule_of.Given as goal

abbrev pub invariant-loop-rule : goal.invariant-loop-rule
invariant-loop-rule l = record {
  counted : l.count ≡ count_by (λ rule. nat_le (rule_body rule) l.node) (take l.rule-index l.rules);
  few : l.count ≤ l.rule-index;
}
