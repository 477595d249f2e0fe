use Rattle.std.proofs.Common.{◌≡◌, map, take}
use Rattle.pg_graph.specs.Graphs.{numbers_at}
use Rattle.pg_sets_nullable.proofs.heads.heads_of_rules.Given as goal

abbrev pub invariant-loop-rule : goal.invariant-loop-rule
invariant-loop-rule l = l.heads.items ≡ map (λ rule. numbers_at l.reaching.items rule.body) (take l.rule-index l.grammar.rules)
