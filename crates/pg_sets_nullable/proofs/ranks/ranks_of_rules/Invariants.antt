use Rattle.std.proofs.Common.{◌≡◌, length}
use Rattle.pg_sets_nullable.specs.Ranking.{unranked, AreSoFar}
use Rattle.pg_sets_nullable.proofs.ranks.ranks_of_rules.Given as goal

abbrev pub decreases-loop : goal.decreases-loop
decreases-loop l = unranked l.ranks.items

abbrev pub invariant-loop : goal.invariant-loop
invariant-loop l = record {
  length : length l.ranks.items ≡ length l.grammar.rules;
  ranks : AreSoFar l.grammar l.ranks.items;
}
