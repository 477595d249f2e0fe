use Rattle.std.proofs.Common.{◌≡◌, ◌≤◌, drop}
use Rattle.pg_sets_nullable.specs.Ranking.{rank_above}
use Rattle.pg_sets_nullable.proofs.ranks.rank_above.Given as goal

abbrev pub invariant-loop-rule : goal.invariant-loop-rule
invariant-loop-rule l = (rank_above l.ranks l.above (drop l.rule-index l.rules) ≡ rank_above l.ranks 0 l.rules) × (l.above ≤ 512)
