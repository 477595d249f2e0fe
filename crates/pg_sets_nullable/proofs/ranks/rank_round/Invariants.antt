use Rattle.std.proofs.Common.{◌≡◌, ◌<◌, ◌≤◌, ℕ, false, None}
use Rattle.std.specs.Bool.{OnTrue}
use Rattle.pg_graph.specs.Graphs.{numbers_at}
use Rattle.pg_sets_nullable.specs.Ranking.{rank_above, unranked, AreSoFar}
use Rattle.pg_sets_nullable.specs.Ranks.{rank_at}
use Rattle.pg_sets_nullable.proofs.ranks.rank_round.Given as goal

abbrev pub invariant-loop-rule : goal.invariant-loop-rule
invariant-loop-rule l = record {
  ranks : AreSoFar l.grammar l.ranks;
  no_more : unranked l.ranks ≤ unranked l.initial.ranks;
  fewer : OnTrue l.grew (unranked l.ranks < unranked l.initial.ranks);
  settled : l.grew ≡ false → (a : ℕ) → a < l.rule → rank_at l.ranks a ≡ None → rank_above l.ranks 0 (numbers_at l.heads a) ≡ None;
}
