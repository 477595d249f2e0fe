use Rattle.std.proofs.Common.{◌≡◌, ◌<◌, ℕ, false, length}
use Rattle.pg_graph.specs.Marks.{is_marked}
use Rattle.pg_graph.specs.Spread.{vertex_at}
use Rattle.pg_graph.proofs.handing.next_waiting.Given as goal

abbrev pub invariant-loop-at-2 : goal.invariant-loop-at-2
invariant-loop-at-2 l = (k : ℕ) → k < l.at → is_marked l.waits (vertex_at (length l.waits) k) ≡ false
