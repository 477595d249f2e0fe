use Rattle.std.proofs.Common.{◌≡◌, ◌+◌, length}
use Rattle.pg_tree_placed.specs.Written.{open_in, finished, unfinished}
use Rattle.pg_tree_placed.proofs.pending.Pending.drop_full.Given as goal

abbrev pub invariant-loop-self : goal.invariant-loop-self
invariant-loop-self l = record {
  left : unfinished (open_in l.self) ≡ unfinished (open_in l.fn.self);
  count : l.count + finished (open_in l.self) ≡ finished (open_in l.fn.self);
}

abbrev pub decreases-loop-self : goal.decreases-loop-self
decreases-loop-self l = length (open_in l.self)
