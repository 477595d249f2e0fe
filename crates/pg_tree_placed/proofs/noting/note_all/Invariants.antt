use Rattle.std.proofs.Common.{reverse}
use Rattle.pg_tree_placed.specs.Noted.{AreNoted}
use Rattle.pg_tree_placed.specs.Written.{open_in}
use Rattle.pg_tree_placed.proofs.noting.note_all.Given as goal

abbrev pub invariant-loop-steps : goal.invariant-loop-steps
invariant-loop-steps l = AreNoted l.labels l.entries l.steps (open_in l.pending) (reverse l.notes.items)

abbrev pub decreases-loop-steps : goal.decreases-loop-steps
decreases-loop-steps l = l.steps
