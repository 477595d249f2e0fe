use Rattle.std.proofs.Common.{◌≡◌, ◌-◌, ◌≤◌, false, length, take}
use Rattle.std.specs.Prelude.{reverse}
use Rattle.pg_tree_placed.specs.Forward.{forward}
use Rattle.pg_tree_placed.specs.Writing.{Puts, left_from}
use Rattle.pg_tree_placed.proofs.source.Source.push_steps.Given as goal

abbrev pub invariant-loop-step : goal.invariant-loop-step
invariant-loop-step g l = record {
  well : l.writer.failed ≡ false;
  within : l.left ≤ length l.notes;
  so : Puts (g.W.Write.contents l.fn.writer.inner) l.fn.block (g.W.Write.contents l.writer.inner) l.block
      (left_from l.self.text.now l.self.labels.now l.entries l.ended l.step (reverse (take l.left l.notes)))
      (forward l.self.text.now l.self.labels.now false 0 0 l.entries (reverse l.notes));
}

abbrev pub decreases-loop-step : goal.decreases-loop-step
decreases-loop-step g l = length l.entries - l.step
