use Rattle.std.proofs.Common.{◌≡◌, ◌≤◌, false, List}
use Rattle.pg_tree_placed.specs.Writing.{Puts, joined_from}
use Rattle.pg_tree_placed.specs.declared.note.Note.{Note}
use Rattle.pg_tree_placed.proofs.source.Source.push_rest.Given as goal

abbrev pub invariant-loop-left : goal.invariant-loop-left
invariant-loop-left g l = record {
  well : l.writer.failed ≡ false;
  further : l.from ≤ l.step;
  so : (ns : List Note) → Puts (g.W.Write.contents l.fn.writer.inner) l.fn.block (g.W.Write.contents l.writer.inner) l.block
      (joined_from l.self.text.now l.self.labels.now l.entries l.left l.step ns) (joined_from l.self.text.now l.self.labels.now l.entries l.count l.from ns);
}

abbrev pub decreases-loop-left : goal.decreases-loop-left
decreases-loop-left g l = l.left
