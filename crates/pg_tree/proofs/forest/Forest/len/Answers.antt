use Rattle.std.proofs.Common.{length, ap, sym, ◌∙◌}
use Rattle.pg_tree.specs.Stored.{kept_in}
use Rattle.pg_tree.proofs.Showing.{length-listed}
use Rattle.pg_tree.proofs.forest.Forest.len.Goals as goal

pub returns : goal.returns
returns c = c.self.invariant.0.roots_are ∙ sym (length-listed (kept_in c.self.inside.store)) ∙ ap length c.self.view_is
