use Rattle.std.proofs.Common.{List, ap, ◌∙◌}
use Rattle.pg_tree.specs.Trees.{kids_of}
use Rattle.pg_tree.specs.Kept.{Kept, kepts_of, trees_of}
use Rattle.pg_tree.specs.Stored.{kept_in}
use Rattle.pg_tree.proofs.Showing.{trees-shown}
use Rattle.pg_tree.proofs.forest.Forest.entries.Goals as goal

pub returns : goal.returns
returns c = ap (λ (ts : List Kept). trees_of (kepts_of ts)) c.of.ensures ∙ trees-shown (kept_in c.self.inside.store) c.self.invariant.1 ∙ ap kids_of c.self.view_is
