use Rattle.std.proofs.Common.{ap, ◌∙◌}
use Rattle.pg_tree.specs.Trees.{kids_of}
use Rattle.pg_tree.specs.Stored.{kept_in}
use Rattle.pg_tree.proofs.Showing.{trees-shown}
use Rattle.pg_tree.proofs.json_text.json_text.Goals as goal

pub returns : goal.returns
returns c =
    let same = trees-shown (kept_in c.forest.inside.store) c.forest.invariant.1 ∙ ap kids_of c.forest.view_is in
    rw same at c.stored_text.ensures
