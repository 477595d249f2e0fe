use Rattle.pg_tree.proofs.Ends.{stored-take}
use Rattle.pg_tree.proofs.store.Store.cut.Goals as goal

pub returns : goal.returns
returns c =
    stored-take _ _ _ _ _ _ _ _ _ _ c.requires.kept c.end_of-end.ensures c.truncate.ensures.items c.truncate-2.ensures.items c.truncate-3.ensures.items
