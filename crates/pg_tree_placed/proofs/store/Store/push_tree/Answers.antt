use Rattle.std.proofs.Common.{[], arith}
use Rattle.pg_tree_placed.proofs.Making.{made_short}
use Rattle.pg_tree_placed.proofs.store.Store.push_tree.Goals as goal

pub overflow_add-roots : goal.overflow_add-roots
overflow_add-roots c =
    let s = c.args.self.now in
    omega (arith, c.requires.whole.counted, made_short s.text.now s.labels.items [] s.entries.items, s.entries.ok.0, s.entries.ok.1, s.entries.small)
