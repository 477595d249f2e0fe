use Rattle.std.proofs.Common.{arith}
use Rattle.pg_tree.proofs.Ends.{end_entries-le, end_texts-le, end_labels-le}
use Rattle.pg_tree.proofs.store.Store.size_after.Goals as goal

pub overflow_sub-result : goal.overflow_sub-result
overflow_sub-result c = omega (arith, end_entries-le _ _ _ _ c.end_of-begin.ensures c.requires.kept.entries_are, c.len.ensures, c.args.self.now.entries.ok.0)

pub overflow_sub-result-2 : goal.overflow_sub-result-2
overflow_sub-result-2 c = omega (arith, end_texts-le _ _ _ _ c.end_of-begin.ensures c.requires.kept.texts_are, c.len-2.ensures, c.args.self.now.texts.ok.0)

pub overflow_sub-result-3 : goal.overflow_sub-result-3
overflow_sub-result-3 c = omega (arith, end_labels-le _ _ _ _ c.end_of-begin.ensures c.requires.kept.labels_are, c.len-3.ensures, c.args.self.now.labels.ok.0)
