use Rattle.std.proofs.Common.{arith}
use Rattle.pg_tree.specs.Stored.{kept_in}
use Rattle.pg_tree.proofs.Ends.{end-positive, end_entries-le, size-at, size-le, end-before}
use Rattle.pg_tree.proofs.store.Store.begin_of.Goals as goal

pub overflow_sub-end : goal.overflow_sub-end
overflow_sub-end c = end-positive (kept_in c.args.self.now) c.args.index c.args.end c.requires.ends

pub index-requires : goal.index-requires
index-requires c =
    omega (
      arith,
      end-positive (kept_in c.args.self.now) c.args.index c.args.end c.requires.ends,
      end_entries-le _ _ _ _ c.requires.ends c.requires.kept.entries_are,
      c.args.self.now.entries.ok.0,
    )

pub overflow_sub-result : goal.overflow_sub-result
overflow_sub-result c = (size-le _ _ _ _ c.requires.ends (size-at _ _ _ _ _ _ c.requires.ends c.requires.kept.entries_are c.index.ensures c.extent-size.ensures)).0

pub overflow_sub-result-2 : goal.overflow_sub-result-2
overflow_sub-result-2 c = (size-le _ _ _ _ c.requires.ends (size-at _ _ _ _ _ _ c.requires.ends c.requires.kept.entries_are c.index.ensures c.extent-size.ensures)).1

pub overflow_sub-result-3 : goal.overflow_sub-result-3
overflow_sub-result-3 c = (size-le _ _ _ _ c.requires.ends (size-at _ _ _ _ _ _ c.requires.ends c.requires.kept.entries_are c.index.ensures c.extent-size.ensures)).2

pub returns : goal.returns
returns c = end-before _ _ _ _ c.requires.ends (size-at _ _ _ _ _ _ c.requires.ends c.requires.kept.entries_are c.index.ensures c.extent-size.ensures)
