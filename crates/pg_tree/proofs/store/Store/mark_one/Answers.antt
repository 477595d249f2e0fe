use Rattle.std.proofs.Common.{◌∙◌, sym, refl, arith}
use Rattle.pg_tree.specs.Stored.{kept_in}
use Rattle.pg_tree.proofs.Ends.{end-positive, end_entries-le}
use Rattle.pg_tree.proofs.Marking.{stored-away, stored-same, stored-if, stored-unless}
use Rattle.pg_tree.proofs.store.Store.mark_one.Goals as goal

pub overflow_sub-last : goal.overflow_sub-last
overflow_sub-last c = end-positive (kept_in c.args.self.now) c.args.index c.args.end c.requires.ends

pub index-requires : goal.index-requires
index-requires c =
    omega (
      arith,
      end-positive (kept_in c.args.self.now) c.args.index c.args.end c.requires.ends,
      end_entries-le _ _ _ _ c.requires.ends c.requires.kept.entries_are,
      c.args.self.now.entries.ok.0,
    )

pub index_mut-requires : goal.index_mut-requires
index_mut-requires c =
    omega (
      arith,
      end-positive (kept_in c.args.self.now) c.args.index c.args.end c.requires.ends,
      end_entries-le _ _ _ _ c.requires.ends c.requires.kept.entries_are,
      c.args.self.now.entries.ok.0,
    )

pub returns-then-is_labelled : goal.returns-then-is_labelled
returns-then-is_labelled c =
    stored-if _ c.args.self.now.entries.items _ _ _ _ _ _ (sym c.is_labelled.ensures ∙ c.if-is_labelled.true)
    (stored-away _ _ _ _ _ _ _ _ _ _ _ c.requires.kept c.requires.ends c.index.ensures c.put_away.ensures refl)

pub returns-else-is_labelled : goal.returns-else-is_labelled
returns-else-is_labelled c =
    stored-unless _ _ _ _ _ _ _ (sym c.is_labelled.ensures ∙ c.if-is_labelled.false) (stored-same _ _ _ _ _ _ _ c.requires.kept c.requires.ends)
