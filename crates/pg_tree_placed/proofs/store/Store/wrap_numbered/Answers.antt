use Rattle.std.proofs.Common.{sym, ◌∙◌}
use Rattle.pg_tree_placed.proofs.Singles.{single_made, single_fits, single_counts}
use Rattle.pg_tree_placed.proofs.store.Store.wrap_numbered.Goals as goal

pub returns-in-Some-clause-done : goal.returns-in-Some-clause-done
returns-in-Some-clause-done c =
    let s = c.args.self.now in
    let it = c.in-Some.ensures in
    λ _. single_made s.text.now s.labels.items it.ends.0 s.entries.items c.put_last.new.entries.items it.last c.in-Some.entry c.args.number c.args.count c.args.is_flat it.ends.1
    (c.put_last.ensures it.ends.0 it.last it.ends.1) it.around (it.size ∙ c.requires.whole.counted)

pub returns-in-Some-clause-whole : goal.returns-in-Some-clause-whole
returns-in-Some-clause-whole c =
    let s = c.args.self.now in
    let it = c.in-Some.ensures in
    let old = s.entries.items in
    let new = c.put_last.new.entries.items in
    let number = c.args.number in
    let ends = c.put_last.ensures it.ends.0 it.last it.ends.1 in
    record {
      counted = c.requires.whole.counted
          ∙ sym (single_counts s.text.now s.labels.items it.ends.0 old new it.last c.in-Some.entry number it.ends.1 ends it.around);
      all_fit = single_fits s.text.now s.labels.items it.ends.0 old new it.last c.in-Some.entry number it.ends.1 ends it.around c.requires.there
          c.requires.whole.all_fit;
    }
