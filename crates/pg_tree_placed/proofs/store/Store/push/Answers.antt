use Rattle.std.proofs.Common.{[], ap, sym, ◌∙◌, length}
use Rattle.pg_tree_placed.proofs.Making.{made_more, fit_more}
use Rattle.pg_tree_placed.proofs.store.Store.push.Goals as goal

pub returns-clause-ok : goal.returns-clause-ok
returns-clause-ok c =
    rw c.in_ok-push_entry.ensures.ok (made_more c.args.self.now.text.now c.args.self.now.labels.items [] c.args.self.now.entries.items c.args.entry)

pub returns-clause-whole : goal.returns-clause-whole
returns-clause-whole c = record {
  counted = rw c.in_ok-push_entry.ensures.ok (c.requires.roots
      ∙ sym (ap length (made_more c.args.self.now.text.now c.args.self.now.labels.items [] c.args.self.now.entries.items c.args.entry)));
  all_fit = rw c.in_ok-push_entry.ensures.ok (fit_more c.args.self.now.text.now c.args.self.now.labels.items [] c.args.self.now.entries.items c.args.entry
      c.requires.whole.all_fit c.requires.fits);
}
