use Rattle.std.proofs.Common.{[], ap, sym, ◌∙◌, length}
use Rattle.pg_tree_placed.proofs.Making.{made_labels, fit_labels}
use Rattle.pg_tree_placed.proofs.store.Store.number.Goals as goal

pub returns-clause-same : goal.returns-clause-same
returns-clause-same c = rw c.number_of.ensures.others.1 (made_labels _ _ _ [] _ c.requires.all_fit)

pub returns-clause-whole : goal.returns-clause-whole
returns-clause-whole c = record {
  counted = rw c.number_of.ensures.others.1 (c.requires.counted ∙ sym (ap length (made_labels _ _ _ [] _ c.requires.all_fit)));
  all_fit = rw c.number_of.ensures.others.1 (fit_labels _ _ _ [] _ c.requires.all_fit);
}
