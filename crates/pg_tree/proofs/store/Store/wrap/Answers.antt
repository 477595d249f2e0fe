use Rattle.std.proofs.Common.{◌++◌, ◌∷◌, [], arith, ap, sym, ◌∙◌}
use Rattle.pg_tree.proofs.Stored.{stored-roots, ok_side}
use Rattle.pg_tree.proofs.Ends.{end_entries-le, end_texts-le, end_labels-le, stored-wrap}
use Rattle.pg_tree.proofs.store.Store.wrap.Goals as goal

pub head-requires-clause-entries : goal.head-requires-clause-entries
head-requires-clause-entries c = end_entries-le _ _ _ _ c.end_of-begin.ensures c.requires.kept.entries_are

pub head-requires-clause-texts : goal.head-requires-clause-texts
head-requires-clause-texts c = end_texts-le _ _ _ _ c.end_of-begin.ensures c.requires.kept.texts_are

pub head-requires-clause-labels : goal.head-requires-clause-labels
head-requires-clause-labels c = end_labels-le _ _ _ _ c.end_of-begin.ensures c.requires.kept.labels_are

pub overflow_add-self : goal.overflow_add-self
overflow_add-self c =
    omega (
      arith,
      c.requires.within,
      c.requires.kept.roots_are,
      stored-roots _ _ _ _ _ c.requires.kept,
      c.args.self.now.entries.ok.0,
      c.args.self.now.entries.ok.1,
      c.args.self.now.entries.small,
    )

pub returns-clause-ok : goal.returns-clause-ok
returns-clause-ok c =
    let s = c.args.self.now in
    let labels = c.in_ok-extend_from_slice.ensures.items ∙ ap (λ own. s.labels.items ++ own) c.as_bytes.ensures.value in
    let entries = ok_side c.push.result _ _ _ (sym c.is_err.ensures.value ∙ c.if-is_err.false) c.push.ensures.items
    ∙ ap (λ e. s.entries.items ++ e ∷ []) c.in_ok-entry.ensures in
    stored-wrap _ _ _ _ _ _ _ _ _ _ c.requires.kept c.end_of-begin.ensures labels entries
