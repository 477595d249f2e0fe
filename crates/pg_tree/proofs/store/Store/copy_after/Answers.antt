use Rattle.std.proofs.Common.{drop, ap, ◌∙◌}
use Rattle.pg_tree.proofs.Ends.{end_entries-le, end_texts-le, end_labels-le, stored-drop}
use Rattle.pg_tree.proofs.store.Store.copy_after.Goals as goal

pub copy_from-requires : goal.copy_from-requires
copy_from-requires c = rw c.as_slice.ensures.value (end_entries-le _ _ _ _ c.end_of-end.ensures c.requires.kept.entries_are)

pub copy_from-requires-2 : goal.copy_from-requires-2
copy_from-requires-2 c = rw c.as_slice-2.ensures.value (end_texts-le _ _ _ _ c.end_of-end.ensures c.requires.kept.texts_are)

pub copy_from-requires-3 : goal.copy_from-requires-3
copy_from-requires-3 c = rw c.as_slice-3.ensures.value (end_labels-le _ _ _ _ c.end_of-end.ensures c.requires.kept.labels_are)

pub returns : goal.returns
returns c =
    let end = c.end_of-end.result in
    stored-drop _ _ _ _ _ _ _ _ _ _ c.requires.kept c.end_of-end.ensures (c.in_ok-copy_from.ensures ∙ ap (λ own. drop end.entries own) c.as_slice.ensures.value)
    (c.in_ok-copy_from-2.ensures ∙ ap (λ own. drop end.texts own) c.as_slice-2.ensures.value)
    (c.in_ok-copy_from-3.ensures ∙ ap (λ own. drop end.labels own) c.as_slice-3.ensures.value)
