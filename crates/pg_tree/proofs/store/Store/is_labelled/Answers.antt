use Rattle.std.proofs.Common.{◌≡◌, ◌-◌, take, drop, arith, ap, sym, ◌∙◌}
use Rattle.std.specs.Str.{bytes_eq}
use Rattle.pg_tree.specs.Stored.{kept_in}
use Rattle.pg_tree.proofs.Ends.{end-positive, end_entries-le, top-at}
use Rattle.pg_tree.proofs.Marking.{label-leaf, label-room, label-same}
use Rattle.pg_tree.proofs.store.Store.is_labelled.Goals as goal

pub overflow_sub-end : goal.overflow_sub-end
overflow_sub-end c = end-positive (kept_in c.args.self.now) c.args.index c.args.end c.requires.ends

pub index-requires : goal.index-requires
index-requires c =
    omega (
      arith,
      end-positive (kept_in c.args.self.now) c.args.index c.args.end c.requires.ends,
      end_entries-le _ _ _ _ c.requires.ends c.requires.kept.entries_are,
      c.args.self.now.entries.ok.0,
    )

pub overflow_sub-begin : goal.overflow_sub-begin
overflow_sub-begin c =
    let top = sym c.in-Node.is ∙ top-at _ _ _ _ _ _ c.requires.ends c.requires.kept.entries_are c.index.ensures in
    (label-room _ _ _ _ _ _ _ _ _ c.requires.ends c.requires.kept.labels_are top).0

pub are_bytes-requires-clause-within : goal.are_bytes-requires-clause-within
are_bytes-requires-clause-within c =
    let top = sym c.in-Node.is ∙ top-at _ _ _ _ _ _ c.requires.ends c.requires.kept.entries_are c.index.ensures in
    rw c.as_slice.ensures.value (label-room _ _ _ _ _ _ _ _ _ c.requires.ends c.requires.kept.labels_are top).1

pub returns-in-Leaf : goal.returns-in-Leaf
returns-in-Leaf c = label-leaf _ _ _ (sym c.in-Leaf.is ∙ top-at _ _ _ _ _ _ c.requires.ends c.requires.kept.entries_are c.index.ensures)

pub returns-in-Node : goal.returns-in-Node
returns-in-Node c =
    let top = sym c.in-Node.is ∙ top-at _ _ _ _ _ _ c.requires.ends c.requires.kept.entries_are c.index.ensures in
    let begin = c.args.end.labels - c.in-Node.own in
    c.are_bytes.ensures
    ∙ ap (λ all. bytes_eq (take (c.args.end.labels - begin) (drop begin all)) c.as_bytes.result.now) c.as_slice.ensures.value
    ∙ ap (λ label. bytes_eq (take (c.args.end.labels - begin) (drop begin c.args.self.now.labels.items)) label) c.as_bytes.ensures.value
    ∙ label-same _ _ _ _ _ _ _ _ _ _ c.requires.ends c.requires.kept.labels_are top
