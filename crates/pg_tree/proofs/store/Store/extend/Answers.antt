use Rattle.std.proofs.Common.{arith, ap, sym, ◌∙◌, ◌++◌}
use Rattle.pg_tree.proofs.Stored.{stored-append, stored-roots, ok_side}
use Rattle.pg_tree.proofs.store.Store.extend.Goals as goal

pub overflow_add-self : goal.overflow_add-self
overflow_add-self c =
    omega (
      arith,
      stored-roots _ _ _ _ _ c.requires.kept,
      stored-roots _ _ _ _ _ c.requires.other,
      c.args.self.now.entries.ok.0,
      c.args.self.now.entries.ok.1,
      c.args.self.now.entries.small,
      c.args.other.now.entries.ok.0,
      c.args.other.now.entries.ok.1,
      c.args.other.now.entries.small,
    )

pub returns-clause-ok : goal.returns-clause-ok
returns-clause-ok c =
    let entries = c.in_ok-extend_from_slice.ensures.items ∙ ap (λ own. c.args.self.now.entries.items ++ own) c.as_slice.ensures.value in
    let texts = ok_side c.extend_from_slice-2.result _ _ _ (sym c.is_err.ensures.value ∙ c.if-is_err.false) c.extend_from_slice-2.ensures.items
    ∙ ap (λ own. c.args.self.now.texts.items ++ own) c.as_slice-2.ensures.value in
    let labels = ok_side c.extend_from_slice-3.result _ _ _ (sym c.is_err-2.ensures.value ∙ c.if-is_err-2.false) c.extend_from_slice-3.ensures.items
    ∙ ap (λ own. c.args.self.now.labels.items ++ own) c.as_slice-3.ensures.value in
    rw (entries, texts, labels) (stored-append _ _ _ _ _ _ _ _ _ _ c.requires.kept c.requires.other)
