use Rattle.std.proofs.Common.{◌-◌, arith, ap, sym, ◌∙◌}
use Rattle.pg_tree.proofs.Stored.{stored-roots, on_ok, on_err}
use Rattle.pg_tree.proofs.Ends.{end_texts-le, stored-take, stored-join}
use Rattle.pg_tree.proofs.store.Store.join.Goals as goal

pub overflow_sub-bytes : goal.overflow_sub-bytes
overflow_sub-bytes c = omega (arith, end_texts-le _ _ _ _ c.end_of-begin.ensures c.requires.kept.texts_are, c.len.ensures, c.args.self.now.texts.ok.0)

pub returns-then-is_err-clause-err : goal.returns-then-is_err-clause-err
returns-then-is_err-clause-err c =
    let entries = on_err c.push_leaf_entry.result (sym c.is_err.ensures.value ∙ c.if-is_err.true) c.push_leaf_entry.ensures.err ∙ c.truncate.ensures.items in
    stored-take _ _ _ _ _ _ _ _ _ _ c.requires.kept c.end_of-begin.ensures entries c.truncate-then-is_err.ensures.items c.truncate-2.ensures.items

pub overflow_add-self : goal.overflow_add-self
overflow_add-self c =
    omega (
      arith,
      c.requires.within,
      c.requires.kept.roots_are,
      stored-roots _ _ _ _ _ c.requires.kept,
      c.args.self.now.entries.ok.0,
      c.args.self.now.entries.ok.1,
      c.args.self.now.entries.small,
    )

pub returns-clause-ok : goal.returns-clause-ok
returns-clause-ok c =
    let size = ap (λ n. n - c.end_of-begin.result.texts) (c.len.ensures ∙ c.args.self.now.texts.ok.0) in
    let entries = on_ok c.push_leaf_entry.result (sym c.is_err.ensures.value ∙ c.if-is_err.false) c.push_leaf_entry.ensures.ok in
    stored-join _ _ _ _ _ _ _ _ _ _ _ c.requires.kept c.end_of-begin.ensures size c.truncate.ensures.items entries c.truncate-2.ensures.items
