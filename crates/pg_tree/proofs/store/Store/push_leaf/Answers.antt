use Rattle.std.proofs.Common.{◌-◌, arith, ap₂, sym, ◌∙◌}
use Rattle.pg_tree.proofs.Stored.{stored-push_leaf, stored-roots, on_ok}
use Rattle.pg_tree.proofs.store.Store.push_leaf.Goals as goal

pub overflow_add-self : goal.overflow_add-self
overflow_add-self c =
    omega (arith, stored-roots _ _ _ _ _ c.requires, c.args.self.now.entries.ok.0, c.args.self.now.entries.ok.1, c.args.self.now.entries.small)

pub returns-clause-ok : goal.returns-clause-ok
returns-clause-ok c =
    let texts = on_ok c.push_characters.result (sym c.is_err.ensures.value ∙ c.if-is_err.false) c.push_characters.ensures.ok in
    let entries = on_ok c.push_leaf_entry.result (sym c.is_err-2.ensures.value ∙ c.if-is_err-2.false) c.push_leaf_entry.ensures.ok in
    let long = ap₂ ◌-◌ (c.len.ensures ∙ c.push_characters.new.bytes.ok.0) (c.len-before.ensures ∙ c.args.self.now.texts.ok.0) in
    stored-push_leaf _ _ _ _ _ _ _ _ _ c.requires texts long entries
