use Rattle.std.proofs.Common.{◌≡◌, ◌≤◌, length, take, drop, ◌++◌, ◌∷◌, [], ap, sym, ◌∙◌, arith}
use Rattle.pg_tree.specs.Trees.{node, kids_of}
use Rattle.pg_tree.specs.Built.{flattened}
use Rattle.pg_tree.specs.Kept.{kepts_of}
use Rattle.pg_tree.specs.Stored.{kept_in}
use Rattle.pg_tree.proofs.Stored.{stored-shown, shown-stored, keeps-shown, listed-in, on_ok, on_err}
use Rattle.pg_tree.proofs.Marking.{length-marked_after}
use Rattle.pg_tree.proofs.Showing.{length-listed, listed-flattened, take-marked, shown-take, shown-wrapped-taken}
use Rattle.pg_tree.proofs.forest.Forest.flatten.Goals as goal

pub mark-requires-clause-within : goal.mark-requires-clause-within
mark-requires-clause-within c = omega (arith, c.requires, ap length c.self.view_is, length-listed (kept_in c.self.inside.store))

pub wrap-requires-clause-kept : goal.wrap-requires-clause-kept
wrap-requires-clause-kept c = stored-shown _ _ _ _ _ c.mark.ensures

pub wrap-requires-clause-within : goal.wrap-requires-clause-within
wrap-requires-clause-within c =
    let ts = kept_in c.self.inside.store in
    let within : c.args.count ≤ length ts = omega (arith, c.requires, ap length c.self.view_is, length-listed ts) in
    omega (arith, within, ap length (shown-stored _ _ _ _ _ c.mark.ensures), length-marked_after c.args.label.now c.args.count ts within)

pub cut-requires-clause-kept : goal.cut-requires-clause-kept
cut-requires-clause-kept c = stored-shown _ _ _ _ _ (on_err c.wrap.result (sym c.is_err.ensures.value ∙ c.if-is_err.true) c.wrap.ensures.err)

pub cut-requires-clause-within : goal.cut-requires-clause-within
cut-requires-clause-within c =
    let ts = kept_in c.self.inside.store in
    let within : c.args.count ≤ length ts = omega (arith, c.requires, ap length c.self.view_is, length-listed ts) in
    let same = shown-stored _ _ _ _ _ (on_err c.wrap.result (sym c.is_err.ensures.value ∙ c.if-is_err.true) c.wrap.ensures.err) in
    omega (arith, within, ap length (same ∙ shown-stored _ _ _ _ _ c.mark.ensures), length-marked_after c.args.label.now c.args.count ts within)

pub invariant_of-self : goal.invariant_of-self
invariant_of-self c =
    let ts = kept_in c.self.inside.store in
    let within : c.args.count ≤ length ts = omega (arith, c.requires, ap length c.self.view_is, length-listed ts) in
    let same = shown-stored _ _ _ _ _ (on_err c.wrap.result (sym c.is_err.ensures.value ∙ c.if-is_err.true) c.wrap.ensures.err) in
    let first = take-marked ts (kept_in c.wrap.new.self) c.args.count c.args.label.now within (same ∙ shown-stored _ _ _ _ _ c.mark.ensures) in
    keeps-shown _ _ _ _ _ c.cut.ensures (rw first (shown-take c.args.count ts c.self.invariant.1))

pub invariant_of-self-else-is_err : goal.invariant_of-self-else-is_err
invariant_of-self-else-is_err c =
    let ts = kept_in c.self.inside.store in
    let within : c.args.count ≤ length ts = omega (arith, c.requires, ap length c.self.view_is, length-listed ts) in
    let first = take-marked ts (kept_in c.mark.new.self) c.args.count c.args.label.now within (shown-stored _ _ _ _ _ c.mark.ensures) in
    let us = kept_in c.mark.new.self in
    let ok = on_ok c.wrap.result (sym c.is_err.ensures.value ∙ c.if-is_err.false) c.wrap.ensures.ok in
    keeps-shown _ _ _ _ _ ok (shown-wrapped-taken us c.args.count c.args.label.now (kepts_of (drop c.args.count us)) (rw first (shown-take c.args.count ts c.self.invariant.1)))

pub returns : goal.returns
returns c =
    let ts = kept_in c.self.inside.store in
    let within : c.args.count ≤ length ts = omega (arith, c.requires, ap length c.self.view_is, length-listed ts) in
    let ok = on_ok c.wrap.result (sym c.is_err.ensures.value ∙ c.if-is_err.false) c.wrap.ensures.ok in
    listed-in _ _ _ _ _ ok ∙ listed-flattened ts _ c.args.count c.args.label.now c.self.invariant.1 within (shown-stored _ _ _ _ _ c.mark.ensures)
    ∙ ap (λ us. take c.args.count us ++ node c.args.label.now (flattened c.args.label.now (kids_of (drop c.args.count us))) ∷ []) c.self.view_is
