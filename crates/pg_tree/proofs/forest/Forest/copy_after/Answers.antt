use Rattle.std.proofs.Common.{length, drop, ap, ◌∙◌, arith}
use Rattle.pg_tree.specs.Stored.{kept_in}
use Rattle.pg_tree.proofs.Stored.{keeps-shown, listed-in}
use Rattle.pg_tree.proofs.Showing.{length-listed, listed-drop, shown-drop}
use Rattle.pg_tree.proofs.forest.Forest.copy_after.Goals as goal

pub copy_after-requires-clause-within : goal.copy_after-requires-clause-within
copy_after-requires-clause-within c = omega (arith, c.requires, ap length c.self.view_is, length-listed (kept_in c.self.inside.store))

pub invariant_of-result : goal.invariant_of-result
invariant_of-result c = keeps-shown _ _ _ _ _ c.in_ok-store.ensures (shown-drop c.args.count _ c.self.invariant.1)

pub returns : goal.returns
returns c = listed-in _ _ _ _ _ c.in_ok-store.ensures ∙ listed-drop c.args.count _ ∙ ap (drop c.args.count) c.self.view_is
