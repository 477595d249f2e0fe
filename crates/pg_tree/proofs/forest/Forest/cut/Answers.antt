use Rattle.std.proofs.Common.{length, take, ap, ◌∙◌, arith}
use Rattle.pg_tree.specs.Stored.{kept_in}
use Rattle.pg_tree.proofs.Stored.{keeps-shown, listed-in}
use Rattle.pg_tree.proofs.Showing.{length-listed, listed-take, shown-take}
use Rattle.pg_tree.proofs.forest.Forest.cut.Goals as goal

pub cut-requires-clause-within : goal.cut-requires-clause-within
cut-requires-clause-within c = omega (arith, c.requires, ap length c.self.view_is, length-listed (kept_in c.self.inside.store))

pub invariant_of-self : goal.invariant_of-self
invariant_of-self c = keeps-shown _ _ _ _ _ c.cut.ensures (shown-take c.args.count _ c.self.invariant.1)

pub returns : goal.returns
returns c = listed-in _ _ _ _ _ c.cut.ensures ∙ listed-take c.args.count _ ∙ ap (take c.args.count) c.self.view_is
