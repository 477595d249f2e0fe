use Rattle.std.proofs.Common.{length, take, drop, ◌++◌, ◌∷◌, [], ap, ◌∙◌, arith}
use Rattle.pg_tree.specs.Trees.{node, kids_of}
use Rattle.pg_tree.specs.Stored.{kept_in}
use Rattle.pg_tree.proofs.Stored.{keeps-shown, listed-in}
use Rattle.pg_tree.proofs.Showing.{length-listed, listed-wrapped, shown-wrapped}
use Rattle.pg_tree.proofs.forest.Forest.wrap.Goals as goal

pub wrap-requires-clause-within : goal.wrap-requires-clause-within
wrap-requires-clause-within c = omega (arith, c.requires, ap length c.self.view_is, length-listed (kept_in c.self.inside.store))

pub invariant_of-self-2 : goal.invariant_of-self-2
invariant_of-self-2 c = keeps-shown _ _ _ _ _ c.in_ok-wrap.ensures.ok (shown-wrapped _ c.args.count _ _ c.self.invariant.1)

pub returns : goal.returns
returns c =
    listed-in _ _ _ _ _ c.in_ok-wrap.ensures.ok ∙ listed-wrapped _ c.args.count _ c.self.invariant.1
    ∙ ap (λ us. take c.args.count us ++ node c.args.label.now (kids_of (drop c.args.count us)) ∷ []) c.self.view_is
