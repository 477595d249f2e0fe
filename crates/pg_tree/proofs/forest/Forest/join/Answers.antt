use Rattle.std.proofs.Common.{length, take, drop, ◌++◌, ◌∷◌, [], ap, ◌∙◌, arith}
use Rattle.pg_tree.specs.Trees.{leaf, kids_of}
use Rattle.pg_tree.specs.Built.{kids_text}
use Rattle.pg_tree.specs.Stored.{kept_in, texts_of}
use Rattle.pg_tree.proofs.Stored.{keeps-shown, listed-in}
use Rattle.pg_tree.proofs.Showing.{length-listed, listed-joined, shown-take, shown-leaf}
use Rattle.pg_tree.proofs.forest.Forest.join.Goals as goal

pub join-requires-clause-within : goal.join-requires-clause-within
join-requires-clause-within c = omega (arith, c.requires, ap length c.self.view_is, length-listed (kept_in c.self.inside.store))

pub invariant_of-self : goal.invariant_of-self
invariant_of-self c = keeps-shown _ _ _ _ _ c.in_err-join.ensures.err (shown-take c.args.count _ c.self.invariant.1)

pub invariant_of-self-2 : goal.invariant_of-self-2
invariant_of-self-2 c =
    let ts = kept_in c.self.inside.store in
    keeps-shown _ _ _ _ _ c.in_ok-join.ensures.ok (shown-leaf (take c.args.count ts) (texts_of (drop c.args.count ts)) (shown-take c.args.count ts c.self.invariant.1))

pub returns : goal.returns
returns c =
    listed-in _ _ _ _ _ c.in_ok-join.ensures.ok ∙ listed-joined _ c.args.count c.self.invariant.1
    ∙ ap (λ us. take c.args.count us ++ leaf (kids_text (kids_of (drop c.args.count us))) ∷ []) c.self.view_is
