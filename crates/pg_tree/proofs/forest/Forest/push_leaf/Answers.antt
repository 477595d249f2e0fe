use Rattle.std.proofs.Common.{◌++◌, ◌∷◌, [], encode_utf8_all, ap, ◌∙◌}
use Rattle.pg_tree.specs.Trees.{leaf}
use Rattle.pg_tree.specs.Stored.{kept_in}
use Rattle.pg_tree.proofs.Stored.{keeps-shown, listed-in}
use Rattle.pg_tree.proofs.Showing.{listed-leaf, shown-leaf}
use Rattle.pg_tree.proofs.forest.Forest.push_leaf.Goals as goal

pub invariant_of-self-2 : goal.invariant_of-self-2
invariant_of-self-2 c = keeps-shown _ _ _ _ _ c.in_ok-push_leaf.ensures.ok (shown-leaf (kept_in c.self.inside.store) (encode_utf8_all c.args.characters.now) c.self.invariant.1)

pub returns-clause-ok : goal.returns-clause-ok
returns-clause-ok c =
    listed-in _ _ _ _ _ c.in_ok-push_leaf.ensures.ok ∙ listed-leaf _ _ ∙ ap (λ us. us ++ leaf (encode_utf8_all c.args.characters.now) ∷ []) c.self.view_is
