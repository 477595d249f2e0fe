use Rattle.std.proofs.Common.{◌++◌, ap₂, ◌∙◌}
use Rattle.pg_tree.specs.Stored.{kept_in}
use Rattle.pg_tree.proofs.Stored.{keeps-shown, listed-in}
use Rattle.pg_tree.proofs.Showing.{listed-append, shown-append}
use Rattle.pg_tree.proofs.forest.Forest.append.Goals as goal

pub invariant_of-self-2 : goal.invariant_of-self-2
invariant_of-self-2 c = keeps-shown _ _ _ _ _ c.in_ok-append.ensures.ok (shown-append (kept_in c.self.inside.store) (kept_in c.other.inside.store) c.self.invariant.1 c.other.invariant.1)

pub returns-clause-ok : goal.returns-clause-ok
returns-clause-ok c = listed-in _ _ _ _ _ c.in_ok-append.ensures.ok ∙ listed-append _ _ ∙ ap₂ ◌++◌ c.self.view_is c.other.view_is
